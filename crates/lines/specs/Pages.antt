-- Bytes put on a page. Assumes nothing: these are definitions.
use Rattle.std.specs.Prelude.{ℕ, ◌≤◌, ◌≡◌, List, ◌++◌, length, take, drop}

-- behind the first `at` bytes of a page stand others then, as far as they fit; the first r are filled, and the rest is as it was
pub record Put (page : List ℕ) (at : ℕ) (bytes : List ℕ) (page' : List ℕ) (r : ℕ) : Type 0 where
  pub onwards : at ≤ r
  pub within : r ≤ length page
  pub filled : take r page' ≡ take (length page) (take at page ++ bytes)
  pub behind : drop r page' ≡ drop r page

-- a page that starts with bytes, all of them: the first r; the rest is as it was
pub record PutWhole (page : List ℕ) (bytes : List ℕ) (page' : List ℕ) (r : ℕ) : Type 0 where
  pub count : r ≡ length bytes
  pub content : page' ≡ bytes ++ drop (length bytes) page

-- the first r bytes of a page are a text, whole
pub record Front (text page : List ℕ) (r : ℕ) : Type 0 where
  pub within : r ≤ length page
  pub front : take r page ≡ text

-- Where a letter and its listing stand at the front of a list of bytes. Assumes nothing: these are definitions.
use Rattle.std.specs.Prelude.{ℕ, ◌≤◌, Option, IfSome}
use Rattle.letters.specs.declared.list.Letter.{Letter}

-- a letter and its listing stand one behind the other within a list of so many bytes
pub record Whole (bytes : ℕ) (l : Letter) : Type 0 where
  pub letter : 4 ≤ l.letter
  pub listing : l.letter ≤ l.listing
  pub end : l.listing ≤ l.end
  pub within : l.end ≤ bytes

-- what was found at the front, if anything
abbrev pub FrontWhole : ℕ → Option Letter → Type 0
FrontWhole bytes found = IfSome found (λ l. Whole bytes l)

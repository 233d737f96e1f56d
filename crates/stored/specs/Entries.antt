-- 01, Stored form: one block of a stored list, its numbers and its text. Assumes nothing: these are definitions.
use Rattle.std.specs.Prelude.{ℕ, zero, suc, ◌+◌, ◌≤◌, ◌≡◌, List, [], ◌∷◌, ◌++◌, cond, ◌&&◌, length, take, drop, get_or, leb, ltb}
use Rattle.answers.specs.declared.Why.{Why}
use Rattle.answers.specs.declared.Why.TheVariants.{StoredShort, StoredField}
use Rattle.answers.specs.Answers.{refusal, Found, found, refused}
use Rattle.sevens.specs.declared.Numeral.{Numeral}
use Rattle.sevens.specs.Sevens.{number_of}
use Rattle.wellformed.specs.WellFormed.{is_utf8}
use Rattle.styles.specs.declared.Style.{Style}
use Rattle.styles.specs.Styles.{bare_width}
use Rattle.blocks.specs.Pages.{Last, starts}
use Rattle.fields.specs.Fields.{in_range, style_from, block_numbers}
use Rattle.stored.specs.declared.entry.Entry.{Entry}
use Rattle.std.specs.Prelude.{Result, Ok, Err}
use Rattle.answers.specs.declared.Refusal.{Refusal}

-- numbers one after the other, and how many bytes they have
pub record Numbers : Type 0 where
  pub values : List ℕ
  pub size : ℕ

-- numbers behind others
abbrev pub behind : List ℕ → ℕ → Found Numbers → Found Numbers
behind vs n (found q) = found (record { values = vs ++ q.values; size = n + q.size })
behind vs n (refused r) = refused r

abbrev pub and_more : Result Numeral Why → (ℕ → Found Numbers) → Found Numbers
and_more (Ok x) more = behind (x.value ∷ []) x.length (more x.length)
and_more (Err why) more = refused (refusal why)

-- "each number in turn"
unfoldable pub numbers_from : ℕ → List ℕ → Found Numbers
numbers_from zero s = found (record { values = []; size = 0 })
numbers_from (suc k) s = and_more (number_of s) (λ (n : ℕ). numbers_from k (drop n s))

abbrev pub as_entry : Style → ℕ → ℕ → Entry
as_entry st m n = record { style = st; numbers = m; text = n }

-- "24 for ranges, length and style, 22 for the text, 24 for UTF-8": a block of a style and n bytes of text, where a block l
-- came before, its numbers have m bytes and s follows them
unfoldable pub ruled : Last → Style → ℕ → ℕ → List ℕ → Result Entry Refusal
ruled l st n m s =
    cond (in_range st && (ltb 0 n && starts l st))
    (cond (leb n (length s)) (cond (is_utf8 (take n s)) (Ok (as_entry st m n)) (Err (refusal StoredField))) (Err (refusal StoredShort)))
    (Err (refusal StoredField))

abbrev pub entry_of : Last → List ℕ → Found Numbers → Result Entry Refusal
entry_of l s (found q) = ruled l (style_from q.values) (get_or q.values bare_width 0) q.size (drop q.size s)
entry_of l s (refused r) = Err r

-- the block that a list starts with: its style, how many bytes its numbers have, and how many its text
unfoldable pub entry : Last → List ℕ → Result Entry Refusal
entry l s = entry_of l s (numbers_from block_numbers s)

-- what a function answers that reads numbers from k bytes into words
abbrev pub NumbersIn : Found Numbers → ℕ → Result ℕ Refusal → List ℕ → Type 0
NumbersIn (found q) k r ws = (r ≡ Ok q.size) × (ws ≡ q.values) × (q.size ≤ k)
NumbersIn (refused f) k r ws = r ≡ Err f

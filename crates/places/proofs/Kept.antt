-- Wherever a place is carried, it lies in the source and a slice starts there; any other number has place 0.
--     cut-kept, read_kept   specs/Promise, of cutting and of reading
-- Assumes nothing.
use mathlib.Core.Path.{◌≡◌, refl}
use mathlib.Core.List.{List, [], ◌∷◌}
use mathlib.Core.Bool.{Bool, true, false, cond}
use Prim.Native.Nat.{ℕ, ◌+◌}
use native.Mathlib.Omega.{arith}
use lib.Dec.{leb}
use Rattle.answers.specs.declared.Refusal.{Refusal}
use Rattle.answers.specs.declared.Why.TheVariants.{TokenRoom, NoTokens, FirstToken}
use Rattle.answers.specs.Answers.{refusal, Found, found, refused, Told}
use Rattle.answers.proofs.Refusals.{told_at, told_none}
use Rattle.rooms.specs.Streams.{Stream, end, stop, ◌▸◌, items, answer, ended}
use Rattle.rooms.specs.Rooms.{capacity, table_limit, settled}
use Rattle.tokens.specs.Tokens.{Shown, Token, token, token_words, token_layout}
use Rattle.cutter.specs.Cutting.{token_stream, cut_answer, SliceAt, SlicesIn}
use Rattle.cutter.proofs.Starts.{stream-slices, stream-stops}
use Rattle.machine.proofs.Places.{StopsAt}
use Rattle.fonts.specs.Rows.{font_words}
use Rattle.colours.specs.Colours.{colour_words}
use Rattle.walk.specs.Walk.{walk}
use Rattle.header.specs.Entering.{Tables}
use Rattle.header.specs.Header.{tables}
use Rattle.readings.specs.declared.Reading.{Reading}
use Rattle.blocks.specs.Pages.{Piece}
use Rattle.parser.specs.Parsing.{begun, Sizes, Letter, letter_from, placed, bodied, headed, walked}
use Rattle.reader.specs.Reading.{cut, letter_of, answered, read_answer}
use Rattle.places.specs.Promise.{CutPromise, ReadPromise}
use Rattle.places.proofs.Walks.{TokensAt, walk_at}
use Rattle.places.proofs.Tables.{FoundAt, tables-at}
use Rattle.places.proofs.Bodies.{placed_at}
use Rattle.std.specs.Prelude.{Result, Ok, Err}

-- ---- cutting

abbrev OutcomeAt : (ℕ → Type 0) → Result ℕ Refusal → Type 0
OutcomeAt P (Ok n) = Unit {0}
OutcomeAt P (Err r) = Told P r

cut_at : (rd : Reading) (src : List ℕ) (total : ℕ) → OutcomeAt (SliceAt rd src) (cut_answer rd src total)
unfolding cut_answer settled
cut_at rd src total = go (answer 0 (token_stream rd src)) refl
  where
    fits : (n : ℕ) (t : Bool) → OutcomeAt (SliceAt rd src) (cond t (Ok n) (Err (refusal TokenRoom)))
    fits n true = tt
    fits n false = told_none (SliceAt rd src) TokenRoom refl

    go : (o : Result ℕ Refusal) → answer 0 (token_stream rd src) ≡ o → OutcomeAt (SliceAt rd src) (settled token_layout (refusal TokenRoom) total o)
    go (Ok n) e = fits n (leb n (capacity token_words total))
    go (Err r) e = stream-stops rd src e

refused-told : (P : ℕ → Type 0) {o : Result ℕ Refusal} {r : Refusal} → OutcomeAt P o → o ≡ Err r → Told P r
refused-told P h e = rw e at h

pub cut-kept : CutPromise
cut-kept rd src total r e = refused-told (SliceAt rd src) (cut_at rd src total) e

-- ---- reading

module _ (P : ℕ → Type 0) where
  answer_at : (s : Stream Refusal Piece) (n : ℕ) → StopsAt P s → OutcomeAt P (answer n s)
  unfolding ended
  answer_at end n h = tt
  answer_at (stop r) n h = h
  answer_at (x ▸ s) n h = answer_at s (n + 1) h

  letter_at : (h : Tables) (s : Stream Refusal Piece) (o : Result ℕ Refusal) → OutcomeAt P o → FoundAt P (letter_from h s o)
  letter_at h s (Ok n) k = tt
  letter_at h s (Err r) k = k

  headed-at : (rd : Reading) (b t : ℕ) (ts : List Token) (x : Found Tables) → TokensAt P ts → FoundAt P x → FoundAt P (headed rd b t ts x)
  unfolding bodied
  headed-at rd b t ts (found h) k q = letter_at h (placed rd b t ts) (answer 0 (placed rd b t ts)) (answer_at (placed rd b t ts) 0 (placed_at P rd b t ts k))
  headed-at rd b t ts (refused r) k q = q

  begun-at : (rd : Reading) (z : Sizes) (ts : List Token) → TokensAt P ts → FoundAt P (walked rd z (begun ts))
  begun-at rd z [] k = told_none P NoTokens refl
  begun-at rd z (token p n Shown.opening ∷ ts) k =
      let all : List Token = token p n Shown.opening ∷ ts in
      headed-at rd z.blocks z.text all (tables (table_limit font_words z.fonts) (table_limit colour_words z.colours) (walk all)) k
      (tables-at P (table_limit font_words z.fonts) (table_limit colour_words z.colours) (walk all) (walk_at P all k))
  begun-at rd z (token p n Shown.closing ∷ ts) k = told_at P FirstToken p k.0
  begun-at rd z (token p n Shown.line_break ∷ ts) k = told_at P FirstToken p k.0
  begun-at rd z (token p n Shown.ignorable ∷ ts) k = told_at P FirstToken p k.0
  begun-at rd z (token p n (Shown.text q bs) ∷ ts) k = told_at P FirstToken p k.0
  begun-at rd z (token p n (Shown.word w num) ∷ ts) k = told_at P FirstToken p k.0
  begun-at rd z (token p n (Shown.unknown q bs num) ∷ ts) k = told_at P FirstToken p k.0
  begun-at rd z (token p n (Shown.symbol b num) ∷ ts) k = told_at P FirstToken p k.0

-- the tokens of a source
tokens-at : (rd : Reading) (src : List ℕ) (ts : List Token) → SlicesIn rd src ts → TokensAt (SliceAt rd src) ts
tokens-at rd src [] h = tt
tokens-at rd src (t ∷ ts) h = (h.0.at, tokens-at rd src ts h.1)

whole-at : (rd : Reading) (src : List ℕ) (z : Sizes) → FoundAt (SliceAt rd src) (letter_of rd src z)
unfolding letter_of
whole-at rd src z = go (cut_answer rd src z.tokens) (cut_at rd src z.tokens)
  where
    go : (o : Result ℕ Refusal) → OutcomeAt (SliceAt rd src) o → FoundAt (SliceAt rd src) (cut rd z (items (token_stream rd src)) o)
    go (Ok n) h = begun-at (SliceAt rd src) rd z (items (token_stream rd src)) (tokens-at rd src (items (token_stream rd src)) (stream-slices rd src))
    go (Err r) h = h

pub read_kept : ReadPromise
unfolding read_answer
read_kept rd src z r e = go (letter_of rd src z) (whole-at rd src z) e
  where
    go : (x : Found Letter) → FoundAt (SliceAt rd src) x → answered rd src x ≡ Err r → Told (SliceAt rd src) r
    go (found l) h e = absurd (let w : Ok _ ≡ Err r = e in let v : ◌≡◌ {A = ℕ} 0 1 = cc in omega arith)
    go (refused q) h e = let d : q ≡ r = cc in rw d at h

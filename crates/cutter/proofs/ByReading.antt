-- The tokens of a slice by the reading, and the last slice: what both rule sets say of their own.
--     count_by, next-by    a slice has at most one token for each byte
--     stand-by             what its tokens show stands in it
--     slice-standard, slice-other, last-standard, last-other   by whether the reading is the specification's, as the code asks it
-- Assumes nothing.
use mathlib.Core.Path.{◌≡◌, refl, sym, ◌∙◌}
use mathlib.Core.List.{List, []}
use mathlib.Core.Bool.{Bool, true, false, true≢false, false≢true}
use Prim.Native.Nat.{ℕ, ◌+◌, ◌≤◌}
use native.Mathlib.Omega.{arith}
use lib.ListN.{length}
use Rattle.readings.specs.declared.Reading.{Reading}
use Rattle.readings.specs.declared.Reading.TheVariants.{Plain, Paragraphs, Standard}
use Rattle.readings.specs.Readings.{is_standard}
use Rattle.rooms.specs.Streams.{count}
use Rattle.rooms.specs.Rooms.{Wrote}
use Rattle.rooms.proofs.Streams.{Each, ended-count}
use Rattle.slices.specs.Slices.{slices, with_feeds, standard_slices, slices_by}
use Rattle.tokens.specs.Tokens.{shown_layout, token_layout}
use Rattle.controls.proofs.Places.{Stands}
use Rattle.tokenize.specs.Tokenize.{tokens}
use Rattle.tokenize.proofs.Sizes.{count-tokens}
use Rattle.tokenize.proofs.Places.{tokens-stand}
use Rattle.standard.specs.Standard.{tokens as standard_tokens}
use Rattle.standard.proofs.Sizes.{count-tokens as count-standard}
use Rattle.standard.proofs.Places.{tokens-stand as standard-stand}
use Rattle.cutter.specs.Cutting.{tokens_by, last, last_by}
use Rattle.std.specs.Prelude.{Result, Ok}
use Rattle.answers.specs.declared.Why.{Why}
use Rattle.answers.specs.declared.Refusal.{Refusal}

pub count_by : (rd : Reading) (p : ℕ) (s : List ℕ) → count (tokens_by rd p s) ≤ length s
count_by Plain p s = count-tokens Plain p s
count_by Paragraphs p s = count-tokens Paragraphs p s
count_by Standard p s = count-standard p s

pub next-by : (rd : Reading) (p : ℕ) (s : List ℕ) {n m : ℕ} {r : Result ℕ Why} {room room' : List ℕ} → Wrote shown_layout n room (tokens_by rd p s) r room' → r ≡ Ok m → m ≤ n + length s
next-by rd p s {n} {m} v d = omega (arith, ended-count (tokens_by rd p s) n m (sym v.says ∙ d), count_by rd p s)

pub stand-by : (rd : Reading) (p : ℕ) (s : List ℕ) → Each (Stands s p) (tokens_by rd p s)
stand-by Plain p s = tokens-stand Plain p s
stand-by Paragraphs p s = tokens-stand Paragraphs p s
stand-by Standard p s = standard-stand p s

pub none-by : (rd : Reading) → slices_by rd [] ≡ []
unfolding slices with_feeds standard_slices
none-by Plain = refl
none-by Paragraphs = refl
none-by Standard = refl

module _ (p : ℕ) (s : List ℕ) {n : ℕ} {room room' : List ℕ} where
  module _ {r : Result ℕ Why} where
    pub slice-standard : (rd : Reading) {b : Bool} → b ≡ is_standard rd → b ≡ true → Wrote shown_layout n room (standard_tokens p s) r room' → Wrote shown_layout n room (tokens_by rd p s) r room'
    slice-standard Plain q e w = absurd (true≢false (sym e ∙ q))
    slice-standard Paragraphs q e w = absurd (true≢false (sym e ∙ q))
    slice-standard Standard q e w = w

    pub slice-other : (rd : Reading) {b : Bool} → b ≡ is_standard rd → b ≡ false → Wrote shown_layout n room (tokens rd p s) r room' → Wrote shown_layout n room (tokens_by rd p s) r room'
    slice-other Plain q e w = w
    slice-other Paragraphs q e w = w
    slice-other Standard q e w = absurd (false≢true (sym e ∙ q))

  module _ {r : Result ℕ Refusal} where
    pub last-standard : (rd : Reading) {b : Bool} → b ≡ is_standard rd → b ≡ true → Wrote token_layout n room (last_by Standard p s) r room' → Wrote token_layout n room (last_by rd p s) r room'
    last-standard Plain q e w = absurd (true≢false (sym e ∙ q))
    last-standard Paragraphs q e w = absurd (true≢false (sym e ∙ q))
    last-standard Standard q e w = w

    pub last-other : (rd : Reading) {b : Bool} → b ≡ is_standard rd → b ≡ false → Wrote token_layout n room (last p s) r room' → Wrote token_layout n room (last_by rd p s) r room'
    last-other Plain q e w = w
    last-other Paragraphs q e w = w
    last-other Standard q e w = absurd (false≢true (sym e ∙ q))

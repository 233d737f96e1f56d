-- A slice gives at most one token for each byte. Assumes nothing.
use mathlib.Core.Path.{◌≡◌, sym, ◌∙◌}
use mathlib.Core.List.{List, [], ◌∷◌}
use mathlib.Core.Bool.{Bool, true, false, cond}
use Prim.Native.Nat.{ℕ, ◌+◌, ◌≤◌}
use native.Mathlib.Omega.{arith}
use lib.ListN.{length, take, drop}
use lib.Dec.{eqb, ltb}
use Rattle.classes.specs.declared.Class.TheVariants.{White, WordEnd, InWord, Space, Numeral}
use Rattle.classes.specs.Bytes.{is_letter, in_class, lead, body}
use Rattle.numbers.specs.Numbers.{hex_pair, decimal}
use Rattle.rooms.specs.Streams.{Stream, count}
use Rattle.rooms.specs.Rooms.{Wrote}
use Rattle.rooms.proofs.Streams.{count-then, ended-count}
use Rattle.tokens.specs.Tokens.{Shown, shown_layout}
use Rattle.readings.specs.declared.Reading.{Reading}
use Rattle.readings.specs.declared.Reading.TheVariants.{Plain, Paragraphs, Standard}
use Rattle.controls.proofs.Words.{count-numbered}
use Rattle.tokenize.specs.Tokenize.{is_mark, is_escape, mark, plain, hex_value, hex_escape, line_break_and, named, bare_length, word_tail, word, other, behind_feed, returned, other_by, escaped, tokens}
use Rattle.answers.specs.declared.Why.{Why}
use Rattle.std.specs.Prelude.{Result, Ok, Option, Some, None}

-- a bound on both is a bound on a choice
either : (t : Bool) (a b : Stream Why Shown) (k : ℕ) → count a ≤ k → count b ≤ k → count (cond t a b) ≤ k
either true a b k p q = p
either false a b k p q = q

count-mark : (b : ℕ) → count (mark b) ≤ 1
unfolding mark count
count-mark b = either (eqb b 123) _ _ 1 (omega arith) (either (eqb b 125) _ _ 1 (omega arith) (omega arith))

count-plain : (p : ℕ) (s : List ℕ) → count (plain p s) ≤ 1
unfolding plain count
count-plain p s = either (eqb (lead (in_class White) s) (length s)) _ _ 1 (omega arith) (omega arith)

count-hex_value : (v : Option ℕ) (rest : Stream Why Shown) → count rest ≤ 1 → count (hex_value v rest) ≤ 2
unfolding hex_value count
count-hex_value (Some v) rest h = omega arith
count-hex_value None rest h = omega arith

count-hex_escape : (p : ℕ) (s : List ℕ) → count (hex_escape p s) ≤ 2
unfolding hex_escape count
count-hex_escape p [] = omega arith
count-hex_escape p (a ∷ []) = omega arith
count-hex_escape p (a ∷ b ∷ s) = count-hex_value (hex_pair a b) (plain (p + 4) s) (count-plain (p + 4) s)

count-break : (p : ℕ) (s : List ℕ) → count (line_break_and p s) ≤ 2
unfolding line_break_and count
count-break p s = omega (arith, count-plain (p + 2) s)

count-named : (p : ℕ) (w : List ℕ) → count (named p w) ≤ 1
unfolding named count
count-named p w =
    let k = body (in_class Numeral) w in
    either (eqb k (length w)) _ _ 1 (omega arith) (count-numbered p (take k w) (decimal (drop k w)))

count-tail : (p : ℕ) (s : List ℕ) → count (word_tail p s) ≤ 1
unfolding word_tail count
count-tail p [] = omega arith
count-tail p (b ∷ s) = either (ltb (lead (in_class WordEnd) (b ∷ s)) (length (b ∷ s))) _ _ 1 (count-plain p (b ∷ s)) (omega arith)

count_word : (p : ℕ) (s : List ℕ) → count (word p s) ≤ 2
unfolding word
count_word p s =
    let k = lead (in_class InWord) s in
    let a = named p (take (bare_length (take k s)) s) in
    let b = word_tail (p + 1 + (k + 1)) (drop (k + 1) s) in
    omega (arith, count-then a b, count-named p (take (bare_length (take k s)) s), count-tail (p + 1 + (k + 1)) (drop (k + 1) s))

count-other : (p : ℕ) (s : List ℕ) → count (other p s) ≤ 1
unfolding other count
count-other p s = either (ltb (lead (in_class Space) s) (length s)) _ _ 1 (omega arith) (omega arith)

count-feed : (p : ℕ) (s : List ℕ) → count (behind_feed p s) ≤ 1
count-feed p [] = count-plain p []
count-feed p (b ∷ s) = either (eqb b 10) _ _ 1 (count-plain (p + 1) s) (count-plain p (b ∷ s))

count-returned : (p : ℕ) (s : List ℕ) → count (returned p s) ≤ length s + 1
unfolding count
count-returned p [] = omega (arith, count-other p [])
count-returned p (b ∷ s) = either (eqb b 13) _ _ _ (omega (arith, count-feed (p + 2) s)) (omega (arith, count-other p (b ∷ s)))

count-other_by : (rd : Reading) (p : ℕ) (s : List ℕ) → count (other_by rd p s) ≤ length s + 1
unfolding other_by
count-other_by Plain p s = omega (arith, count-other p s)
count-other_by Paragraphs p s = count-returned p s
count-other_by Standard p s = count-returned p s

count-escaped : (rd : Reading) (p : ℕ) (s : List ℕ) → count (escaped rd p s) ≤ length s + 1
unfolding escaped count
count-escaped rd p [] = omega (arith, count-other p [])
count-escaped rd p (b ∷ s) =
    either (is_letter b) _ _ _ (omega (arith, count_word p (b ∷ s)))
    (either (is_escape b) _ _ _ (omega arith)
    (either (eqb b 39) _ _ _ (omega (arith, count-hex_escape p s))
    (either (eqb b 10) _ _ _ (omega (arith, count-break p s))
    (either (eqb b 42) _ _ _ (omega arith) (omega (arith, count-other_by rd p (b ∷ s)))))))

pub count-tokens : (rd : Reading) (p : ℕ) (s : List ℕ) → count (tokens rd p s) ≤ length s
unfolding tokens count
count-tokens rd p [] = omega arith
count-tokens rd p (b ∷ s) =
    either (is_mark b) _ _ _ (omega (arith, count-then (mark b) (tokens rd (p + 1) s), count-mark b, count-tokens rd (p + 1) s))
    (either (eqb b 92) _ _ _ (omega (arith, count-escaped rd p s)) (omega (arith, count-plain p (b ∷ s))))

-- the next place in the room, where a function has written and answered
pub named-next : (p : ℕ) (w : List ℕ) {n m : ℕ} {r : Result ℕ Why} {room room' : List ℕ} → Wrote shown_layout n room (named p w) r room' → r ≡ Ok m → m ≤ n + 1
named-next p w {n} {m} v d = omega (arith, ended-count (named p w) n m (sym v.says ∙ d), count-named p w)

pub mark-next : (b : ℕ) {n m : ℕ} {room room' : List ℕ} → Wrote shown_layout n room (mark b) (Ok m) room' → m ≤ n + 1
mark-next b {n} {m} v = omega (arith, ended-count (mark b) n m (sym v.says), count-mark b)

pub tokens-next : (rd : Reading) (p : ℕ) (s : List ℕ) {n m : ℕ} {r : Result ℕ Why} {room room' : List ℕ} → Wrote shown_layout n room (tokens rd p s) r room' → r ≡ Ok m → m ≤ n + length s
tokens-next rd p s {n} {m} v d = omega (arith, ended-count (tokens rd p s) n m (sym v.says ∙ d), count-tokens rd p s)

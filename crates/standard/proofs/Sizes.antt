-- A slice gives at most one token for each byte.
--     count-tokens   the tokens of a slice
--     named-next     the next place in the room, where a word was written
--     tokens-next    the same of a slice
-- Assumes nothing.
use mathlib.Core.Path.{◌≡◌, sym, ◌∙◌}
use mathlib.Core.List.{List, [], ◌∷◌}
use mathlib.Core.Bool.{Bool, true, false, cond, ◌||◌}
use Prim.Native.Nat.{ℕ, ◌+◌, ◌≤◌}
use native.Mathlib.Omega.{arith}
use lib.ListN.{length, take, drop, length-drop}
use lib.Dec.{eqb}
use Rattle.answers.specs.declared.Why.{Why}
use Rattle.classes.specs.declared.Class.TheVariants.{Alpha}
use Rattle.classes.specs.Bytes.{is_alpha, in_class, lead}
use Rattle.numbers.specs.Numbers.{hex_pair, decimal}
use Rattle.rooms.specs.Streams.{Stream, count}
use Rattle.rooms.specs.Rooms.{Wrote}
use Rattle.rooms.proofs.Streams.{count-then, ended-count}
use Rattle.tokens.specs.Tokens.{Shown, shown_layout}
use Rattle.controls.proofs.Words.{count-numbered}
use Rattle.standard.specs.Standard.{leads, tail, is_escape, number_length, named, word, hex_value, hex_escape, break_length, line_break_and, escaped, tokens}
use Rattle.std.specs.Prelude.{Result, Ok, Option, Some, None}

-- a bound on both is a bound on a choice
either : (t : Bool) (a b : Stream Why Shown) (k : ℕ) → count a ≤ k → count b ≤ k → count (cond t a b) ≤ k
either true a b k p q = p
either false a b k p q = q

count-tail : (p : ℕ) (s : List ℕ) → count (tail p s) ≤ length s
unfolding tail count
count-tail p [] = omega arith
count-tail p (b ∷ s) = omega arith

-- what is left behind so many bytes
count-behind : (p n : ℕ) (s : List ℕ) → count (tail p (drop n s)) ≤ length s
count-behind p n s = omega (arith, count-tail p (drop n s), length-drop n s)

count-named : (p : ℕ) (name s : List ℕ) → count (named p name s) ≤ 1
unfolding named count
count-named p name [] = omega arith
count-named p name (b ∷ s) = count-numbered p name (decimal (b ∷ s))

count_word : (p : ℕ) (s : List ℕ) → count (word p s) ≤ length s + 1
unfolding word
count_word p s =
    let k = lead (in_class Alpha) s in
    let n = number_length (drop k s) in
    let e = k + n + leads 32 (drop (k + n) s) in
    let a = named p (take k s) (take n (drop k s)) in
    omega (arith, count-then a (tail (p + 1 + e) (drop e s)), count-named p (take k s) (take n (drop k s)), count-behind (p + 1 + e) e s)

count-hex_value : (v : Option ℕ) (rest : Stream Why Shown) (k : ℕ) → count rest ≤ k → count (hex_value v rest) ≤ k + 1
unfolding hex_value count
count-hex_value (Some v) rest k h = omega arith
count-hex_value None rest k h = omega arith

count-hex_escape : (p : ℕ) (s : List ℕ) → count (hex_escape p s) ≤ length s + 1
unfolding hex_escape count
count-hex_escape p [] = omega arith
count-hex_escape p (a ∷ []) = omega arith
count-hex_escape p (a ∷ b ∷ s) = omega (arith, count-hex_value (hex_pair a b) (tail (p + 4) s) (length s) (count-tail (p + 4) s))

count-break : (p n : ℕ) (s : List ℕ) → count (line_break_and p n s) ≤ length s + 1
unfolding line_break_and count
count-break p n s = omega (arith, count-behind (p + 2 + n) n s)

count-escaped : (p : ℕ) (s : List ℕ) → count (escaped p s) ≤ length s + 1
unfolding escaped count
count-escaped p [] = omega arith
count-escaped p (b ∷ s) =
    let t = count-tail (p + 2) s in
    either (is_alpha b) _ _ _ (count_word p (b ∷ s))
    (either (is_escape b) _ _ _ (omega arith)
    (either (eqb b 39) _ _ _ (omega (arith, count-hex_escape p s))
    (either (eqb b 10 || eqb b 13) _ _ _ (omega (arith, count-break p (break_length b s) s))
    (either (eqb b 42) _ _ _ (omega (arith, t)) (omega (arith, t))))))

pub count-tokens : (p : ℕ) (s : List ℕ) → count (tokens p s) ≤ length s
unfolding tokens count
count-tokens p [] = omega arith
count-tokens p (b ∷ s) =
    let t = count-tail (p + 1) s in
    either (eqb b 92) _ _ _ (omega (arith, count-escaped p s))
    (either (eqb b 123) _ _ _ (omega (arith, t))
    (either (eqb b 125) _ _ _ (omega (arith, t))
    (either (eqb b 10 || eqb b 13) _ _ _ (omega (arith, t)) (count-tail p (b ∷ s)))))

pub named-next : (p : ℕ) (name s : List ℕ) {n m : ℕ} {r : Result ℕ Why} {room room' : List ℕ} → Wrote shown_layout n room (named p name s) r room' → r ≡ Ok m → m ≤ n + 1
named-next p name s {n} {m} v d = omega (arith, ended-count (named p name s) n m (sym v.says ∙ d), count-named p name s)

pub tokens-next : (p : ℕ) (s : List ℕ) {n m : ℕ} {r : Result ℕ Why} {room room' : List ℕ} → Wrote shown_layout n room (tokens p s) r room' → r ≡ Ok m → m ≤ n + length s
tokens-next p s {n} {m} v d = omega (arith, ended-count (tokens p s) n m (sym v.says ∙ d), count-tokens p s)

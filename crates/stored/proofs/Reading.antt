-- The loop over a block's numbers: those in the words, and those that are left, are all of them.
-- Assumes nothing.
use mathlib.Core.Path.{◌≡◌, refl, sym, ap, ◌∙◌}
use mathlib.Core.List.{List, [], ◌∷◌, ◌++◌, append-nil, append_assoc}
use Prim.Native.Nat.{ℕ, suc, ◌+◌, ◌-◌, ◌≤◌, ◌<◌}
use native.Mathlib.Numerals.{add-one}
use native.Mathlib.Omega.{arith}
use lib.ListN.{length, take, drop, set, length-set, length-drop}
use lib.Seq.{take_all, take-suc-set}
use Rattle.answers.specs.declared.Refusal.{Refusal}
use Rattle.answers.specs.Answers.{refusal, Found, found, refused}
use Rattle.sevens.specs.declared.Numeral.{Numeral}
use Rattle.answers.specs.declared.Why.{Why}
use Rattle.sevens.specs.Sevens.{number_of}
use Rattle.sevens.proofs.Sevens.{number-within}
use Rattle.stored.specs.Entries.{Numbers, behind, and_more, numbers_from, NumbersIn}
use Rattle.stored.proofs.Entries.{part}
use Rattle.std.specs.Prelude.{Result, Ok, Err}

behind_more : (vs : List ℕ) (m v k : ℕ) (x : Found Numbers)
    → behind vs m (behind (v ∷ []) k x) ≡ behind (vs ++ (v ∷ [])) (m + k) x
behind_more vs m v k (found q) =
    let e : m + (k + q.size) ≡ m + k + q.size = omega arith in
    rw (e, append_assoc vs (v ∷ []) q.values) refl
behind_more vs m v k (refused r) = refl

-- i numbers of the list s are in the words, and t is left
pub record Reading (s : List ℕ) (total i : ℕ) (t ws : List ℕ) : Type 0 where
  pub wide : length ws ≡ total
  pub held : i ≤ total
  pub left : length t ≤ length s
  pub all : numbers_from total s ≡ behind (take i ws) (length s - length t) (numbers_from (total - i) t)

module _ {s : List ℕ} {total i : ℕ} {t ws : List ℕ} (g : Reading s total i t ws) where
  module _ (h : i < length ws) where
    next : {x : Result Numeral Why} → number_of t ≡ x
        → numbers_from (total - i) t ≡ and_more x (λ (n : ℕ). numbers_from (total - (i + 1)) (drop n t))
    unfolding numbers_from
    next e = let q : total - i ≡ suc (total - (i + 1)) = omega (arith, h, g.wide) in rw (q, e)

    pub reading-more : {x : Numeral} → number_of t ≡ Ok x
        → Reading s total (i + 1) (take (length t - x.length) (drop x.length t)) (set ws i x.value)
    reading-more {x} e =
        let k : ℕ = x.length in
        let v : ℕ = x.value in
        let w = number-within t e in
        let l : length (drop k t) ≡ length t - k = length-drop k t in
        let m : length s - length t + k ≡ length s - length (drop k t) = omega (arith, g.left, w.1, l) in
        let a : numbers_from (total - i) t ≡ behind (v ∷ []) k (numbers_from (total - (i + 1)) (drop k t)) = next e in
        rw (part k t) (record {
          wide = length-set ws i v ∙ g.wide;
          held = omega (arith, h, g.wide);
          left = omega (arith, g.left, l);
          all =
              g.all ∙ ap (behind (take i ws) (length s - length t)) a ∙ behind_more (take i ws) (length s - length t) v k (numbers_from (total - (i + 1)) (drop k t))
              ∙ rw (m, add-one i, take-suc-set ws i v h);
        })

    pub reading-not : {why : Why} (ws' : List ℕ) (n : ℕ) → number_of t ≡ Err why → {r : Refusal}
        → r ≡ refusal why → NumbersIn (numbers_from total s) n (Err r) ws'
    reading-not ws' n e q = rw (g.all, next e, q) refl

  pub reading-end : (length ws ≤ i) → NumbersIn (numbers_from total s) (length s) (Ok (length s - length t)) ws
  unfolding numbers_from
  reading-end h =
      let z : total - i ≡ 0 = omega (arith, h, g.wide) in
      let y : length s - length t + 0 ≡ length s - length t = omega arith in
      let k : take i ws ≡ ws = take_all i ws h in
      rw (g.all, z, k) (ap (λ (m : ℕ). Ok m) (sym y), sym (append-nil ws), omega (arith, g.left))

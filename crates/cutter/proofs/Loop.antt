-- The loop over the slices. Assumes nothing.
use mathlib.Core.Path.{◌≡◌, refl, sym, ap, ◌∙◌}
use mathlib.Core.List.{List, [], ◌∷◌}
use mathlib.Core.Bool.{Bool, true, false, cond}
use Prim.Native.Nat.{ℕ, ◌+◌, ◌-◌, ◌≤◌, ◌<◌}
use native.Mathlib.Omega.{arith}
use lib.ListN.{length, take, drop, length-take, length-drop}
use lib.Seq.{take_all, take-length, drop-length}
use Rattle.answers.specs.declared.Refusal.{Refusal}
use Rattle.answers.specs.declared.Why.{Why}
use Rattle.answers.specs.declared.Why.TheVariants.{LastSlice}
use Rattle.answers.specs.Answers.{refusal_at}
use Rattle.readings.specs.declared.Reading.{Reading}
use Rattle.readings.specs.declared.Reading.TheVariants.{Standard}
use Rattle.rooms.proofs.Streams.{ended-count, ended-each, ended-then, ok_err}
use Rattle.rooms.specs.Streams.{end, stop, and_then, ended, answer}
use Rattle.rooms.specs.Rooms.{Wrote, put_all}
use Rattle.rooms.proofs.Rooms.{wrote_none, wrote_then, wrote-stops, Left, left-start, left_end, left-stop, left-more, length-put_all}
use Rattle.slices.specs.Slices.{slices_by, length_by}
use Rattle.slices.proofs.Feeds.{slices_by-first}
use Rattle.tokens.specs.Tokens.{token, shown_layout, token_layout, sealed_all}
use Rattle.tokens.proofs.Sealing.{sealed-wrote}
use Rattle.standard.specs.Standard.{tokens as standard_tokens}
use Rattle.standard.specs.Closing.{is_bracket}
use Rattle.cutter.specs.Cutting.{tokens_by, located, last_by, all_slices}
use Rattle.cutter.proofs.ByReading.{next-by, none-by}
use Rattle.std.specs.Prelude.{Result, Ok, Err}

-- the bytes behind the first slice, as the code has them
abbrev pub part : List ℕ → ℕ → List ℕ
part t e = take (length t - e) (drop e t)

-- the answer of a slice at p, as the loop gives it
abbrev refusing : ℕ → Result ℕ Why → Result ℕ Refusal
refusing p (Ok n) = Ok n
refusing p (Err why) = Err (refusal_at why p)

-- a slice that was cut: what it shows was written, or a refusal; and then the slice's place behind each token
module _ (rd : Reading) (p : ℕ) (s : List ℕ) {n : ℕ} {room room' : List ℕ} {r : Result ℕ Why} (w : Wrote shown_layout n room (tokens_by rd p s) r room') where
  says-slice : refusing p r ≡ answer n (located rd p s)
  unfolding located
  says-slice =
      ap (refusing p) w.says
      ∙ sym (ended-each (λ (w : Why). refusal_at w p) (token p (length s)) (refusing p) (λ n. refl) (λ q. refl) (tokens_by rd p s) n)

  slice-stop : {why : Why} {k : Refusal} → r ≡ Err why → k ≡ refusal_at why p → Wrote token_layout n room (located rd p s) (Err k) room'
  slice-stop {why} {k} d j =
      let m : Err k ≡ refusing p r = ap Err j ∙ ap (refusing p) (sym d) in
      record { says = m ∙ says-slice; holds = λ x y. absurd (ok_err (sym y)); long = w.long }

  module _ {m : ℕ} (d : r ≡ Ok m) where
    pub slice-above : n ≤ m
    slice-above = omega (arith, ended-count (tokens_by rd p s) n m (sym w.says ∙ d))

    -- behind a slice that is not sealed: enough where the answer is a refusal
    slice-says : Ok m ≡ answer n (located rd p s)
    slice-says = ap (refusing p) (sym d) ∙ says-slice

    slice-wrote : {room'' : List ℕ} → room'' ≡ sealed_all p (length s) room' n (m - n) → Wrote token_layout n room (located rd p s) (Ok m) room''
    unfolding located
    slice-wrote {room''} z =
        let g : room'' ≡ put_all token_layout room n (located rd p s) = sealed-wrote p (length s) (λ (w : Why). refusal_at w p) w d z in
        record { says = slice-says; holds = λ _ _. g; long = ap length g ∙ length-put_all token_layout (located rd p s) room n }

module _ (rd : Reading) where
  -- a slice that is not the last
  all_more : (p : ℕ) (x s : List ℕ) → 0 < length s → all_slices rd p (x ∷ slices_by rd s) ≡ and_then (located rd p x) (all_slices rd (p + length x) (slices_by rd s))
  unfolding all_slices
  all_more p x s h = rw (slices_by-first rd s h)

  pub all_none : (p : ℕ) (s : List ℕ) → length s ≡ 0 → all_slices rd p (slices_by rd s) ≡ end
  unfolding all_slices
  all_none p [] h = rw (none-by rd)
  all_none p (b ∷ s) h = absurd (omega arith)

  module _ (p e : ℕ) (s : List ℕ) (h : 0 < length s) (q : e ≡ length_by rd s) where
    all_first : e < length s → all_slices rd p (slices_by rd s) ≡ and_then (located rd p (take e s)) (all_slices rd (p + e) (slices_by rd (part s e)))
    all_first l =
        let f : slices_by rd s ≡ take e s ∷ slices_by rd (drop e s) = rw q (slices_by-first rd s h) in
        let n : length (take e s) ≡ e = simp length-take (omega arith) in
        let t : part s e ≡ drop e s = take_all (length s - e) (drop e s) (simp length-drop (omega arith)) in
        ap (all_slices rd p) f ∙ all_more p (take e s) (drop e s) (simp length-drop (omega arith)) ∙ rw (n, t)

    all-last : e ≡ length s → all_slices rd p (slices_by rd s) ≡ last_by rd p s
    unfolding all_slices
    all-last l =
        let z : length_by rd s ≡ length s = sym q ∙ l in
        let f : slices_by rd s ≡ s ∷ [] = slices_by-first rd s h ∙ rw (z, take-length, drop-length, none-by rd) in
        ap (all_slices rd p) f

  -- t stands at p and is left, and n tokens are written
  pub record Loop (place : ℕ) (s room₀ room t : List ℕ) (p n : ℕ) : Type 0 where
    pub some : 0 < length t
    pub fits : p + length t ≤ 65536
    pub below : n ≤ p
    pub long : length room ≡ length room₀
    pub left : Left token_layout (all_slices rd place (slices_by rd s)) room₀ (all_slices rd p (slices_by rd t)) n room

  -- what `slice_end_by` promises
  abbrev pub First : List ℕ → ℕ → Type 0
  First t e = (e ≡ length_by rd t) × ((e ≤ length t) × (0 < length t → 0 < e))

  pub loop-start : (place : ℕ) (s room : List ℕ) → (length s ≡ 0 → ⊥) → place + length s ≤ 65536 → Loop place s room room s place 0
  loop-start place s room h f =
      record { some = omega arith; fits = f; below = omega arith; long = refl; left = left-start token_layout }

  module _ {place : ℕ} {s room₀ room t : List ℕ} {p n e : ℕ} (l : Loop place s room₀ room t p n) (f : First t e) where
    pub loop-falls : e < length t → length (part t e) < length t
    loop-falls h = simp (length-take, length-drop) (omega (arith, f.1.1 l.some))

    pub loop-last : length t ≤ e → {r : Result ℕ Refusal} {room' : List ℕ} → Wrote token_layout n room (last_by rd p t) r room' → Wrote token_layout 0 room₀ (all_slices rd place (slices_by rd s)) r room'
    loop-last h w = left_end token_layout l.left (all-last p e t l.some f.0 (omega (arith, f.1.0))) w

    module _ (h : e < length t) {r : Result ℕ Why} {room' : List ℕ} (w : Wrote shown_layout n room (tokens_by rd p (take e t)) r room') where
      pub loop-stop : {why : Why} {q : ℕ} {k : Refusal} → r ≡ Err why → q ≡ p → k ≡ refusal_at why q → Wrote token_layout 0 room₀ (all_slices rd place (slices_by rd s)) (Err k) room'
      loop-stop {why} {q} {k} d i j =
          left-stop token_layout l.left (all_slices rd (p + e) (slices_by rd (part t e))) (all_first p e t l.some f.0 h)
          (slice-stop rd p (take e t) w d (j ∙ ap (refusal_at why) i)) refl

      module _ {m : ℕ} (d : r ≡ Ok m) where
        pub next-above : n ≤ m
        next-above = slice-above rd p (take e t) w d

        pub next-below : m ≤ n + e
        next-below =
            let c : length (take e t) ≡ e = simp length-take (omega arith) in
            omega (arith, next-by rd p (take e t) w d)

        pub loop-next : {q k : ℕ} {room'' : List ℕ} → q ≡ p → k ≡ e → room'' ≡ sealed_all q k room' n (m - n) → Loop place s room₀ room'' (part t e) (p + e) m
        loop-next {q} {k} x y z =
            let i : length (part t e) ≡ length t - e = simp (length-take, length-drop) (omega arith) in
            let c : k ≡ length (take e t) = y ∙ simp length-take (omega arith) in
            let v = slice-wrote rd p (take e t) w d (rw (x, c) at z) in
            record {
              some = omega arith;
              fits = omega (arith, l.fits);
              below = omega (arith, l.below, next-below);
              long = v.long ∙ l.long;
              left = left-more token_layout l.left (all_slices rd (p + e) (slices_by rd (part t e))) (all_first p e t l.some f.0 h) v refl;
            }

-- ---- the last slice by the specification

module _ (p : ℕ) (s : List ℕ) {n : ℕ} {room room' : List ℕ} {r : Result ℕ Why} (w : Wrote shown_layout n room (standard_tokens p s) r room') where
  pub last-stop : {why : Why} {k : Refusal} → r ≡ Err why → k ≡ refusal_at why p → Wrote token_layout n room (last_by Standard p s) (Err k) room'
  last-stop d j = wrote-stops token_layout (cond (is_bracket s) end (stop (refusal_at LastSlice p))) refl (slice-stop Standard p s w d j) refl

  module _ {m : ℕ} (d : r ≡ Ok m) {b : Bool} (q : b ≡ is_bracket s) where
    pub last-open : b ≡ false → {k : Refusal} → k ≡ refusal_at LastSlice p → Wrote token_layout n room (last_by Standard p s) (Err k) room'
    unfolding ended
    last-open e {k} j =
        let g : is_bracket s ≡ false = sym q ∙ e in
        let t : answer n (last_by Standard p s) ≡ Err k =
        ended-then (cond (is_bracket s) end (stop (refusal_at LastSlice p))) (located Standard p s) n m (sym (slice-says Standard p s w d)) ∙ rw (g, j) refl in
        record { says = sym t; holds = λ x y. absurd (ok_err (sym y)); long = w.long }

    pub last-closed : b ≡ true → {u k : ℕ} {room'' : List ℕ} → u ≡ p → k ≡ length s → room'' ≡ sealed_all u k room' n (m - n) → Wrote token_layout n room (last_by Standard p s) (Ok m) room''
    last-closed e {room'' = room''} x y z =
        let g : is_bracket s ≡ true = sym q ∙ e in
        wrote_then token_layout (cond (is_bracket s) end (stop (refusal_at LastSlice p))) refl (slice-wrote Standard p s w d (rw (x, y) at z)) refl
        (wrote_none token_layout (rw g))

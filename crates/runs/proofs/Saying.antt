-- What is said at a token, laid onto a page.
--     laid-off, laid-append, lay-said   pieces laid one after the other
--     said-..                           what is said at a token, by its run and its own text
--     value-.., values-..               what a `u` word gave
--     lost-..                           a surrogate that waits where the run ends
--     run-..                            the words of a run
--     unit-.., step-.., owed-..         a `u` word by the reading
--     steps-few                         and that it says no more than it may
-- Assumes nothing.
use mathlib.Core.Path.{◌≡◌, refl, sym, ap, ◌∙◌}
use mathlib.Core.List.{List, [], ◌∷◌, ◌++◌, append-nil}
use mathlib.Core.Bool.{Bool, true, false, cond, ◌&&◌}
use Prim.Native.Nat.{ℕ, ◌-◌, ◌<◌, ◌≤◌}
use native.Mathlib.Omega.{arith}
use borrow.Author.Tests.{lt-ltb}
use lib.ListN.{length, get_or, set, take, length-take}
use lib.Dec.{eqb, ltb}
use Rattle.answers.specs.declared.Refusal.{Refusal}
use Rattle.readings.specs.declared.Reading.{Reading}
use Rattle.readings.specs.Readings.{is_standard}
use Rattle.readings.specs.declared.Reading.TheVariants.{Plain, Paragraphs, Standard}
use Rattle.rooms.specs.Streams.{Stream}
use Rattle.utf8.specs.declared.Encoded.{Encoded}
use Rattle.utf8.specs.Utf8.{written, encoded_of}
use Rattle.utf8.proofs.Utf8.{encoded-length, encoded-bytes}
use Rattle.settings.specs.Fields.{Setting, style_of}
use Rattle.settings.specs.Fields as field
use Rattle.units.specs.declared.Run.{Run}
use Rattle.units.specs.declared.Gave.{Gave}
use Rattle.units.specs.Units.{before, values, step, standard_step}
use Rattle.machine.specs.Stack.{held}
use Rattle.machine.specs.Machine.{Deed, parts, ended, texts_of, written_all, ◌▸▸◌, spoken, said}
use Rattle.machine.proofs.Stack.{held-top}
use Rattle.machine.proofs.Few.{Few, step-few, standard-few}
use Rattle.blocks.specs.declared.Page.{Page}
use Rattle.blocks.specs.Pages.{Piece}
use Rattle.blocks.specs.Laying.{Laying, on, off, add_of, laid_on, lay_all}
use Rattle.blocks.proofs.Laying.{lay-more, Placeless, laid-on-placeless}
use Rattle.runs.specs.Runs.{rows, step_by, owed_by, steps_by, laid_all}
use Rattle.std.specs.Prelude.{Option, option_to_list, Some, None}

pub ne-pos : {d : ℕ} → (d ≡ 0 → ⊥) → 0 < d
ne-pos h = omega arith

-- ---- pieces laid one after the other

pub laid-off : (r : Refusal) (xs : List Piece) → laid_all (off r) xs ≡ off r
unfolding laid_all
laid-off r [] = refl
laid-off r (x ∷ xs) = laid-off r xs

pub laid-append : (l : Laying) (xs ys : List Piece) → laid_all (laid_all l xs) ys ≡ laid_all l (xs ++ ys)
unfolding laid_all
laid-append l [] ys = refl
laid-append l (x ∷ xs) ys = laid-append (laid_on l x) xs ys

pub laid-placeless : (l : Laying) (xs : List Piece) → Placeless l → Placeless (laid_all l xs)
unfolding laid_all
laid-placeless l [] h = h
laid-placeless l (x ∷ xs) h = laid-placeless (laid_on l x) xs (laid-on-placeless l x h)

pub lay-said : (l : Laying) (xs : List Piece) (s : Stream Refusal Piece) → lay_all l (xs ▸▸ s) ≡ lay_all (laid_all l xs) s
unfolding laid_all ◌▸▸◌
lay-said l [] s = refl
lay-said l (x ∷ xs) s = lay-more l x (xs ▸▸ s) ∙ lay-said (laid_on l x) xs s

spoken-append : (r : List ℕ) (xs ys : List (List ℕ)) → spoken rows r (xs ++ ys) ≡ spoken rows r xs ++ spoken rows r ys
unfolding spoken
spoken-append r [] ys = refl
spoken-append r (x ∷ xs) ys = ap (λ (l : List Piece). rows.say r x ∷ l) (spoken-append r xs ys)

written-append : (xs ys : List ℕ) → written_all (xs ++ ys) ≡ written_all xs ++ written_all ys
unfolding written_all
written-append [] ys = refl
written-append (x ∷ xs) ys = ap (λ (l : List (List ℕ)). written x ∷ l) (written-append xs ys)

-- ---- what is said at a token

pub said-none : (g : Gave) (d : Deed Setting) → said rows [] g d ≡ []
unfolding said
said-none g d = refl

-- where no run is under way: the token's own text
pub said-own : (st : List (List ℕ)) (d : Deed Setting) → texts_of d ≡ [] → said rows st (ended before) d ≡ []
unfolding said values written_all spoken
said-own [] d e = refl
said-own (top ∷ rest) d e = rw e refl

-- what the run owes, and then the token's own text
pub said-ended : (st : List (List ℕ)) (run : Run) (d : Deed Setting) → said rows st (ended run) d ≡ said rows st (ended run) parts ++ said rows st (ended before) d
unfolding said values written_all
said-ended [] run d = refl
said-ended (top ∷ rest) run d =
    let xs : List (List ℕ) = written_all (values (ended run)) in
    spoken-append top xs (texts_of d) ∙ ap (λ (ys : List (List ℕ)). spoken rows top ys ++ spoken rows top (texts_of d)) (sym (append-nil xs))

module _ (states : List (List ℕ)) (depth : ℕ) (z : 0 < depth) (p : Page) (b t : List ℕ) where
  top : List ℕ
  top = get_or states (depth - 1) []

  pub said-text : (bytes : List ℕ) → laid_all (on p b t) (said rows (held [] states depth) (ended before) (Deed.says bytes)) ≡ add_of p (style_of (get_or states (depth - 1) [])) bytes b t
  unfolding said values written_all spoken laid_all
  said-text bytes = rw (held-top [] states depth z) refl

  pub told_text : (bytes : List ℕ) → laid_all (on p b t) (said rows (held [] states depth) (ended before) (Deed.tells bytes)) ≡ add_of p (style_of (get_or states (depth - 1) [])) bytes b t
  unfolding said values written_all spoken laid_all
  told_text bytes = rw (held-top [] states depth z) refl

  pub said-values : (g : Gave) (d : Deed Setting) → texts_of d ≡ [] → said rows (held [] states depth) g d ≡ spoken rows (get_or states (depth - 1) []) (written_all (values g))
  unfolding said
  said-values g d e = rw (held-top [] states depth z, e) (ap (spoken rows (get_or states (depth - 1) [])) (append-nil (written_all (values g))))

-- ---- a scalar value

module _ (value : ℕ) (e : Encoded) (q : e ≡ encoded_of value) where
  pub encoded-count : e.length ≡ length (take e.length e.bytes)
  encoded-count = encoded-length value e q ∙ ap length (sym (encoded-bytes value e q))

  pub encoded-within : e.length ≤ length e.bytes
  encoded-within = let h = encoded-count in let k = length-take e.length e.bytes in omega arith

  pub encoded-text : (p : Page) (r b t : List ℕ) {l : Laying} → l ≡ add_of p (style_of r) (take e.length e.bytes) b t → l ≡ add_of p (style_of r) (written value) b t
  encoded-text p r b t h = h ∙ ap (λ (bs : List ℕ). add_of p (style_of r) bs b t) (encoded-bytes value e q)

-- ---- what a `u` word gave

module _ (p : Page) (r b t : List ℕ) where
  pub value-some : (c : ℕ) {value : Option ℕ} → value ≡ Some c → {l : Laying} → l ≡ add_of p (style_of r) (written c) b t → l ≡ laid_all (on p b t) (spoken rows r (written_all (option_to_list value)))
  unfolding laid_all spoken written_all
  value-some c e h = h ∙ rw e

  pub value_none : {value : Option ℕ} → value ≡ None → on p b t ≡ laid_all (on p b t) (spoken rows r (written_all (option_to_list value)))
  unfolding laid_all spoken written_all
  value_none e = rw e

-- a lost surrogate, and then a value
module _ (l : Laying) (r : List ℕ) (g : Gave) where
  abbrev lost : List ℕ
  lost = option_to_list (Some 65533)

  abbrev value : List ℕ
  value = option_to_list g.value

  pub values-full : g.lost ≡ true → {q : Refusal} → off q ≡ laid_all l (spoken rows r (written_all lost)) → off q ≡ laid_all l (spoken rows r (written_all (values g)))
  unfolding values
  values-full e {q} h =
      let xs : List Piece = spoken rows r (written_all value) in
      sym (laid-off q xs)
      ∙ ap (λ (y : Laying). laid_all y xs) h
      ∙ laid-append l (spoken rows r (written_all lost)) xs
      ∙ ap (laid_all l) (sym (ap (spoken rows r) (written-append lost value) ∙ spoken-append r (written_all lost) (written_all value)))
      ∙ rw e refl

  pub values-more : g.lost ≡ true → (p : Page) (b t : List ℕ) → on p b t ≡ laid_all l (spoken rows r (written_all lost))
      → {y : Laying} → y ≡ laid_all (on p b t) (spoken rows r (written_all value)) → y ≡ laid_all l (spoken rows r (written_all (values g)))
  unfolding values
  values-more e p b t h i =
      let xs : List Piece = spoken rows r (written_all value) in
      i
      ∙ ap (λ (y : Laying). laid_all y xs) h
      ∙ laid-append l (spoken rows r (written_all lost)) xs
      ∙ ap (laid_all l) (sym (ap (spoken rows r) (written-append lost value) ∙ spoken-append r (written_all lost) (written_all value)))
      ∙ rw e refl

  -- none was lost
  pub values_one : g.lost ≡ false → {y : Laying} → y ≡ laid_all l (spoken rows r (written_all value)) → y ≡ laid_all l (spoken rows r (written_all (values g)))
  unfolding values
  values_one e h = h ∙ rw e refl

-- ---- where the run ends

module _ (p : Page) (b t : List ℕ) (states : List (List ℕ)) (depth : ℕ) (run : Run) where
  pub lost-none : run.high ≡ 0 → on p b t ≡ laid_all (on p b t) (said rows (held [] states depth) (ended run) parts)
  unfolding said values written_all spoken laid_all
  lost-none e = go (held [] states depth)
    where
      go : (st : List (List ℕ)) → on p b t ≡ laid_all (on p b t) (said rows st (ended run) parts)
      go [] = refl
      go (top ∷ rest) = rw e refl

  pub lost-bare : depth ≡ 0 → on p b t ≡ laid_all (on p b t) (said rows (held [] states depth) (ended run) parts)
  unfolding said held laid_all
  lost-bare e = rw e refl

  pub lost-some : 0 < depth → 0 < run.high → {l : Laying} → l ≡ add_of p (style_of (get_or states (depth - 1) [])) (written 65533) b t
      → l ≡ laid_all (on p b t) (said rows (held [] states depth) (ended run) parts)
  unfolding said values written_all spoken laid_all
  lost-some z h e = e ∙ rw (held-top [] states depth z, lt-ltb 0 run.high h) refl

-- by whether the reading is the specification's, as the code asks it
module _ (rd : Reading) (skip : ℕ) {s : Bool} (q : s ≡ is_standard rd) where
  pub step-standard : s ≡ true → (run : Run) (num : Option ℕ) {g : Gave} → g ≡ standard_step run num → g ≡ step_by rd skip run num
  unfolding step_by
  step-standard e run num h = h ∙ rw (← q, e) refl

  pub step_other : s ≡ false → (run : Run) (num : Option ℕ) {g : Gave} → g ≡ step skip run num → g ≡ step_by rd skip run num
  unfolding step_by
  step_other e run num h = h ∙ rw (← q, e) refl

  owed-is : (r : Bool) → s && ltb skip 2147483648 ≡ r → cond r skip 0 ≡ owed_by rd skip
  unfolding owed_by
  owed-is r e = rw (← q) (go s (ltb skip 2147483648) e)
    where
      go : (x y : Bool) → x && y ≡ r → cond r skip 0 ≡ cond x (cond y skip 0) 0
      go true true e = rw (← e) refl
      go true false e = rw (← e) refl
      go false y e = rw (← e) refl

  pub owed-some : s && ltb skip 2147483648 ≡ true → skip ≡ owed_by rd skip
  owed-some e = owed-is true e

  pub owed_none : s && ltb skip 2147483648 ≡ false → 0 ≡ owed_by rd skip
  owed_none e = owed-is false e

-- a `u` word says no more than it may
pub steps-few : (rd : Reading) (r : List ℕ) (run : Run) (num : Option ℕ) → Few run ((steps_by rd).step r run num)
unfolding step_by
steps-few Plain r run num = step-few (get_or r field.skip 0) run num
steps-few Paragraphs r run num = step-few (get_or r field.skip 0) run num
steps-few Standard r run num = standard-few run num

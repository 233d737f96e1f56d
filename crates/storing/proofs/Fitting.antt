-- Whether a record may stand where it does.
--     no_says, no-rest, text-decides    a law for each way through the code
--     Fit, fit_all, fits-fit            all tests at once
-- Assumes nothing.
use mathlib.Core.Path.{◌≡◌, ◌∙◌}
use mathlib.Core.List.{List}
use mathlib.Core.Bool.{Bool, true, false, not, ◌&&◌}
use Prim.Native.Nat.{ℕ, ◌+◌, ◌-◌, ◌≤◌, ◌<◌}
use native.Mathlib.Omega.{arith}
use borrow.Author.Tests.{not-true, not-false, lt-ltb, ltb-true, le-leb, lt-leb, leb-true, eq-eqb, eqb-true}
use lib.ListN.{length, take, drop}
use lib.Dec.{leb, ltb, eqb}
use Rattle.classes.proofs.Runs.{and_left, and_right}
use Rattle.wellformed.specs.WellFormed.{is_utf8}
use Rattle.styles.specs.declared.Style.{Style}
use Rattle.fields.specs.Fields.{in_range}
use Rattle.blocks.specs.Pages.{Last, starts}
use Rattle.styles.specs.Styles.{style_at}
use Rattle.storing.specs.Fitting.{place_at, length_at, signs, says, fits}

module _ (l : Last) (p : ℕ) (ws tx : List ℕ) {s : Style} {place count : ℕ} {a f : Bool}
    (es : s ≡ style_at ws) (ep : place ≡ place_at ws) (ec : count ≡ length_at ws) (ea : a ≡ in_range s) (ef : f ≡ starts l s) where
  -- the code's sum of tests
  abbrev sum : Bool
  sum = a && ((leb place 2147483647 && leb count 2147483647) && (ltb 0 count && (f && eqb place p)))

  says_is : says l p ws ≡ sum
  says_is = rw (ea, ef, es, ep, ec)

  pub no_says : not sum ≡ true → false ≡ fits l p ws tx
  unfolding fits
  no_says t = rw (says_is, not-true sum t)

  module _ (t : not sum ≡ false) where
    pub no-rest : length tx - p < count → false ≡ fits l p ws tx
    unfolding fits
    no-rest h =
        let q : leb (length_at ws) (length tx - p) ≡ false = lt-leb (length_at ws) (length tx - p) (omega arith) in
        rw (says_is, not-false sum t, q)

    pub text-decides : count ≤ length tx - p → {u : Bool} → u ≡ is_utf8 (take (p + count - p) (drop p tx)) → u ≡ fits l p ws tx
    unfolding fits
    text-decides h eu =
        let q : leb (length_at ws) (length tx - p) ≡ true = le-leb (length_at ws) (length tx - p) (omega arith) in
        let e : p + count - p ≡ length_at ws = omega arith in
        rw (says_is, not-false sum t, q) (eu ∙ rw e)

-- all that a record that may stand there keeps
pub record Fit (l : Last) (p : ℕ) (ws tx : List ℕ) : Type 0 where
  pub range : in_range (style_at ws) ≡ true
  pub place : place_at ws ≤ 2147483647
  pub count : length_at ws ≤ 2147483647
  pub some : 0 < length_at ws
  pub change : starts l (style_at ws) ≡ true
  pub here : place_at ws ≡ p
  pub within : length_at ws ≤ length tx - p
  pub whole : is_utf8 (take (length_at ws) (drop p tx)) ≡ true

module _ (l : Last) (p : ℕ) (ws tx : List ℕ) where
  pub fits-fit : fits l p ws tx ≡ true → Fit l p ws tx
  unfolding fits
  fits-fit h =
      let t1 = in_range (style_at ws) in
      let t2 = ltb 0 (length_at ws) in
      let t3 = starts l (style_at ws) in
      let t4 = eqb (place_at ws) p in
      let t5 = leb (length_at ws) (length tx - p) in
      let t6 = is_utf8 (take (length_at ws) (drop p tx)) in
      let s1 = leb (place_at ws) 2147483647 in
      let s2 = leb (length_at ws) 2147483647 in
      let h0 = and_left (says l p ws) (t5 && t6) h in
      let h1 = and_right t1 (signs ws && (t2 && (t3 && t4))) h0 in
      let h2 = and_right (signs ws) (t2 && (t3 && t4)) h1 in
      let h3 = and_right t2 (t3 && t4) h2 in
      let h5 = and_right (says l p ws) (t5 && t6) h in
      let hs = and_left (signs ws) (t2 && (t3 && t4)) h1 in
      record {
        range = and_left t1 (signs ws && (t2 && (t3 && t4))) h0;
        place = leb-true (place_at ws) 2147483647 (and_left s1 s2 hs);
        count = leb-true (length_at ws) 2147483647 (and_right s1 s2 hs);
        some = ltb-true 0 (length_at ws) (and_left t2 (t3 && t4) h2);
        change = and_left t3 t4 h3;
        here = eqb-true (place_at ws) p (and_right t3 t4 h3);
        within = leb-true (length_at ws) (length tx - p) (and_left t5 t6 h5);
        whole = and_right t5 t6 h5;
      }

  pub fit_all : Fit l p ws tx → fits l p ws tx ≡ true
  unfolding fits
  fit_all f =
      rw (
        f.range,
        le-leb (place_at ws) 2147483647 f.place,
        le-leb (length_at ws) 2147483647 f.count,
        lt-ltb 0 (length_at ws) f.some,
        f.change,
        eq-eqb (place_at ws) p f.here,
        le-leb (length_at ws) (length tx - p) f.within,
        f.whole,
      )

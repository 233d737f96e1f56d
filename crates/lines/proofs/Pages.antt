-- Bytes put on a page.
--     put-none            none
--     put_copied          as many as there is room for, copied at once
--     put_then            some, and then others
--     put_as              the same bytes by another name
--     put-fits            bytes for which there is room, all of them: where they end, and the page
--     put_whole           the same from the page's start on
--     whole-front         these are the page's front
--     left-start, -more, -end   a loop over what is left: whoever puts that has put all
-- Assumes nothing.
use Prim.Native.Nat.{ℕ, zero, suc, ◌+◌, ◌-◌, ◌≤◌, min}
use mathlib.Core.Path.{◌≡◌, refl, sym, ap, ◌∙◌}
use mathlib.Core.List.{List, [], ◌∷◌, ◌++◌, append-nil, append_assoc}
use native.Mathlib.Omega.{arith}
use lib.ListN.{length, take, drop, length-take, length-append, take-append-drop}
use lib.Seq.{take_all, length-take-le, take-append_seam, take-append-add, drop-drop}
use borrow.Rule.Slice.PartMut.{put_mid}
use Rattle.std.proofs.lemmas.List.{take_min}
use Rattle.std.proofs.lemmas.Slice.{take-put_mid, drop-put_mid}
use Rattle.lines.specs.Pages.{Put, PutWhole, Front}

-- what was left out at the end of a page stays out
clipped : (n : ℕ) (u ys : List ℕ) → take n (take n u ++ ys) ≡ take n (u ++ ys)
clipped zero u ys = refl
clipped (suc n) [] ys = refl
clipped (suc n) (x ∷ u) ys = ap {B = List ℕ} (λ r. x ∷ r) (clipped n u ys)

module _ {page : List ℕ} {at : ℕ} where
  pub put_as : {xs ys page' : List ℕ} {r : ℕ} → xs ≡ ys → Put page at xs page' r → Put page at ys page' r
  put_as e p = rw (← e) p

  pub put-none : at ≤ length page → Put page at [] page at
  put-none h =
      record {
        onwards = omega arith;
        within = h;
        filled = rw append-nil (sym (take_all (length page) (take at page) (simp length-take (omega arith))));
        behind = refl;
      }

  -- bytes that are copied to the page, as many as there is room for
  pub put_copied : {bytes copied : List ℕ} {n : ℕ} → at ≤ length page → n ≡ min (length page - at) (length bytes) → copied ≡ take n bytes
      → Put page at bytes (put_mid at (at + n - at) page copied) (at + n)
  put_copied {bytes} {copied} {n} h e f =
      let fits : take n bytes ≡ take (length page - at) bytes = rw e (take_min (length page - at) bytes) in
      let long : length copied ≡ n = rw f (length-take-le n bytes (omega arith)) in
      let u : length (take at page) ≡ at = length-take-le at page h in
      let j : at + n ≡ at + length copied = omega arith in
      let whole : length page ≡ length (take at page) + (length page - at) = omega arith in
      record {
        onwards = omega arith;
        within = omega arith;
        filled = take-put_mid at (at + n - at) page copied (at + n) j h ∙ ap (λ (l : List ℕ). take at page ++ l) (f ∙ fits)
            ∙ sym (ap (λ (m : ℕ). take m (take at page ++ bytes)) whole ∙ take-append-add (take at page) bytes (length page - at));
        behind = drop-put_mid at (at + n - at) page copied (at + n) (omega arith) h (omega arith);
      }

  pub put_then : {xs ys page' page'' : List ℕ} {r t : ℕ} → Put page at xs page' r → length page' ≡ length page → Put page' r ys page'' t → Put page at (xs ++ ys) page'' t
  put_then {xs} {ys} {page'} {page''} {r} {t} p n q =
      let f : take t page'' ≡ take (length page) (take r page' ++ ys) = rw n at q.filled in
      let g : take t page'' ≡ take (length page) (take (length page) (take at page ++ xs) ++ ys) = rw p.filled at f in
      let m : r + (t - r) ≡ t = let a = q.onwards in omega arith in
      let k : drop t page' ≡ drop t page = rw (← m) (sym (drop-drop (t - r) r page') ∙ ap (drop (t - r)) p.behind ∙ drop-drop (t - r) r page) in
      record {
        onwards = let a = p.onwards in let b = q.onwards in omega arith;
        within = let a = q.within in omega arith;
        filled = g ∙ clipped (length page) (take at page ++ xs) ys ∙ ap (take (length page)) (append_assoc (take at page) xs ys);
        behind = q.behind ∙ k;
      }

  -- the length of the page is that of the code's, which does not change
  pub put-fits : {xs page' : List ℕ} {r : ℕ} → Put page at xs page' r → length page' ≡ length page → at + length xs ≤ length page
      → (r ≡ at + length xs) × (page' ≡ (take at page ++ xs) ++ drop (at + length xs) page)
  put-fits {xs} {page'} {r} p n h =
      let l : length (take at page ++ xs) ≡ at + length xs = simp (length-append, length-take) (omega arith) in
      let f : take r page' ≡ take at page ++ xs = p.filled ∙ take_all (length page) (take at page ++ xs) (omega arith) in
      let b = p.within in
      let e : r ≡ at + length xs = sym (length-take-le r page' (omega arith)) ∙ ap length f ∙ l in
      let k : drop r page' ≡ drop (at + length xs) page = p.behind ∙ ap (λ (m : ℕ). drop m page) e in
      (e, sym (take-append-drop r page') ∙ rw (f, k))

pub put_whole : {page xs page' : List ℕ} {r : ℕ} → Put page 0 xs page' r → length page' ≡ length page → length xs ≤ length page → PutWhole page xs page' r
put_whole {page} {xs} {page'} {r} p n h =
    let z : 0 + length xs ≡ length xs = omega arith in
    let w = put-fits p n (omega arith) in
    record { count = w.0 ∙ z; content = rw z at w.1 }

pub whole-front : {page xs page' : List ℕ} {r : ℕ} → PutWhole page xs page' r → Front xs page' r
whole-front {page} {xs} {page'} {r} w =
    record {
      within = let e = ap length w.content in let a = length-append xs (drop (length xs) page) in let c = w.count in omega arith;
      front = rw (w.count, w.content) (take-append_seam xs (drop (length xs) page));
    }

abbrev pub Left : List ℕ → ℕ → List ℕ → List ℕ → ℕ → List ℕ → Type 0
Left page₀ at all page end rest = (page' : List ℕ) (r : ℕ) → Put page end rest page' r → Put page₀ at all page' r

pub left-start : {page : List ℕ} {at : ℕ} {all rest : List ℕ} → all ≡ rest → Left page at all page at rest
left-start e page' r p = put_as (sym e) p

module _ {page₀ : List ℕ} {at : ℕ} {all page : List ℕ} {end : ℕ} {rest : List ℕ} (l : Left page₀ at all page end rest) where
  pub left-more : {xs others page' : List ℕ} {r : ℕ} → rest ≡ xs ++ others → length page' ≡ length page → Put page end xs page' r → Left page₀ at all page' r others
  left-more e n p page'' t q = l page'' t (put_as (sym e) (put_then p n q))

  pub left_end : rest ≡ [] → end ≤ length page → Put page₀ at all page end
  left_end e h = l page end (put_as (sym e) (put-none h))

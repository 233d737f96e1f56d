-- `put_blocks` meets its contract.
use mathlib.Core.Path.{refl}
use mathlib.Core.Path.{◌∙◌}
use native.Mathlib.Omega.{arith}
use lib.ListN.{length-take, length-drop}
use Rattle.storing.proofs.Rows.{rows-stop, rows-over, rows-done, rows_more, row-fit}
use Rattle.storing.proofs.list.put_blocks.Goals as goal

pub returns-then-not-fits : goal.returns-then-not-fits
returns-then-not-fits c =
    let inv = c.loop-words.invariant in
    let s = c.in-Some.ensures.steps.1 in
    rows-stop _ _ (rw s.0 at inv.rows) (s.1 ∙ inv.size) c.fits.ensures c.if-not-fits.true c.unfit.ensures

pub slice_bounds-put_block-end : goal.slice_bounds-put_block-end
slice_bounds-put_block-end c =
    let inv = c.loop-words.invariant in
    let s = c.in-Some.ensures.steps.1 in
    let f = row-fit _ _ (rw s.0 at inv.rows) (s.1 ∙ inv.size) c.fits.ensures c.if-not-fits.false in
    omega (arith, f.within, inv.rows.within)

pub put_block-at-requires : goal.put_block-at-requires
put_block-at-requires c =
    let inv = c.loop-words.invariant in
    let s = c.in-Some.ensures.steps.1 in
    let f = row-fit _ _ (rw s.0 at inv.rows) (s.1 ∙ inv.size) c.fits.ensures c.if-not-fits.false in (
      simp (length-take, length-drop) (omega (arith, f.count)),
      omega (arith, f.here, f.place, inv.rows.place),
    )

pub loop-words-preserved : goal.loop-words-preserved
loop-words-preserved c =
    let inv = c.loop-words.invariant in
    let z = c.in-Some.ensures.steps.0 in
    let s = c.in-Some.ensures.steps.1 in
    record {
      size = z ∙ inv.size;
      rows = rows_more _ _ (rw s.0 at inv.rows) (s.1 ∙ inv.size) c.fits.ensures c.if-not-fits.false c.at-style.ensures refl c.put_block-at.ensures;
    }

pub returns-then-p-text : goal.returns-then-p-text
returns-then-p-text c =
    let inv = c.loop-words.invariant in
    rows-over inv.rows (rw inv.size at c.in-None.ensures.steps.1.0) (omega (arith, c.if-p-text.true)) c.unfit-then-p-text.ensures

pub returns : goal.returns
returns c =
    let inv = c.loop-words.invariant in
    rows-done inv.rows (rw inv.size at c.in-None.ensures.steps.1.0) (omega (arith, c.if-p-text.false))

-- `slice_end_by` meets its contract: in standard reading by its callee; else what is searched is the slice from that place on.
use native.Mathlib.Omega.{arith}
use lib.ListN.{length-take, length-drop}
use Rattle.slices.proofs.Feeds.{From, from-plain, from-paragraphs, length_from, length-standard}
use Rattle.slices.proofs.slice_end_by.Goals as goal
use Rattle.slices.proofs.slice_end_by.Goals.{in-Plain, in-Paragraphs}

pub returns-in-Standard : goal.returns-in-Standard
returns-in-Standard c =
    let e = c.standard_end.ensures in
    record { length = length-standard _ c.in-Standard.is e.length; within = e.within; some = e.some }

pub slice_bounds-slice_end-count : goal.slice_bounds-slice_end-count
slice_bounds-slice_end-count c =
    let f : From c.args.reading c.args.s.now c.match-reading.from
    = elim c.match-reading.branch [ in-Plain w ↦ from-plain w.in-Plain.is w.from-is | in-Paragraphs w ↦ from-paragraphs _ w.in-Paragraphs.is w.from-is w.feed_from-from.ensures.from w.feed_from-from.ensures.within w.feed_from-from.ensures.some ] in
    f.within

pub returns : goal.returns
returns c =
    let f : From c.args.reading c.args.s.now c.match-reading.from
    = elim c.match-reading.branch [ in-Plain w ↦ from-plain w.in-Plain.is w.from-is | in-Paragraphs w ↦ from-paragraphs _ w.in-Paragraphs.is w.from-is w.feed_from-from.ensures.from w.feed_from-from.ensures.within w.feed_from-from.ensures.some ] in
    let w = simp (length-take, length-drop) at c.slice_end.ensures.within in
    record {
      length = length_from f _ c.slice_end.ensures.length;
      within = omega (arith, w, f.within);
      some = λ h. omega (arith, c.slice_end.ensures.some (simp (length-take, length-drop) (omega (arith, f.some h))));
    }

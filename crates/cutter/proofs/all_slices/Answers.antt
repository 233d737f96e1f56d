-- `all_slices` meets its contract. The invariant: whoever cuts what is left has cut all; the bytes left are the measure.
use mathlib.Core.Path.{◌≡◌, refl}
use borrow.Author.Rules.{rules}
use Rattle.std.proofs.lemmas.Result.{err_from_is_err_and}
use Rattle.answers.specs.Answers.{refusal_at}
use Rattle.answers.proofs.Results.{mapped-ok, mapped-err}
use Rattle.rooms.proofs.Rooms.{wrote_none}
use Rattle.tokens.specs.Tokens.{token_layout}
use Rattle.cutter.proofs.Loop.{all_none, loop-start, loop-falls, loop-stop, next-above, loop-next, loop-last}
use Rattle.cutter.proofs.all_slices.Goals as goal

pub returns-then-s-eq0 : goal.returns-then-s-eq0
returns-then-s-eq0 c = wrote_none token_layout (all_none _ _ _ c.if-s-eq0.true)

pub loop-t-init : goal.loop-t-init
loop-t-init c = loop-start _ _ _ _ c.if-s-eq0.false c.requires

pub returns-in_err-m : goal.returns-in_err-m
returns-in_err-m c =
    let p = err_from_is_err_and c.from_residual.result c.from_residual.ensures.1 in
    let w = mapped-err _ _ c.map_err.ensures.cases c.in_err-m.was in
    let q : c.in_err-m.field-0.0 ≡ refusal_at w.0 c.loop-t.p = search rules in
    rw (p.1, p.2) (loop-stop _ c.loop-t.invariant (c.slice_end_by-e.ensures.length, (c.slice_end_by-e.ensures.within, c.slice_end_by-e.ensures.some)) c.if-t-e.false c.cut_slice.ensures w.1 refl q)

pub seal-requires : goal.seal-requires
seal-requires c = next-above _ c.loop-t.invariant (c.slice_end_by-e.ensures.length, (c.slice_end_by-e.ensures.within, c.slice_end_by-e.ensures.some)) c.if-t-e.false c.cut_slice.ensures (mapped-ok _ _ c.map_err.ensures.cases c.in_ok-m.was)

pub loop-t-smaller : goal.loop-t-smaller
loop-t-smaller c = loop-falls _ c.loop-t.invariant (c.slice_end_by-e.ensures.length, (c.slice_end_by-e.ensures.within, c.slice_end_by-e.ensures.some)) c.if-t-e.false

pub loop-t-preserved : goal.loop-t-preserved
loop-t-preserved c = loop-next _ c.loop-t.invariant (c.slice_end_by-e.ensures.length, (c.slice_end_by-e.ensures.within, c.slice_end_by-e.ensures.some)) c.if-t-e.false c.cut_slice.ensures (mapped-ok _ _ c.map_err.ensures.cases c.in_ok-m.was) refl refl c.seal.ensures

pub returns : goal.returns
returns c = loop-last _ c.loop-t.invariant (c.slice_end_by-e.ensures.length, (c.slice_end_by-e.ensures.within, c.slice_end_by-e.ensures.some)) c.if-t-e.true c.last_by.ensures

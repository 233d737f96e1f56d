-- `standard_last` meets its contract: `}` alone; a refusal of its own; another slice.
use mathlib.Core.Path.{◌≡◌, refl, ◌∙◌}
use borrow.Author.Rules.{rules}
use Rattle.answers.specs.Answers.{refusal_at}
use Rattle.std.proofs.lemmas.Result.{err_from_is_err_and}
use Rattle.answers.proofs.Results.{mapped-ok, mapped-err}
use Rattle.readings.specs.declared.Reading.TheVariants.{Standard}
use Rattle.cutter.proofs.Loop.{slice-above, last-stop, last-open, last-closed}
use Rattle.cutter.proofs.Source.{bracket-alone}
use Rattle.cutter.proofs.standard_last.Goals as goal

pub seal-requires : goal.seal-requires
seal-requires c = slice-above Standard _ _ c.slice_tokens.ensures (mapped-ok _ _ c.map_err.ensures.cases c.in_ok-m.was)

pub returns-in_err-m : goal.returns-in_err-m
returns-in_err-m c =
    let p = err_from_is_err_and c.from_residual.result c.from_residual.ensures.1 in
    let w = mapped-err _ _ c.map_err.ensures.cases c.in_err-m.was in
    let q : c.in_err-m.field-0.0 ≡ refusal_at w.0 c.args.place = search rules in
    rw (p.1, p.2) (last-stop _ _ c.slice_tokens.ensures w.1 q)

pub returns-then-eq : goal.returns-then-eq
returns-then-eq c = last-closed _ _ c.slice_tokens.ensures (mapped-ok _ _ c.map_err.ensures.cases c.in_ok-m.was) (c.eq.ensures ∙ bracket-alone _ _ c.as_slice.ensures) c.if-eq.true refl refl c.seal.ensures

pub returns : goal.returns
returns c = last-open _ _ c.slice_tokens.ensures (mapped-ok _ _ c.map_err.ensures.cases c.in_ok-m.was) (c.eq.ensures ∙ bracket-alone _ _ c.as_slice.ensures) c.if-eq.false c.at.ensures

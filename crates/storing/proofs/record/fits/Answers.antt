-- `fits` meets its contract: a law for each way through it.
use mathlib.Core.Path.{refl}
use Rattle.fields.specs.Fields.{last_of}
use Rattle.storing.proofs.Fitting.{no_says, no-rest, text-decides}
use Rattle.storing.proofs.record.fits.Goals as goal

pub returns-then-not-in_range-signs : goal.returns-then-not-in_range-signs
returns-then-not-in_range-signs c =
    no_says (last_of c.args.before) _ _ _ c.at-s.ensures refl refl
    c.in_range.ensures c.follows.ensures c.if-not-in_range-signs.true-raw

pub returns-then-text-p : goal.returns-then-text-p
returns-then-text-p c =
    no-rest (last_of c.args.before) _ _ _ c.at-s.ensures refl refl
    c.in_range.ensures c.follows.ensures c.if-not-in_range-signs.false-raw c.if-text-p.true

pub returns : goal.returns
returns c =
    text-decides (last_of c.args.before) _ _ _ c.at-s.ensures refl refl
    c.in_range.ensures c.follows.ensures c.if-not-in_range-signs.false-raw c.if-text-p.false c.is_utf8.ensures

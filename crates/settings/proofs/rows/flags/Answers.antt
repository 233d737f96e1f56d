-- `flags` meets its contract: the sum of its bits.
use Rattle.settings.specs.Fields.{flags_of}
use Rattle.settings.proofs.rows.flags.Goals as goal

pub returns : goal.returns
unfolding flags_of
returns c = rw (c.bit-bold.ensures.0, c.bit-italic.ensures.0, c.bit-underline.ensures.0, c.bit-superscript.ensures.0, c.bit-subscript.ensures.0, c.bit-smallcaps.ensures.0, c.bit-strike.ensures.0)

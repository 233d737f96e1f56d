-- `refuse` meets its contract: each room is cleared.
use mathlib.Core.Path.{refl}
use Rattle.rooms.proofs.Clearing.{cleared}
use Rattle.reader.proofs.refuse.Goals as goal

pub returns : goal.returns
returns c = let a = c.args in record { answer = refl; token_room = cleared a.tokens.now c.clear_from.ensures; font_room = cleared a.fonts.now c.clear_from-2.ensures; colour_room = cleared a.colours.now c.clear_from-3.ensures; block_room = cleared a.blocks.now c.clear_from-4.ensures; text_room = cleared a.text.now c.clear_from-5.ensures }

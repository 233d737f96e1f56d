-- 01, Body, and 02, A1 and A4: what each step of the header walk does, and the pieces of text that the steps say, or a refusal. Assumes nothing:
-- these are definitions.
use Rattle.std.specs.Prelude.{List, [], ◌∷◌}
use Rattle.answers.specs.declared.Refusal.{Refusal}
use Rattle.readings.specs.declared.Reading.{Reading}
use Rattle.rooms.specs.Streams.{Stream}
use Rattle.settings.specs.Fields.{Setting}
use Rattle.tokens.specs.Tokens.{slice_of, shown_in}
use Rattle.walk.specs.Walk.{Step, kept, hidden, font_table, colour_table}
use Rattle.machine.specs.Machine.{Act, at, parts, start}
use Rattle.blocks.specs.Pages.{Piece}
use Rattle.runs.specs.Runs.{rows, steps_by}
use Rattle.deeds.specs.Deeds.{token_deed}

-- "The body is read without the tokens that the walk passed over or read as a table; these still stand between their neighbours."
-- What only parts its neighbours is never refused, and has no place
abbrev pub act_of : Reading → Step → Act Setting
act_of rd (kept t) = at (slice_of t) (token_deed rd (shown_in t))
act_of rd hidden = at 0 parts
act_of rd (font_table late ts) = at 0 parts
act_of rd (colour_table late ts) = at 0 parts

unfoldable pub acts : Reading → List Step → List (Act Setting)
acts rd [] = []
acts rd (s ∷ ss) = act_of rd s ∷ acts rd ss

-- the body of a letter's steps
unfoldable pub body : Reading → List Step → Stream Refusal Piece
body rd ss = start rows (steps_by rd) (acts rd ss)

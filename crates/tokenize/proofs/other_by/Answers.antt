-- `other_by` meets its contract: by the reading.
use Rattle.rooms.proofs.Rooms.{wrote_as}
use Rattle.tokens.specs.Tokens.{shown_layout}
use Rattle.tokenize.proofs.Rules.{other-plain, other-paragraphs, other-standard}
use Rattle.tokenize.proofs.other_by.Goals as goal

pub returns-in-Plain : goal.returns-in-Plain
returns-in-Plain c = wrote_as shown_layout (other-plain _ _ c.in-Plain.is) c.other.ensures

pub returns-in-Paragraphs : goal.returns-in-Paragraphs
returns-in-Paragraphs c = wrote_as shown_layout (other-paragraphs _ _ c.in-Paragraphs.is) c.returned.ensures

pub returns-in-Standard : goal.returns-in-Standard
returns-in-Standard c = wrote_as shown_layout (other-standard _ _ c.in-Standard.is) c.returned-in-Standard.ensures

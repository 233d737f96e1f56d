-- `word` meets its contract: the word's token, or its refusal, and then the text behind it.
use mathlib.Core.Path.{refl}
use native.Mathlib.Omega.{arith}
use lib.ListN.{length-take, length-drop}
use Rattle.rooms.proofs.Rooms.{wrote_then, wrote-stops}
use Rattle.tokens.specs.Tokens.{shown_layout}
use Rattle.standard.proofs.Rules.{word-parts}
use Rattle.standard.proofs.Sizes.{named-next}
use Rattle.std.proofs.lemmas.Result.{err_from_is_err_and}
use Rattle.standard.proofs.word.Goals as goal

pub tail-requires : goal.tail-requires
tail-requires c =
    let b = named-next _ _ _ c.named.ensures c.in_ok-next.was in
    simp (length-take, length-drop) (omega arith)

pub returns-in_err-next : goal.returns-in_err-next
returns-in_err-next c =
    let p = err_from_is_err_and c.from_residual.result c.from_residual.ensures.1 in
    rw (p.1, p.2) (wrote-stops shown_layout _ (word-parts _ _ _ _ _ c.letters_of-k.ensures.0 c.number_length.ensures.0 refl) c.named.ensures c.in_err-next.was)

pub returns : goal.returns
returns c = wrote_then shown_layout _ (word-parts _ _ _ _ _ c.letters_of-k.ensures.0 c.number_length.ensures.0 c.leads.ensures.0) c.named.ensures c.in_ok-next.was c.tail.ensures

-- `word` meets its contract: the word's token, or its refusal, and then the text behind it.
use mathlib.Core.Path.{refl}
use native.Mathlib.Omega.{arith}
use lib.ListN.{length-take, length-drop}
use Rattle.rooms.proofs.Rooms.{wrote_none, wrote_then, wrote-stops}
use Rattle.tokens.specs.Tokens.{shown_layout}
use Rattle.tokenize.proofs.Rules.{word-parts, word-short}
use Rattle.tokenize.proofs.Sizes.{named-next}
use Rattle.std.proofs.lemmas.Result.{err_from_is_err_and}
use Rattle.tokenize.proofs.word.Goals as goal

pub returns-then-k-s : goal.returns-then-k-s
returns-then-k-s c = wrote_then shown_layout _ (word-short _ _ _ _ c.lead_of-k.ensures.count c.bare_length-e.ensures.value c.if-k-s.true) c.named.ensures c.in_ok-m.was (wrote_none shown_layout refl)

pub word_tail-requires : goal.word_tail-requires
word_tail-requires c =
    let b = named-next _ _ c.named.ensures c.in_ok-m.was in
    simp (length-take, length-drop) (omega arith)

pub returns-in_err-m : goal.returns-in_err-m
returns-in_err-m c =
    let p = err_from_is_err_and c.from_residual.result c.from_residual.ensures.1 in
    rw (p.1, p.2) (wrote-stops shown_layout _ (word-parts _ _ _ _ c.lead_of-k.ensures.count c.bare_length-e.ensures.value) c.named.ensures c.in_err-m.was)

pub returns : goal.returns
returns c = wrote_then shown_layout _ (word-parts _ _ _ _ c.lead_of-k.ensures.count c.bare_length-e.ensures.value) c.named.ensures c.in_ok-m.was c.word_tail.ensures

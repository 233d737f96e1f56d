-- `tokenize` meets its contract: each branch is the rule of the first byte.
use native.Mathlib.Omega.{arith}
use mathlib.Core.Path.{refl}
use lib.ListN.{length-take, length-drop}
use Rattle.rooms.proofs.Rooms.{wrote_none, wrote_then, wrote_as}
use Rattle.tokens.specs.Tokens.{shown_layout}
use Rattle.tokenize.proofs.Rules.{tokens_none, tokens-mark, tokens-alone, tokens-escaped, tokens-plain}
use Rattle.tokenize.proofs.Sizes.{mark-next}
use Rattle.tokenize.proofs.+tokenize.Goals as goal

pub returns-then-s-eq0 : goal.returns-then-s-eq0
returns-then-s-eq0 t c = wrote_none shown_layout (tokens_none _ _ _ c.if-s-eq0.true)

pub returns-then-s-eq1 : goal.returns-then-s-eq1
returns-then-s-eq1 t c = wrote_then shown_layout _ (tokens-alone _ _ _ c.if-s-eq0.false _ c.is_mark.ensures c.if-is_mark.true c.if-s-eq1.true) c.mark-m.ensures refl (wrote_none shown_layout refl)

pub tokenize-requires : goal.tokenize-requires
tokenize-requires t c =
    let b = mark-next _ c.mark-m.ensures in
    (simp (length-take, length-drop) (omega (arith, c.decreases, c.if-s-eq0.false)), (simp (length-take, length-drop) (omega (arith, c.requires.0, c.if-s-eq0.false)), omega (arith, c.requires.1, b)))

pub returns-then-is_mark : goal.returns-then-is_mark
returns-then-is_mark t c = wrote_then shown_layout _ (tokens-mark _ _ _ c.if-s-eq0.false _ c.is_mark.ensures c.if-is_mark.true) c.mark-m.ensures refl c.tokenize.ensures

pub returns-then-b-eq92 : goal.returns-then-b-eq92
returns-then-b-eq92 t c = wrote_as shown_layout (tokens-escaped _ _ _ c.if-s-eq0.false _ c.is_mark.ensures c.if-is_mark.false c.if-b-eq92.true) c.escaped.ensures

pub returns : goal.returns
returns t c = wrote_as shown_layout (tokens-plain _ _ _ c.if-s-eq0.false _ c.is_mark.ensures c.if-is_mark.false c.if-b-eq92.false) c.plain.ensures

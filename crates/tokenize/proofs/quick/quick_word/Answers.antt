-- `quick_word` meets its contract: the shape is that of the definition, or `tokenize` finds it. Assumes nothing.
use native.Mathlib.Omega.{arith}
use lib.ListN.{length-take, length-drop}
use Rattle.rooms.proofs.Rooms.{wrote_then, wrote-stops}
use Rattle.tokens.specs.Tokens.{shown_layout}
use Rattle.tokenize.proofs.Sizes.{named-next}
use Rattle.tokenize.proofs.Shapes.{word-body, word-shape}
use Rattle.std.proofs.lemmas.Result.{err_from_is_err_and}
use Rattle.tokenize.proofs.quick.quick_word.Goals as goal

pub numbered-requires : goal.numbered-requires
numbered-requires c =
    let h = simp (length-take, length-drop) at c.lead_of.ensures.within in
    record { bounds = (simp length-take (omega (arith, h, c.letters_of-e.ensures, c.requires)), c.requires.1); ends = (word-body _ _ _ c.letters_of-e.ensures.0 c.lead_of.ensures.count _ c.ends_at.ensures c.if-not-ends_at.false-raw, simp length-take (omega (arith, h, c.letters_of-e.ensures))) }

pub behind-requires : goal.behind-requires
behind-requires c =
    let h = simp (length-take, length-drop) at c.lead_of.ensures.within in
    let b = named-next _ _ c.numbered.ensures c.in_ok-m.was in
    (c.requires.0, omega (arith, b, c.requires), omega (arith, h, c.letters_of-e.ensures))

pub returns-in_err-m : goal.returns-in_err-m
returns-in_err-m c =
    let h = simp (length-take, length-drop) at c.lead_of.ensures.within in
    let p = err_from_is_err_and c.from_residual.result c.from_residual.ensures.1 in
    rw (p.1, p.2) (wrote-stops shown_layout _ (word-shape _ _ _ c.letters_of-e.ensures.0 c.lead_of.ensures.count _ c.ends_at.ensures c.if-not-ends_at.false-raw _ (omega (arith, h, c.letters_of-e.ensures))) c.numbered.ensures c.in_err-m.was)

pub returns : goal.returns
returns c =
    let h = simp (length-take, length-drop) at c.lead_of.ensures.within in
    wrote_then shown_layout _ (word-shape _ _ _ c.letters_of-e.ensures.0 c.lead_of.ensures.count _ c.ends_at.ensures c.if-not-ends_at.false-raw _ (omega (arith, h, c.letters_of-e.ensures))) c.numbered.ensures c.in_ok-m.was c.behind.ensures

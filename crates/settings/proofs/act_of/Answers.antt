-- `act_of` meets its contract: word by word. In an arm the word is a number, and `effect` computes.
use mathlib.Core.Path.{refl, ◌∙◌}
use mathlib.Core.List.{[]}
use native.Mathlib.Omega.{arith}
use Rattle.settings.specs.Effects.{sets, painter_word, paragraph_word, character_word, ending_word, indent_word, effect, meaning}
use Rattle.settings.proofs.Effects.{by_word, no-painter, no-paragraph, no-character, no-ending, no-indent, other_word}
use Rattle.settings.proofs.act_of.Goals as goal

pub returns-in-11 : goal.returns-in-11
unfolding painter_word paragraph_word character_word ending_word indent_word effect meaning
returns-in-11 c = (by_word c.args.reading c.args.number 11 c.in-11.is (c.fit.ensures.0 ∙ rw c.unwrap_or-v.ensures), c.fit.ensures.1)

pub returns-in-9 : goal.returns-in-9
unfolding painter_word paragraph_word character_word ending_word indent_word effect meaning
returns-in-9 c = (by_word c.args.reading c.args.number 9 c.in-9.is (c.fit-in-9.ensures.0 ∙ rw c.unwrap_or-v.ensures), c.fit-in-9.ensures.1)

pub returns-in-10 : goal.returns-in-10
unfolding painter_word paragraph_word character_word ending_word indent_word effect meaning
returns-in-10 c = (by_word c.args.reading c.args.number 10 c.in-10.is (c.fit-in-10.ensures.0 ∙ rw c.unwrap_or-v.ensures), c.fit-in-10.ensures.1)

pub returns-in-13 : goal.returns-in-13
unfolding painter_word paragraph_word character_word ending_word indent_word effect meaning
returns-in-13 c = (by_word c.args.reading c.args.number 13 c.in-13.is (rw c.flag.ensures), omega arith)

pub returns-in-12 : goal.returns-in-12
unfolding painter_word paragraph_word character_word ending_word indent_word effect meaning
returns-in-12 c = (by_word c.args.reading c.args.number 12 c.in-12.is (rw c.flag-in-12.ensures), omega arith)

pub returns-in-14 : goal.returns-in-14
unfolding painter_word paragraph_word character_word ending_word indent_word effect meaning
returns-in-14 c = (by_word c.args.reading c.args.number 14 c.in-14.is (rw c.flag-in-14.ensures), omega arith)

pub returns-in-16 : goal.returns-in-16
unfolding painter_word paragraph_word character_word ending_word indent_word effect meaning
returns-in-16 c = (by_word c.args.reading c.args.number 16 c.in-16.is (rw c.flag-in-16.ensures), omega arith)

pub returns-in-17 : goal.returns-in-17
unfolding painter_word paragraph_word character_word ending_word indent_word effect meaning
returns-in-17 c = (by_word c.args.reading c.args.number 17 c.in-17.is (rw c.flag-in-17.ensures), omega arith)

pub returns-in-18 : goal.returns-in-18
unfolding painter_word paragraph_word character_word ending_word indent_word effect meaning
returns-in-18 c = (by_word c.args.reading c.args.number 18 c.in-18.is (rw c.flag-in-18.ensures), omega arith)

pub returns-in-19 : goal.returns-in-19
unfolding painter_word paragraph_word character_word ending_word indent_word effect meaning
returns-in-19 c = (by_word c.args.reading c.args.number 19 c.in-19.is (rw c.flag-in-19.ensures), omega arith)

pub returns-in-15 : goal.returns-in-15
unfolding painter_word paragraph_word character_word ending_word indent_word effect meaning
returns-in-15 c = (by_word c.args.reading c.args.number 15 c.in-15.is refl, omega arith)

pub returns-in-23 : goal.returns-in-23
unfolding painter_word paragraph_word character_word ending_word indent_word effect meaning
returns-in-23 c = (by_word c.args.reading c.args.number 23 c.in-23.is refl, omega arith)

pub returns-in-21 : goal.returns-in-21
unfolding painter_word paragraph_word character_word ending_word indent_word effect meaning
returns-in-21 c = (by_word c.args.reading c.args.number 21 c.in-21.is refl, omega arith)

pub returns-in-35 : goal.returns-in-35
unfolding painter_word paragraph_word character_word ending_word indent_word effect meaning
returns-in-35 c = (by_word c.args.reading c.args.number 35 c.in-35.is (c.space.ensures.0 ∙ rw c.unwrap_or-v.ensures), c.space.ensures.1)

pub returns-in-33 : goal.returns-in-33
unfolding painter_word paragraph_word character_word ending_word indent_word effect meaning
returns-in-33 c = (by_word c.args.reading c.args.number 33 c.in-33.is (rw c.unwrap_or-v.ensures), omega arith)

pub returns-in-34 : goal.returns-in-34
unfolding painter_word paragraph_word character_word ending_word indent_word effect meaning
returns-in-34 c = (by_word c.args.reading c.args.number 34 c.in-34.is (rw c.unwrap_or-v.ensures), omega arith)

pub returns-in-36 : goal.returns-in-36
unfolding painter_word paragraph_word character_word ending_word indent_word effect meaning
returns-in-36 c = (by_word c.args.reading c.args.number 36 c.in-36.is (rw c.unwrap_or-v.ensures), omega arith)

pub returns-in-25 : goal.returns-in-25
unfolding painter_word paragraph_word character_word ending_word indent_word effect meaning
returns-in-25 c = (by_word c.args.reading c.args.number 25 c.in-25.is (rw c.unwrap_or-v.ensures), omega arith)

pub returns-in-3 : goal.returns-in-3
unfolding painter_word paragraph_word character_word ending_word indent_word effect meaning
returns-in-3 c = (by_word c.args.reading c.args.number 3 c.in-3.is (rw c.unwrap_or-v.ensures), omega arith)

pub returns-in-26 : goal.returns-in-26
unfolding painter_word paragraph_word character_word ending_word indent_word effect meaning
returns-in-26 c = (by_word c.args.reading c.args.number 26 c.in-26.is refl, omega arith)

pub returns-in-27 : goal.returns-in-27
unfolding painter_word paragraph_word character_word ending_word indent_word effect meaning
returns-in-27 c = (by_word c.args.reading c.args.number 27 c.in-27.is refl, omega arith)

pub returns-in-29 : goal.returns-in-29
unfolding painter_word paragraph_word character_word ending_word indent_word effect meaning
returns-in-29 c = (by_word c.args.reading c.args.number 29 c.in-29.is refl, omega arith)

pub returns-in-28 : goal.returns-in-28
unfolding painter_word paragraph_word character_word ending_word indent_word effect meaning
returns-in-28 c = (by_word c.args.reading c.args.number 28 c.in-28.is refl, omega arith)

pub returns-in-40 : goal.returns-in-40
unfolding painter_word paragraph_word character_word ending_word indent_word effect meaning
returns-in-40 c = (by_word c.args.reading c.args.number 40 c.in-40.is refl, omega arith)

pub returns-in-41 : goal.returns-in-41
unfolding painter_word paragraph_word character_word ending_word indent_word effect meaning
returns-in-41 c = (by_word c.args.reading c.args.number 41 c.in-41.is refl, omega arith)

pub returns-in-42 : goal.returns-in-42
unfolding painter_word paragraph_word character_word ending_word indent_word effect meaning
returns-in-42 c = (by_word c.args.reading c.args.number 42 c.in-42.is refl, omega arith)

pub returns-in-43 : goal.returns-in-43
unfolding painter_word paragraph_word character_word ending_word indent_word effect meaning
returns-in-43 c = (by_word c.args.reading c.args.number 43 c.in-43.is refl, omega arith)

pub returns-in-44 : goal.returns-in-44
unfolding painter_word paragraph_word character_word ending_word indent_word effect meaning
returns-in-44 c = (by_word c.args.reading c.args.number 44 c.in-44.is refl, omega arith)

pub returns-in-45 : goal.returns-in-45
unfolding painter_word paragraph_word character_word ending_word indent_word effect meaning
returns-in-45 c = (by_word c.args.reading c.args.number 45 c.in-45.is refl, omega arith)

pub returns-in-46 : goal.returns-in-46
unfolding painter_word paragraph_word character_word ending_word indent_word effect meaning
returns-in-46 c = (by_word c.args.reading c.args.number 46 c.in-46.is refl, omega arith)

pub returns-in-47 : goal.returns-in-47
unfolding painter_word paragraph_word character_word ending_word indent_word effect meaning
returns-in-47 c = (by_word c.args.reading c.args.number 47 c.in-47.is refl, omega arith)

pub returns-in-48 : goal.returns-in-48
unfolding painter_word paragraph_word character_word ending_word indent_word effect meaning
returns-in-48 c = (by_word c.args.reading c.args.number 48 c.in-48.is refl, omega arith)

pub returns-in-20 : goal.returns-in-20
unfolding painter_word paragraph_word character_word ending_word indent_word effect meaning
returns-in-20 c = (by_word c.args.reading c.args.number 20 c.in-20.is c.ending.ensures.0, c.ending.ensures.1)

pub returns-in-32 : goal.returns-in-32
unfolding painter_word paragraph_word character_word ending_word indent_word effect meaning
returns-in-32 c = (by_word c.args.reading c.args.number 32 c.in-32.is (c.indent.ensures.0 ∙ rw c.unwrap_or-v.ensures), c.indent.ensures.1)

pub returns-in-31 : goal.returns-in-31
unfolding painter_word paragraph_word character_word ending_word indent_word effect meaning
returns-in-31 c = (by_word c.args.reading c.args.number 31 c.in-31.is (c.indent-in-31.ensures.0 ∙ rw c.unwrap_or-v.ensures), c.indent-in-31.ensures.1)

pub returns-in-30 : goal.returns-in-30
unfolding painter_word paragraph_word character_word ending_word indent_word effect meaning
returns-in-30 c = (by_word c.args.reading c.args.number 30 c.in-30.is (c.indent-in-30.ensures.0 ∙ rw c.unwrap_or-v.ensures), c.indent-in-30.ensures.1)

pub returns-in_default : goal.returns-in_default
unfolding meaning
returns-in_default c =
    let w = c.args.w in
    let num = c.args.number in
    let m = c.in_default.in_default-own.rest in
    let n = m.0.0.0 in
    let n8 = n.0.0.0.0.0.0.0.0 in
    let n16 = n8.0.0.0.0.0.0.0.0 in
    let n24 = n16.0.0.0.0.0.0.0.0 in (
      other_word c.args.reading w num
          (no-painter w c.args.reading num (sets []) n24.0.0.0.0.0.0.0.0.1 n24.0.0.0.0.0.0.0.1 n24.0.0.0.0.0.0.1 n24.0.0.0.0.0.1 n24.0.0.0.0.1 n24.0.0.0.1 n24.0.0.1 n24.0.1 n24.1 n16.0.0.0.0.0.0.0.1 n16.0.0.0.0.0.0.1 n16.0.0.0.0.0.1)
          (no-paragraph w num (sets []) n16.0.0.0.0.1 n16.0.0.0.1 n16.0.0.1 n16.0.1 n16.1 n8.0.0.0.0.0.0.0.1 n8.0.0.0.0.0.0.1 n8.0.0.0.0.0.1 n8.0.0.0.0.1 n8.0.0.0.1 n8.0.0.1)
          (no-character w (sets []) n8.0.1 n8.1 n.0.0.0.0.0.0.0.1 n.0.0.0.0.0.0.1 n.0.0.0.0.0.1 n.0.0.0.0.1 n.0.0.0.1 n.0.0.1 n.0.1)
          (no-ending w c.args.reading (sets []) n.1)
          (no-indent w c.args.reading num (sets []) m.0.0.1 m.0.1 m.1),
      omega arith,
    )

-- `of_reading` meets its contract: each count is small, and so it fits 32 bits.
use native.Mathlib.Omega.{arith}
use Rattle.host.proofs.Answers.{read_as, refused_as}
use Rattle.host.proofs.answer.of_reading.Goals as goal

pub overflow_cast-result : goal.overflow_cast-result
overflow_cast-result c = let h = (c.requires _ c.in-Ok.is).tokens in omega arith

pub overflow_cast-result-in-Ok : goal.overflow_cast-result-in-Ok
overflow_cast-result-in-Ok c = let h = (c.requires _ c.in-Ok.is).fonts in omega arith

pub overflow_cast-result-in-Ok-2 : goal.overflow_cast-result-in-Ok-2
overflow_cast-result-in-Ok-2 c = let h = (c.requires _ c.in-Ok.is).colours in omega arith

pub overflow_cast-result-in-Ok-3 : goal.overflow_cast-result-in-Ok-3
overflow_cast-result-in-Ok-3 c = let h = (c.requires _ c.in-Ok.is).blocks in omega arith

pub overflow_cast-result-in-Ok-4 : goal.overflow_cast-result-in-Ok-4
overflow_cast-result-in-Ok-4 c = let h = (c.requires _ c.in-Ok.is).text in omega arith

pub returns-in-Ok : goal.returns-in-Ok
returns-in-Ok c = read_as c.in-Ok.is

pub returns-in-Err : goal.returns-in-Err
returns-in-Err c = refused_as c.in-Err.is c.number-refusal.ensures

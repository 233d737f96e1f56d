-- Answers: by their parts. Tight: one result is permitted of each exported function.
mod Answers
pub mod Tight

-- Runs: a state as a row, a run in its words, what is laid.
pub mod Runs

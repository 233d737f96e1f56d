-- Laws that the crates above cite: Stack, of the stack in an array; Argument, of what brackets, and moves between them, do to a stack;
-- Maps, of states of two kinds that go the same way; Runs, of what a run of `u` tokens says; Parts, of tokens in two parts; Few, of
-- how much is said; Left, of what is left of a token where characters are passed over; Places, of the places of tokens and refusals. For this crate alone: Cases, small bodies computed.
pub mod Stack
pub mod Argument
pub mod Maps
pub mod Runs
pub mod Parts
pub mod Few
pub mod Left
pub mod Places
mod Cases

-- Previews: the promise of specs/Promise, proved. Its parts: Tokens, of what a letter's tokens show; States, of the ranges that
-- a state keeps; Pieces, of what the body writes; Joining, of pieces that become blocks. Needs: the letter that the promise names,
-- and the rooms that are too small for it.
pub mod Tokens
pub mod States
pub mod Pieces
pub mod Joining
pub mod Previews
mod Needs

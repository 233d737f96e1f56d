-- Deeds: what a token does. Turns: what the code answers for one token.
pub mod Deeds
pub mod Turns

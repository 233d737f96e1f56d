-- Groups: what the walk passes over. Turns: the loop over the tokens.
pub mod Groups
pub mod Turns

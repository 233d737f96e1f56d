-- Tokens: what the program prints of a letter.
pub mod Tokens

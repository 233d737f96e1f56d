-- Tokens: what a token shows, and its record. WordNumbers: words by name. Items: a token's record, read back.
pub mod Tokens
pub mod WordNumbers
pub mod Items

-- Walk: the header walk over a letter's tokens.
pub mod Walk

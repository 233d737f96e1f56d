-- Words: what a token does, by its words. Moves: what becomes of the states. Turning: where a token leads. Owed: characters that are passed over.
pub mod Words
pub mod Moves
pub mod Turning
pub mod Owed

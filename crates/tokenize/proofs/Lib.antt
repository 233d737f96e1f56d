-- Laws that the crates above cite: Rules, one for each branch of the code; Sizes, that a slice gives at most one token for each byte;
-- Places, that what a slice shows stands in it. For this crate alone: Shapes, of a word that is letters and then digits; Words, that each
-- word's number is that of its name.
mod Shapes
mod Words
pub mod Rules
pub mod Sizes
pub mod Places

-- Fills: a read behind what was read before.
pub mod Fills

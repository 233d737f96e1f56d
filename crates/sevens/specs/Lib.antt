-- Sevens: a stored number as seven-bit groups. Assumes nothing.
pub mod Sevens

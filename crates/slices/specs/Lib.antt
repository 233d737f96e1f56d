-- Slices: where a letter is cut apart. Eights: eight bytes as one number.
pub mod Eights
pub mod Slices

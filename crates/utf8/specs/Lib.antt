-- Utf8: a Unicode scalar value as a sequence of bytes. Assumes nothing.
pub mod Utf8

-- Bytes as one number, and the marks in it of bytes that pass a test: those of the crate below.
pub use Rattle.classes.specs.Eights.{packed, mark_of, marked, outside}

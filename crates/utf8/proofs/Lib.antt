-- Laws that the crates above cite: Utf8, of sequences. For this crate alone: Bits, of its shifts and masks; Samples, the RFC's examples.
-- Assumes nothing.
pub mod Utf8
pub mod Bits
pub mod Samples

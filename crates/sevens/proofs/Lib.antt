-- Laws that the crates above cite: Sevens, of a number's groups and of the round trips; Streamed, of bytes written one by one.
-- For this crate alone: Tests, of two tests at once; Bits, of its shifts and masks; Branches, of its code; Cases, telling
-- lists. Assumes nothing.
pub mod Sevens
pub mod Streamed
mod Tests
mod Bits
mod Branches
mod Cases

-- Laws that the crates above cite: Entries, of one block; Blocks, of a list's blocks; Ample, that the check answers as the reader does;
-- Tight, that one result is permitted. For this crate alone: Branches and Reading, of `entry`; Mapped, of `map_err`; Laying, of the loop over the blocks; Whole, of a
-- whole list; Checking, of `check`; Cases, telling lists, read and checked.
pub mod Ample
mod Checking
mod Cases
pub mod Entries
mod Branches
mod Reading
pub mod Blocks
pub mod Tight
mod Laying
mod Mapped
mod Whole

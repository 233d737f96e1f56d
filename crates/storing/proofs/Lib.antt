-- Laws that the crates above cite: Fitting, of a record's tests; Putting, of a block's bytes; Lists, of the whole list; Writing, what is
-- written, and of which blocks; Settling, of the answer and the room at the end; Tight, that one result is permitted. For this crate alone: Fronts, of
-- words that start with a record; Rows, of the loop over the records; Indents, of 26; Cases, small lists, computed.
pub mod Lists
mod Rows
mod Fronts
mod Indents
pub mod Putting
pub mod Fitting
pub mod Settling
mod Cases
pub mod Writing
pub mod Tight

-- Laws that the crates above cite: Slices, of a source's slices and of where they meet; Standard, the same in standard reading; Feeds, by the
-- reading. For this crate alone: Cuttings, of slices by any cutting; Packed, of bytes as one number; Bitwise, of the marks of bytes;
-- Ends and Searches, of the search for a slice's end.
mod Packed
mod Bitwise
pub mod Cuttings
pub mod Slices
mod Ends
mod Searches
pub mod Standard
pub mod Feeds

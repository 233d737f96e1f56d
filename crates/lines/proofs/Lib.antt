-- Pages: bytes put on a page, one after the other. Lengths: how many bytes texts have. Parts: the lines of a room, part by
-- part. Decimals: the digits of a number. Lines: the lines of records.
pub mod Pages
pub mod Lengths
pub mod Parts
mod Decimals
mod Lines

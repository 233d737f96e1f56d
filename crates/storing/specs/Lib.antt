-- Lists: block records and a text, as the bytes of a stored list.
-- Bytes: what a block is as bytes, and a list of them.
-- Fitting: a block's record, and whether it may stand where it does.
-- Storing: block records and a text, written as a stored list. Good: blocks that a list can hold.
pub mod Lists
pub mod Bytes
pub mod Fitting
pub mod Storing
pub mod Good

-- Laws that the crates above cite: Blocks, of blocks and text; Laying, of pieces laid one after the other; Settling, that what
-- is laid is the blocks and the text of the pieces that find room; Writing, of the code's own steps, for code that takes them
-- one by one. For this crate alone: Records, of a record's words in a room; Copying, of bytes copied in pieces; Cases, telling
-- pieces, computed.
mod Records
pub mod Blocks
pub mod Laying
pub mod Settling
mod Copying
pub mod Writing
mod Cases

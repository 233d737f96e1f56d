-- Laws that the crates above cite: Records, of a token's words and of writing them; Sealing, of the words of its slice; Items, of a record
-- read back; Chunks, of a loop over a room's tokens.
pub mod Chunks
pub mod Items
pub mod Records
pub mod Sealing

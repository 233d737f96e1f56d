-- Laws that the crates above cite: RowTables, of tables of fonts; Inserts, of the store of a font; Tables, of the font table that tokens give.
-- For this crate alone: Searches, of a key's rank among the records; Shifts, of records that move on; Limits, how many records a room
-- holds; Steps, of a token's effect and the loop over tokens.
pub mod RowTables
mod Searches
mod Shifts
pub mod Inserts
pub mod Tables
mod Limits
mod Steps

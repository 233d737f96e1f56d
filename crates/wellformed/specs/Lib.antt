-- WellFormed: which bytes are UTF-8. Owed: what a character owes, and its length. Ascii: how ASCII is passed over.
-- Assumes nothing.
pub mod WellFormed
pub mod Owed
pub mod Ascii

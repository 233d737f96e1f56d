-- Checks: what checking a stored list answers.
-- Entries: the numbers and the text of one stored block.
-- Stored: a stored list, and what reading it answers and leaves.
pub mod Checks
pub mod Entries
pub mod Stored

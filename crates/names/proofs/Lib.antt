-- Numbers: what a word's number means. Contents: what the table holds, computed. Rows: a name's bytes in the table.
-- Chains: the loop over the names with a word's first letter.
pub mod Numbers
mod Contents
mod Rows
mod Chains

-- Names: the table of names, and a word's number.
pub mod Names

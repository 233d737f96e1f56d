-- Laws that the crates above cite: Words, of a control word by its name and its number; Places, that what a slice shows stands in it.
pub mod Places
pub mod Words

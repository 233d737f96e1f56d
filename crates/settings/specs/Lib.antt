-- Fields: the fields of a state by name and place, and what is read off them. Effects: what a word does. Rows: settings in a row.
pub mod Fields
pub mod Effects
pub mod Rows

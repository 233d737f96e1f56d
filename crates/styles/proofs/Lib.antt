-- Laws that the crates above cite: Styles, of a style and its words.
pub mod Styles

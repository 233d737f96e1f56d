-- Rows: a table of fonts, as a list and as words in a room.
-- Fonts: the table of fonts that a group's tokens give. Effects: what a token does to the current font.
pub mod Rows
pub mod Fonts
pub mod Effects

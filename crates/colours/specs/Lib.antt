-- Colours: the table of colours that a group's tokens give. Effects: a token's effect on the current colour.
pub mod Colours
pub mod Effects

-- Styles: the style of a block.
pub mod Styles

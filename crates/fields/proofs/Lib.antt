-- Laws: Folds, of folded numbers; Styles, of a style's numbers.
pub mod Folds
pub mod Styles

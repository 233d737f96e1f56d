-- Fields: the rules of a stored block's fields. Assumes nothing.
pub mod Fields

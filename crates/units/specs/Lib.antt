-- Units: the text of a run of `u` tokens.
pub mod Units

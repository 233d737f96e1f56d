-- Asked: a reading by a digit.
pub mod Asked

-- Controls: a control word by its name and its number.
pub mod Controls

-- Body: what the steps of the walk say.
pub mod Body

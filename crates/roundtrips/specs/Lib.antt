-- Trips: what the round trips speak of. Assumes nothing.
pub mod Trips

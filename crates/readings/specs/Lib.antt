-- Readings: a reading by its number.
pub mod Readings

-- Parsing: what tokens become. Parts: what the functions inside promise.
pub mod Parsing
pub mod Parts

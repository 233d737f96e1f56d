-- Exports: what the exported functions answer and promise.
pub mod Exports

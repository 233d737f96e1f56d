-- Kept: the theorems. Walks: the tokens that the walk's steps hold. Tables, Bodies: the refusals of header and body.
mod Walks
mod Tables
mod Bodies
pub mod Kept

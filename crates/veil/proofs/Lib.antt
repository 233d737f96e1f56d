-- HiddenStays: the theorem. Called: the same of two calls of `read`. Needs: why each premise is asked. Samples: letters that it is
-- cited for. Their parts, from the ground up: Cuttings, of the two ways to cut; Pieces, of a letter and its pieces; Joins, of
-- cutting at a bracket; Bare, of tokens and steps without places; Shows, of what pieces show; Walks, of the steps over masked
-- pieces; Veils, of the steps over a veil; Steps, of what steps say; Names, of where font names stand; Trims and Groups, of
-- letters with an ignored group in them.
pub mod Cuttings
pub mod Pieces
pub mod Joins
pub mod Bare
pub mod Shows
pub mod Walks
pub mod Veils
pub mod Steps
pub mod Names
pub mod Trims
pub mod Groups
pub mod HiddenStays
pub mod Called
mod Needs
mod Samples

-- Listings: what an answer's listing says, as text.
-- Extractor: what the extractor reads of a letter and prints of it.
pub mod Listings
pub mod Extractor

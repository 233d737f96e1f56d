-- Listings: the lines of a listing. Lengths: how many bytes it has.
-- Laws: Extractor, of each function here; Texts, of the text that `text_of` leaves; Pages, of the page that `extract` leaves;
-- Tight, that one result of each is permitted.
mod Listings
pub mod Lengths
mod Extractor
pub mod Texts
pub mod Pages
pub mod Tight

-- Pages: bytes put on a page. Lines: numbers and records, as text.
pub mod Pages
pub mod Lines

-- RoundTrips: the theorems. Their parts: Numbers, of numbers; Blocks, of one block; Lists, of a list without rooms; Ample, of rooms
-- that are large enough.
pub mod Numbers
pub mod Blocks
pub mod Lists
pub mod Ample
pub mod RoundTrips

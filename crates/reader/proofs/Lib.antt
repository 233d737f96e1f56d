-- Laws: Whole, of `read`; Tight, that one result is permitted.
pub mod Whole
pub mod Tight

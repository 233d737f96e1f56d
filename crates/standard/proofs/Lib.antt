-- Laws that the crates above cite: Rules, one for each branch of the code; Sizes, that a slice gives at most one token for each byte;
-- Places, that what a slice shows stands in it; Closing, when the last token of a slice is a closing bracket; Shows, what its tokens may
-- be, wherever it stands. For this crate alone: Cases, telling slices, computed.
mod Cases
pub mod Closing
pub mod Places
pub mod Rules
pub mod Shows
pub mod Sizes

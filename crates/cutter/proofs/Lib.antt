-- Source: a law for each branch of the code that trims and settles. Tokens: a room that the cutter filled, read back. ByReading: the tokens of a slice by the reading. Closing: the last token by the
-- specification. Loop: the invariant over the slices. Cases: telling
-- letters, computed. Cited above: Counts, how many tokens a source has; Splits, cutting a source that splits at the start
-- of a slice; Places, what a source's tokens show stands in it; Starts, a slice starts
-- at each token's place, and at the place of a refusal; Tight, any two permitted results coincide.
mod Source
mod ByReading
mod Closing
mod Loop
mod Cases
mod Tokens
pub mod Counts
pub mod Splits
pub mod Places
pub mod Starts
pub mod Tight

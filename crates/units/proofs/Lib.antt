-- Laws that the crates above cite: Units, of a run token by token. For this crate alone: Tests, of its tests; Bits, of its
-- shift and masks; Branches, of its code; Cases, telling runs. Assumes nothing.
pub mod Units
mod Tests
mod Bits
mod Branches
mod Cases

-- Laws: Looks, of the loops; and for the crates above, Walk, of what the walk passes over.
-- Cases: a late table, computed.
pub mod Looks
pub mod Walk
pub mod Cases

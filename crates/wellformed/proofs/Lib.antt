-- Laws that the crates above cite: WellFormed, of what is UTF-8. For this crate alone: Firsts, of first bytes and what they
-- owe; Chars, of a scalar value's encoding; Back, of bytes that encode one; Lengths, of a character judged whole; Eights, of eight
-- bytes as one number; Passing, of what is passed over; Cases, telling bytes. Assumes nothing.
pub mod WellFormed
mod Firsts
mod Chars
mod Back
mod Lengths
mod Eights
mod Passing
mod Cases

-- Tables, for the crates above: of the tables that the walk's steps give. For this crate alone: Entering, of a group, by what its bracket
-- begins; Walking, of the loop over tokens; Clearing, of zeros behind the records; Cases, telling token lists.
mod Entering
pub mod Tables
mod Walking
mod Clearing
mod Cases

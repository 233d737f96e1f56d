-- Laws. Tables, for the crates above: of the colour table that tokens give.
-- Steps: a token's effect, and the loop over tokens. Cases: telling token lists.
pub mod Tables
mod Steps
mod Cases

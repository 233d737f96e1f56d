-- Effects: laws of a word's effect.
pub mod Effects

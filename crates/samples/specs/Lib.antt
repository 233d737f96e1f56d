-- Letters: 01's sample letters, its sample listing, letters that tell its easy errors, the order of refusals and their places. Standard: letters
-- in standard reading. Fonts: telling token lists, and the fonts that each gives.
pub mod Letters
pub mod Standard
pub mod Fonts

-- Letters: the letters of specs/Letters, computed. Standard: those of specs/Standard. Fonts: the token lists of specs/Fonts, computed.
mod Letters
mod Standard
mod Fonts

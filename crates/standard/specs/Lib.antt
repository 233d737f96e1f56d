-- Standard: the tokens of one slice in standard reading. Closing: whether the last token is a closing bracket.
pub mod Closing
pub mod Standard

-- Tokenize: the tokens of one slice, rule by rule. Quick: a word of letters and then digits.
pub mod Quick
pub mod Tokenize

-- Listed: where a letter and its listing stand in the file.
pub mod Listed

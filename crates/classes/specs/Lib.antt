-- Bytes: classes and runs. Eights: eight bytes as one number. Texts: a quoted text as bytes.
pub mod Bytes
pub mod Eights
pub mod Texts

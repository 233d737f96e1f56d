-- Saying: what is said at a token, laid onto a page.
pub mod Saying

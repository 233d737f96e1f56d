-- Laws that the crates above cite: Runs, of `lead`, `body` and `any`; Marks, of eight bytes as one number and the marks of bytes.
pub mod Runs
pub mod Marks

-- Laws that the crates above cite. Table: the table as a whole.
pub mod Table

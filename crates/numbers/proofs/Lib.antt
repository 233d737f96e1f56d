-- Laws that the crates above cite: Numbers, of hexadecimal pairs and decimals.
pub mod Numbers

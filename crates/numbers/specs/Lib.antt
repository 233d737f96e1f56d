-- Numbers: hexadecimal pairs and decimals.
pub mod Numbers

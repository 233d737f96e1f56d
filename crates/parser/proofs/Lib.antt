-- Parts: the functions of the parser, one law for each way through the code. For the crates above: Few, how much a letter has.
mod Parts
pub mod Few

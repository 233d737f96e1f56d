-- Stack: the stack of states. Moves: what is done to it, one after the other. Machine: what is said, token by token.
pub mod Stack
pub mod Moves
pub mod Machine

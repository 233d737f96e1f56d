-- Pages: pieces of text become blocks and text. Laying: the same in lent rooms, piece by piece.
pub mod Pages
pub mod Laying

-- Promise: what any letter reads to, stored, is read back as the same blocks and text; read it first.
pub mod Promise

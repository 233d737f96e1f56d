-- Promise: demand 3, said whole; read it first. Veil: a letter with what is hidden put as a mark; letters that are the same except
-- inside ignored groups. Said: what a reading says, without the places that it says it by.
pub mod Veil
pub mod Said
pub mod Promise

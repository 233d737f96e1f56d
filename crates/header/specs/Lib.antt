-- Entering: what a step of the walk makes of the tables, and of two rooms that hold them.
-- Header: the tables that the walk's steps give.
pub mod Entering
pub mod Header

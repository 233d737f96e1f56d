-- Reading: the one answer and the one content of the five rooms.
pub mod Reading

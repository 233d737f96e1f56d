-- Listed: a listed answer, and when ours agrees with it.
pub mod Listed

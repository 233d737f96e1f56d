-- Refusals: a law for each branch of the code that makes a refusal; a refusal at place 0.
-- Results: what stands behind a `?`.
pub mod Refusals
pub mod Results

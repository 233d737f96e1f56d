-- Promise: what a refusal's place is, said whole.
pub mod Promise

-- What follows from the definitions, for the proofs of this crate and of its callers.
--
--   Laws   the place after an answer; a walker after k steps; after the end or a refusal
pub mod Laws

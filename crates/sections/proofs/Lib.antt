-- What the proofs of this crate, and of those above it, rest on.
--
--   Laws   packets taken from the sections of a sheet one after the other, and the string that they give
pub mod Laws

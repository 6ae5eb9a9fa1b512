-- What follows from the definitions, for the proofs of this crate and of its callers.
--
--   Laws         the header, the sum, a packet's faults, a step of the walker
--   Codes        an outcome as one number
--   Validation   the validation of a string
pub mod Laws
pub mod Codes
pub mod Validation

-- What the proofs of this crate, and of those above it, rest on.
--
--   Figures     the definitions give what 003 says
--   Searching   the search for a packet outside, and whether a list is asked for
--   Strict      laying with the profile beside laying without it, and the contract
pub mod Figures
pub mod Searching
pub mod Strict

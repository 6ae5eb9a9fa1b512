-- What the contracts of this crate cite, beside the rules.
--
--   Checked       what the tests of a sheet as found give back
--   FoundWords    what the tests of the words have in common with those of sound packets
pub mod Checked
pub mod FoundWords

-- What the contracts of this crate cite, beside the rules.
--
--   Sections   the sections B and C of a list, and the string that they give
pub mod Sections

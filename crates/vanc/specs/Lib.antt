-- What the contracts of this crate's own functions cite, beside the rules.
--
--   Whole  refusals that name no place
--   Lay    laying, part by part
--   Read   reading, part by part
pub mod Whole
pub mod Lay
pub mod Read

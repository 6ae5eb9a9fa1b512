-- What the contracts of this crate cite, beside the rules.
--
--   Fives   laying packs of 5
pub mod Fives

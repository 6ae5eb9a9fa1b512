-- What the contracts of this crate cite, beside the rules.
--
--   Long     laying long packs
--   Unlong   opening long packs
pub mod Long
pub mod Unlong

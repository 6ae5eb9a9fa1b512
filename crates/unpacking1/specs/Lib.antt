-- What the contracts of this crate cite, beside the rules.
--
--   Open   opening packs of 5
pub mod Open

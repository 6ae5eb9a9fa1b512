-- What the contracts of this crate cite.
--
--   Known   what is known of a file
pub mod Known

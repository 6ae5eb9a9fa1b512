-- What the contracts of this crate cite, beside the rules.
--
--   Moved   a walker as it starts, its answer, and the walker after its step
pub mod Moved

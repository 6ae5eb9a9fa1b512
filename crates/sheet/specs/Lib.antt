-- What the contracts of this crate cite, beside the rules.
pub mod Standing
pub mod Telling
pub mod Write

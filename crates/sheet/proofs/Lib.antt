-- What the functions of this crate rest on, over plain values.
pub mod Laws
pub mod Filling
pub mod WriteLaws

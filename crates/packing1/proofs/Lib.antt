-- What the proofs of this crate rest on, over plain values.
pub mod Laws

-- What the proofs of this crate rest on, over plain values.
pub mod LongLaws
pub mod UnlongLaws

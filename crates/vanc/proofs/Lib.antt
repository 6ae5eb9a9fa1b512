-- What the proofs of this crate rest on, over plain values.
pub mod LayLaws
pub mod ReadLaws

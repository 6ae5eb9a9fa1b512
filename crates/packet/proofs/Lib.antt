-- What the proofs of the functions rest on.
pub mod Laws
pub mod Faults
pub mod Row

-- What the proofs of the module's functions cite.
mod Written

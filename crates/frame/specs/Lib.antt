-- What the contracts of this crate cite, beside the rules.
--
--   Systems   the figures of a system
--   Lines     the lines on which a packet may stand, as bits
--   Bytes     user bytes out of an area and into it
--   Moves     the order in which the code moves bytes; proofs/ shows that it is the rules'
pub mod Systems
pub mod Lines
pub mod Bytes
pub mod Moves

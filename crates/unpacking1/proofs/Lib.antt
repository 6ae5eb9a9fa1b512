-- What the proofs of this crate rest on, over plain values.
--
--   Packs    packs of 5 in a run of bytes
--   Order    their order (13)
--   Packet   the packs of one packet (14), and its bytes moved down
--   Laws     packets opened one after the other
pub mod Packs
pub mod Order
pub mod Packet
pub mod Laws

-- What the contracts of this crate cite, beside the rules.
--
--   Run      what a pass over the words of a packet finds
--   Tests    the tests of packets back to back, and what is told of them
--   Told     what the test of one packet gives back
pub mod Run
pub mod Tests
pub mod Told
pub mod SoundWords

-- The laws of this crate.
--
--   Figures       the definitions give the elements that were written out by hand
--   TensLaws      ten-bit samples in bytes, and the loops of `tens`
--   Elements      an element is read as it was written, and what is read was written so
--   Accepting     the contract of reading
--   Ours          the way back of what we write
--   ReadingLaws   each way through the code of `reading`
--   WritingLaws   each way through the code of `writing` that is its own, and the contract of writing
pub mod Figures
pub mod TensLaws
pub mod Elements
pub mod Accepting
pub mod Ours
pub mod ReadingLaws
pub mod WritingLaws

-- Request A1, "An MXF element for each frame": the ANC element of source document 004 (ST 436-1). Each definition stands under the
-- sentence that it states: of document 02 (A1), of 004, or of a ruling in docs/DECISIONS.md.
--
--   Element    the element of a list: tables 5 to 7, section 7.2, annex B
--   Served     which packets a call serves
--   Writing    the tests of an export, and what writing gives back
--   Judging    19: the element field by field
--   Reading    the tests of an element, and what reading gives back
--   Demands    the contracts of the two calls
--   Figures    elements written out by hand
--   Writer     how the packets of a sheet are written in samples of one coding
--   Eights     the writer of 8-bit samples
--   Parts      what the functions of this crate promise each other
pub mod Element
pub mod Served
pub mod Writing
pub mod Judging
pub mod Reading
pub mod Demands
pub mod Figures
pub mod Writer
pub mod Eights
pub mod Parts

-- Request A13, "Ten bits as found": the ANC element of ten-bit samples (source document 004, 5.4.4 and 7.2). Each definition stands under the
-- sentence that it states: of document 02 (A13), of 004, or of a ruling in docs/DECISIONS.md. What it has in common with the element of 8-bit
-- samples is cited from the crate mxf.
--
--   Element    the element of a list as found
--   Writing    the tests of an export, and what writing gives back
--   Reading    the tests of an element, and what reading gives back
--   Demands    the contracts of the two calls
--   Figures    elements written out by hand
--   FoundTens  the writer of ten-bit samples
--   Parts      what the functions of this crate promise each other
pub mod Element
pub mod Writing
pub mod Reading
pub mod Demands
pub mod Figures
pub mod Parts
pub mod FoundTens

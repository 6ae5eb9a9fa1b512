-- The laws of this crate.
--
--   JudgingLaws   each way through the code of `judging`
--   Tens          what a structure of ten-bit samples shows
--   Inversion     from an element without fault back to the facts of each field
--   Structures    what the elements of either coding have in common
--   Elements      an element is read as it was written, and what is read was written so
--   Figures       the definitions give the elements that were written out by hand
--   Accepting     the contract of reading
--   Exporting     what is written comes back
--   Writers       each way through the code of writing, whatever the samples
--   WritingLaws   each way through the code of `writing` that is its own, and the contract of writing
--   ReadingLaws   each way through the code of `reading`
pub mod JudgingLaws
pub mod Tens
pub mod Inversion
pub mod Structures
pub mod Elements
pub mod Figures
pub mod Accepting
pub mod Exporting
pub mod Writers
pub mod WritingLaws
pub mod ReadingLaws

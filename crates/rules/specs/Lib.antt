-- The rules of document 01, in the order in which they build on each other. Each file has one section of that document, and
-- each definition stands under the sentence that it states.
--
--   Base       the few words on lists and tests that the rules are written with
--   Systems    "Three systems"
--   Packet     "The packet": the ten-bit words, CS, what is sound
--   Danc       "The packet": the DANC bytes, the string
--   Sheet      "The sheet"
--   Blocks     "Blocks and the order of laying"
--   Packing1   "Packing 1, packs of 5"
--   Packing2   "Packing 2, long packs"
--   Packings   what the two have in common: user bytes, room, packs laid
--   Refusals   refusals by their numbers
--   Numbers    "Numbers given back": a list or a refusal, and the reading of packet after packet
--   Laying     the tests of a sheet, and what laying gives back
--   Found      packets as found: the tests of their sheet (document 02, A13)
--   Reading    the tests of an area, and what reading gives back
--   Walker     "The walker"
--   Lister     the lister of "Worked figures"
--   Demands    the three demands, as the contracts of the calls
--   Figures    the starred lines of "Worked figures", and the table of the systems
pub mod Base
pub mod Systems
pub mod Packet
pub mod Danc
pub mod Sheet
pub mod Blocks
pub mod Packing1
pub mod Packing2
pub mod Packings
pub mod Refusals
pub mod Numbers
pub mod Laying
pub mod Found
pub mod Reading
pub mod Walker
pub mod Lister
pub mod Demands
pub mod Figures

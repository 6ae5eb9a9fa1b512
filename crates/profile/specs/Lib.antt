-- The eight-bit profile: what a reader must believe of it, beside the rules.
--
--   Profile    packets within it, 29, laying with it
--   Demands    the contract of the call
--   Figures    the profile worked out from 003's words
--   Search     what the parts of the code promise each other
pub mod Profile
pub mod Demands
pub mod Figures
pub mod Search

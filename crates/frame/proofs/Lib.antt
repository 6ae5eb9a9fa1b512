-- What follows from the definitions of this crate.
--
--   Laws    for callers: which systems have figures, and that those found are the system's
--   Vanc    the lines on which a packet may stand
--   Moves   bytes moved block by block, row by row
--   Order   the code's order is the rules' laying order
pub mod Laws
pub mod Vanc
pub mod Moves
pub mod Order

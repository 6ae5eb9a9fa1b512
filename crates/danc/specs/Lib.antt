-- What the contracts of this crate cite, beside the rules.
--
--   Header      the line that header bytes show
--   Answer      an outcome as the validation of a string tells it
--   Code        an outcome as one number
--   Validated   the answer of the validation of a string
pub mod Header
pub mod Answer
pub mod Code
pub mod Validated

-- What the contracts of this crate cite, beside the rules.
--
--   Files   the sheet in a file, and the file of a sheet
pub mod Files

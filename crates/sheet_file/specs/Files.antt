-- A sheet in a file.
-- Assumes nothing.
use Rattle.std.specs.Prelude.{ℕ, ◌*◌, ◌%◌, Bool, cond, ◌&&◌, List, [], eqb, leb, length}
use Rattle.rules.specs.Lister.{file_of, numbers_of}

-- "over 65,536 bytes, or an odd number, is 2"
unfoldable pub is_whole : List ℕ → Bool
is_whole file = leb (length file) 65536 && eqb (length file % 2) 0

-- a file of another length shows no numbers, and a sheet without numbers is 2
unfoldable pub sheet_in : List ℕ → List ℕ
sheet_in file = cond (is_whole file) (numbers_of file) []

-- the file of a sheet, where there is room for it
unfoldable pub file_in : ℕ → List ℕ → List ℕ
file_in room s = cond (leb (2 * length s) room) (file_of s) []

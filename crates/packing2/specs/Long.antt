-- Packing 2 into the blocks of an area (001, 4.1.2): when a string fits, and what stands in the area afterwards.
--
-- In order: what the calls promise; how the code goes about it: rows of two sequences, and blocks laid from a place on.
-- Assumes nothing.
use Rattle.std.specs.Prelude.{ℕ, zero, suc, ◌+◌, ◌-◌, ◌*◌, ◌/◌, ◌≤◌, ◌≡◌, Bool, true, cond, ◌&&◌, Option, Some, None}
use Rattle.std.specs.Prelude.{List, [], ◌∷◌, ◌++◌, eqb, leb, length, take, drop}
use Rattle.rules.specs.Systems.{known, system}
use Rattle.rules.specs.Blocks.{Run, runs, sizes, block_sizes, area_size, scatter}
use Rattle.rules.specs.Packing2.{fill, long_packs, string_room, long_count}

-- ---- what the calls promise

-- a lent buffer of 9,000 bytes holds len bytes of string, and FFh behind them
abbrev pub Padded : ℕ → List ℕ → Type 0
Padded len s = drop len s ≡ fill (9000 - len)

-- an area with the long packs of a string in these runs
abbrev pub laid_in : List Run → List ℕ → List ℕ → List ℕ
laid_in rs s area = scatter rs (long_packs (sizes rs) [] s) area

-- a string of len bytes fits into an area: the system is known, the area is its own, and len is within its "String capacity, long
-- packs"
unfoldable pub long_fits : ℕ → ℕ → List ℕ → Bool
long_fits sys len area = known sys && (eqb (length area) (area_size (system sys)) && leb len (string_room (block_sizes (system sys))))

-- the area afterwards: the packs of the string's first len bytes in its blocks; all as before where the string does not fit
unfoldable pub long_after : ℕ → ℕ → List ℕ → List ℕ → List ℕ
long_after sys len s area = cond (long_fits sys len area) (laid_in (runs (system sys)) (take len s) area) area

-- the packs of so many string bytes, in every system that has room for them
abbrev pub CountOf : ℕ → ℕ → Type 0
CountOf len r =
    (sys : ℕ) → known sys ≡ true → len ≤ string_room (block_sizes (system sys)) → r ≡ long_count (block_sizes (system sys)) len

-- ---- how the code goes about it

-- a frame's rows, of two sequences each
unfoldable pub rows_of : ℕ → ℕ
rows_of sys = (system sys).sequences / 2

-- and those that are found: none of a system that is not known
unfoldable pub rows_found : ℕ → Option ℕ
rows_found sys = cond (known sys) (Some (rows_of sys)) None

-- the blocks of four channels
abbrev pub four : ℕ → List ℕ
four n = n ∷ n ∷ n ∷ n ∷ []

-- the blocks of a row: 75 user bytes, but 45 in block 2 of the even sequence and in block 0 of the odd one
abbrev pub row_sizes : List ℕ
row_sizes = four 75 ++ (four 75 ++ (four 45 ++ (four 45 ++ (four 75 ++ four 75))))

-- the blocks of so many rows
abbrev pub rows_sizes : ℕ → List ℕ
rows_sizes zero = []
rows_sizes (suc k) = row_sizes ++ rows_sizes k

-- the user bytes of a block of this size, from a place of the area on
abbrev pub block_at : ℕ → ℕ → Run
block_at size to = record { start = to; size = size }

-- the same of four channels, which stand `step` bytes apart
unfoldable pub four_runs : ℕ → ℕ → ℕ → List Run
four_runs size to step = block_at size to ∷ block_at size (to + step) ∷ block_at size (to + 2 * step) ∷ block_at size (to + 3 * step) ∷ []

-- those of a row, which is 480 bytes of a channel (001, figure 2 and table 4)
unfoldable pub row_runs : ℕ → ℕ → List Run
row_runs step to =
    four_runs 75 (to + 3) step
    ++ (four_runs 75 (to + 83) step
    ++ (four_runs 45 (to + 163) step
    ++ (four_runs 45 (to + 273) step
    ++ (four_runs 75 (to + 323) step
    ++ four_runs 75 (to + 403) step))))

-- those of so many rows
abbrev pub rows_runs : ℕ → ℕ → ℕ → List Run
rows_runs step to zero = []
rows_runs step to (suc k) = row_runs step to ++ rows_runs step (to + 480) k

-- the pack of a block of n user bytes, for a string of len bytes in a padded buffer: it begins with the string's byte `at`
pub record PackAt (n : ℕ) (s : List ℕ) (len at : ℕ) (p : List ℕ) : Type 0 where
  pub is : Padded len s → p ≡ long_packs (n ∷ []) [] (drop at (take len s))

-- an area after the packs of a string were laid into these runs
pub record Packed (rs : List Run) (t area after : List ℕ) : Type 0 where
  pub is : after ≡ laid_in rs t area

-- the same for a string in a padded buffer, from its byte `at` on
pub record LaidAt (rs : List Run) (s : List ℕ) (len at : ℕ) (area after : List ℕ) : Type 0 where
  pub is : Padded len s → Packed rs (drop at (take len s)) area after

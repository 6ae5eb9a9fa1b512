-- The order in which the code moves bytes between an area and a run of user bytes: rows of two sequences, in a row the six blocks,
-- of each block the four channels. That these are the rules' runs in laying order is computed in proofs/Order.
--
-- In order: moves; four channels; a row; rows.
-- Assumes nothing.
use Rattle.std.specs.Prelude.{ℕ, zero, suc, ◌+◌, ◌*◌, List, [], ◌∷◌, ◌++◌, drop}
use Rattle.rules.specs.Blocks.{into}

-- so many bytes from a place of one list to a place of another
pub record Move : Type 0 where
  pub from : ℕ
  pub to : ℕ
  pub size : ℕ

abbrev pub move : ℕ → ℕ → ℕ → Move
move size from to = record { from = from; to = to; size = size }

-- a list after moves into it, one after the other
abbrev pub moved : List Move → List ℕ → List ℕ → List ℕ
moved [] src dst = dst
moved (m ∷ ms) src dst = moved ms src (into dst m.to m.size (drop m.from src))

-- a block of each of the four channels: `fs` and `ts` are the steps from one to the next
unfoldable pub four : ℕ → ℕ → ℕ → ℕ → ℕ → List Move
four size from fs to ts =
    move size from to
    ∷ move size (from + fs) (to + ts)
    ∷ move size (from + 2 * fs) (to + 2 * ts)
    ∷ move size (from + 3 * fs) (to + 3 * ts)
    ∷ []

-- an even sequence and the odd one after it, out of an area whose channels stand `step` bytes apart (001, figure 2 and table 4)
unfoldable pub row_out : ℕ → ℕ → ℕ → List Move
row_out step from to =
    four 75 (from + 3) step to 75
    ++ (four 75 (from + 83) step (to + 300) 75
    ++ (four 45 (from + 163) step (to + 600) 45
    ++ (four 45 (from + 273) step (to + 780) 45
    ++ (four 75 (from + 323) step (to + 960) 75
    ++ four 75 (from + 403) step (to + 1260) 75))))

-- the same into an area
unfoldable pub row_in : ℕ → ℕ → ℕ → List Move
row_in step from to =
    four 75 from 75 (to + 3) step
    ++ (four 75 (from + 300) 75 (to + 83) step
    ++ (four 45 (from + 600) 45 (to + 163) step
    ++ (four 45 (from + 780) 45 (to + 273) step
    ++ (four 75 (from + 960) 75 (to + 323) step
    ++ four 75 (from + 1260) 75 (to + 403) step))))

-- so many rows, with the steps from one to the next
module _ (row : ℕ → ℕ → List Move) (fs ts : ℕ) where
  abbrev pub rows_of : ℕ → ℕ → ℕ → List Move
  rows_of from to zero = []
  rows_of from to (suc rows) = row from to ++ rows_of (from + fs) (to + ts) rows

-- rows from the start of an area, 480 bytes each, and of a run of user bytes, 1,560 each
abbrev pub rows_out : ℕ → ℕ → ℕ → ℕ → List Move
rows_out step = rows_of (row_out step) 480 1560

abbrev pub rows_in : ℕ → ℕ → ℕ → ℕ → List Move
rows_in step = rows_of (row_in step) 1560 480

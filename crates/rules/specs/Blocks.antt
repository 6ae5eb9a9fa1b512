-- "Blocks and the order of laying": where the user bytes of an area lie (001, figure 2 and table 4), how they are read out and
-- laid in. The packings know nothing of places: to them an area is one run of user bytes.
--
-- In order: a run; the user bytes of a block; laying order; reading out; laying in; what lies outside.
-- Assumes nothing.
use Rattle.std.specs.Prelude.{ℕ, ◌+◌, ◌*◌, ◌%◌, Bool, true, cond, ◌&&◌, ◌||◌, List, [], ◌∷◌, ◌++◌, map, eqb, ltb, leb, take, drop}
use Rattle.rules.specs.Base.{count, joined}
use Rattle.rules.specs.Systems.{System}

-- bytes of an area that stand together: where they start, and how many they are
pub record Run : Type 0 where
  pub start : ℕ
  pub size : ℕ

-- "The area holds only VAUX blocks of 80 bytes. Block j (0 to 2) of sequence q of channel i (0 to 3) starts at
-- 80 × (3 × (n × i + q) + j)."
unfoldable pub block_start : ℕ → ℕ → ℕ → ℕ → ℕ
block_start n i q j = 80 * (3 * (n * i + q) + j)

-- "User bytes are 3 to 77 (75 bytes), but 3 to 47 in block 2 of an even sequence and 33 to 77 in block 0 of an odd one (45 bytes)"
unfoldable pub shift : ℕ → ℕ → ℕ
shift q j = cond (eqb j 0 && eqb (q % 2) 1) 33 3

unfoldable pub width : ℕ → ℕ → ℕ
width q j = cond (eqb j 0 && eqb (q % 2) 1 || eqb j 2 && eqb (q % 2) 0) 45 75

abbrev pub user_run : ℕ → ℕ → ℕ → ℕ → Run
user_run n q j i = record { start = block_start n i q j + shift q j; size = width q j }

-- "Laying order: by sequence, within it by block, within it by channel"
abbrev pub block_runs : ℕ → ℕ → ℕ → List Run
block_runs n q j = map (user_run n q j) (count 0 4)

abbrev pub sequence_runs : ℕ → ℕ → List Run
sequence_runs n q = joined (block_runs n q) (count 0 3)

unfoldable pub runs : System → List Run
runs y = joined (sequence_runs y.sequences) (count 0 y.sequences)

-- how many user bytes each block has, in laying order
abbrev pub sizes : List Run → List ℕ
sizes rs = map (λ (r : Run). r.size) rs

abbrev pub block_sizes : System → List ℕ
block_sizes y = sizes (runs y)

-- "The area holds only VAUX blocks of 80 bytes": four channels of n sequences of three blocks
abbrev pub area_size : System → ℕ
area_size y = 80 * (3 * (4 * y.sequences))

-- the bytes of runs, one run after the other
abbrev pub gather : List Run → List ℕ → List ℕ
gather [] a = []
gather (r ∷ rs) a = take r.size (drop r.start a) ++ gather rs a

-- an area's user bytes in laying order
abbrev pub user_bytes_in : System → List ℕ → List ℕ
user_bytes_in y area = gather (runs y) area

-- an area with the first bytes of us in a run; no other byte changes
abbrev pub into : List ℕ → ℕ → ℕ → List ℕ → List ℕ
into a start size us = take start a ++ (take size us ++ drop size (drop start a))

-- an area with these bytes in its runs, one run after the other
abbrev pub scatter : List Run → List ℕ → List ℕ → List ℕ
scatter [] us a = a
scatter (r ∷ rs) us a = scatter rs (drop r.size us) (into a r.start r.size us)

-- a place that is in no run: "Bytes 0 to 2 are the ID, 78 and 79 are not ours", and "the remainder of these two holds VS, VSC and
-- reserved space"
abbrev pub outside : ℕ → List Run → Bool
outside at [] = true
outside at (r ∷ rs) = (ltb at r.start || leb (r.start + r.size) at) && outside at rs

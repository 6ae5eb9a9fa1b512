-- Reading packing 2 (001, 4.1.2): a frame's user bytes opened, and the numbers that say what came out.
--
-- In order: what the call promises; how the code goes about it: the packs' sizes by their number in a row of two sequences; packs that
-- all go on.
-- Assumes nothing.
use Rattle.std.specs.Prelude.{ℕ, zero, suc, ◌+◌, ◌-◌, ◌%◌, ◌≤◌, ◌≡◌, ◌⊎◌, Bool, true, cond, ◌&&◌, Option, Some, None}
use Rattle.std.specs.Prelude.{List, [], ◌∷◌, eqb, ltb, length, get_or, take, drop}
use Rattle.std.proofs.lemmas.List.Edits.{sets}
use Rattle.rules.specs.Base.{sum}
use Rattle.rules.specs.Systems.{system}
use Rattle.rules.specs.Blocks.{block_sizes}
use Rattle.rules.specs.Packing2.{Opened, opened, shut, onto, open_long}
use Rattle.packing2.specs.declared.unlong.Opened.{Opened as Counts}

-- ---- what the call promises

-- a buffer's first bytes, as many as a frame has user bytes, opened. An unknown system has no block, so nothing opens
abbrev pub opened_from : ℕ → List ℕ → Opened
opened_from sys us = open_long (block_sizes (system sys)) (take (sum (block_sizes (system sys))) us)

-- how many bytes the string has, and how many of them the last pack; none of what does not open
abbrev pub opened_of : Opened → Option Counts
opened_of (opened t room) = Some (record { bytes = length t; room = room })
opened_of shut = None

-- what opened stands at the start of a buffer, and is no longer than the longest; its last pack is of either size
abbrev pub Pulled : Opened → List ℕ → Type 0
Pulled o us =
    (t : List ℕ) (room : ℕ) → o ≡ opened t room
    → (take (length t) us ≡ t) × (length t ≤ 8928) × ((room ≡ 72) ⊎ (room ≡ 42))

-- ---- how the code goes about it

-- the string bytes of a pack by its number in a row of 24: 75 user bytes, but 45 in block 2 of an even sequence and in block 0 of
-- an odd one
abbrev pub room_at : ℕ → ℕ
room_at k = cond (ltb k 8) 72 (cond (ltb k 16) 42 72)

-- the user bytes of so many packs of a row, of which the first has number k
abbrev pub sizes_from : ℕ → ℕ → List ℕ
sizes_from k zero = []
sizes_from k (suc left) = (room_at k + 3) ∷ sizes_from (k + 1) left

-- packs of these sizes all go on: each begins with E3h and has END 1
unfoldable pub go_on : List ℕ → List ℕ → Bool
go_on [] ub = true
go_on (n ∷ ns) ub = eqb (get_or ub 0 0) 0xE3 && (eqb (get_or ub 1 0 % 2) 1 && go_on ns (drop n ub))

-- the buffer with the string bytes of packs of these sizes pulled down, from `at` on to len on
unfoldable pub pulled_down : List ℕ → List ℕ → ℕ → ℕ → List ℕ
pulled_down [] us at len = us
pulled_down (n ∷ ns) us at len = pulled_down ns (sets us len (take (n - 3) (drop (at + 3) us))) (at + n) (len + (n - 3))

-- what packs of these sizes open to, from `at` on in a buffer's first `total` bytes, put onto the len string bytes at its start
abbrev pub opened_on : List ℕ → ℕ → List ℕ → ℕ → ℕ → Opened
opened_on ns total us at len = onto (take len us) (open_long ns (drop at (take total us)))

-- What the two packings have in common: the user bytes of a list, the room it needs, the packs laid. `sizes` are the user bytes
-- of the blocks, in laying order; packing k is 1 or 2.
-- Assumes nothing.
use Rattle.std.specs.Prelude.{ℕ, ◌/◌, Bool, cond, ◌||◌, List, [], map, eqb, leb, length}
use Rattle.rules.specs.Base.{sum, joined}
use Rattle.rules.specs.Packet.{Packet}
use Rattle.rules.specs.Danc.{Item, written, string, string_byte_count}
use Rattle.rules.specs.Packing1.{flat, fives, packs, packs_of, packs_in1}
use Rattle.rules.specs.Packing2.{Spare, filled, long_packs, string_room, long_count, packs_in2}

-- "packing is neither 1 nor 2" is refused
unfoldable pub is_packing : ℕ → Bool
is_packing k = eqb k 1 || eqb k 2

-- the user bytes of a list, with the free bits of its items and, in packing 2, of its packs. "All other user bytes are FFh."
unfoldable pub user_bytes : ℕ → List ℕ → List Spare → List Item → List ℕ
user_bytes k sizes fs xs = cond (eqb k 1) (filled (sum sizes) (flat (joined packs xs))) (long_packs sizes fs (string xs))

-- the user bytes that we lay
abbrev pub laid_bytes : ℕ → List ℕ → List Packet → List ℕ
laid_bytes k sizes ps = user_bytes k sizes [] (map written ps)

-- "Packs of 5" and "String capacity, long packs": what the blocks hold, and what a list needs of it
unfoldable pub capacity : ℕ → List ℕ → ℕ
capacity k sizes = cond (eqb k 1) (sum sizes / 5) (string_room sizes)

unfoldable pub needed : ℕ → List Packet → ℕ
needed k ps = cond (eqb k 1) (sum (map packs_of ps)) (string_byte_count ps)

abbrev pub fits : ℕ → List ℕ → List Packet → Bool
fits k sizes ps = leb (needed k ps) (capacity k sizes)

-- "The unit counts packs laid": the sum over the list in packing 1, the packs of its string bytes in packing 2
unfoldable pub packs_laid : ℕ → List ℕ → List Packet → ℕ
packs_laid k sizes ps = cond (eqb k 1) (sum (map packs_of ps)) (long_count sizes (string_byte_count ps))

-- the packs that stand in user bytes
unfoldable pub packs_in : ℕ → List ℕ → List ℕ → ℕ
packs_in k sizes ub = cond (eqb k 1) (packs_in1 (fives ub)) (packs_in2 sizes ub)

-- "at most 1,560 or 1,872 in packing 1, at most 120 or 144 in packing 2"
unfoldable pub most_packs : ℕ → List ℕ → ℕ
most_packs k sizes = cond (eqb k 1) (sum sizes / 5) (length sizes)

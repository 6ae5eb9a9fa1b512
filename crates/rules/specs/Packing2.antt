-- "Packing 2, long packs" (001, 4.1.2, figures 5 and 8). `sizes` are the user bytes of the blocks, in laying order.
--
-- In order: fill; the free bits of a long pack; a string in long packs; the packs opened; room and count.
-- Assumes nothing.
use Rattle.std.specs.Prelude.{ℕ, ◌+◌, ◌-◌, ◌*◌, ◌%◌, ◌<◌, Bool, true, false, cond, List, [], ◌∷◌, ◌++◌, eqb, leb, length, get_or, take}
use Rattle.std.specs.Prelude.{drop, replicate}
use Rattle.rules.specs.Base.{all_is}

abbrev pub fill : ℕ → List ℕ
fill n = replicate n 0xFF

-- n bytes: these, and fill after them
abbrev pub filled : ℕ → List ℕ → List ℕ
filled n s = s ++ fill (n - length s)

-- the bits of a long pack that a reader disregards: bits 7 to 1 of its second byte ("the others reserved"), and "a third byte ..
-- treated as reserved"
pub record Spare : Type 0 where
  pub upper : ℕ
  pub third : ℕ

abbrev pub spare : Spare
spare = record { upper = 127; third = 0xFF }

pub record Spares (fs : List Spare) : Type 0 where
  pub upper : (k : ℕ) → (get_or fs k spare).upper < 128
  pub third : (k : ℕ) → (get_or fs k spare).third < 256

-- "END is 1, but 0 in the pack that holds the string's last byte." s is the string from this pack on
abbrev pub end_bit : ℕ → List ℕ → ℕ
end_bit room s = cond (leb (length s) room) 0 1

-- "One pack of 75 or 45 bytes per block: E3h; a byte with END in bit 0, the others reserved; a third byte ..; then 72 or 42 string
-- bytes." "The unused end of that pack is FFh." "All other user bytes are FFh." The free bits are those of fs in order, as written
-- where it gives none
abbrev pub long_packs : List ℕ → List Spare → List ℕ → List ℕ
long_packs [] fs s = []
long_packs (n ∷ ns) fs [] = fill n ++ long_packs ns (drop 1 fs) []
long_packs (n ∷ ns) fs (x ∷ s) =
    (0xE3 ∷ ((get_or fs 0 spare).upper * 2 + end_bit (n - 3) (x ∷ s)) ∷ (get_or fs 0 spare).third ∷ filled (n - 3) (take (n - 3) (x ∷ s)))
    ++ long_packs ns (drop 1 fs) (drop (n - 3) (x ∷ s))

-- the string bytes of all packs, and how many of them the last pack has
pub data Opened : Type 0 where
  opened : List ℕ → ℕ → Opened
  shut : Opened

abbrev pub onto : List ℕ → Opened → Opened
onto s (opened t room) = opened (s ++ t) room
onto s shut = shut

-- a block's pack: does it begin with E3h, is END 1, is all behind it fill; its string bytes, and what the later blocks open to
abbrev pub open_pack : Bool → Bool → Bool → List ℕ → ℕ → Opened → Opened
open_pack false more rest s room o = shut
open_pack true true rest s room o = onto s o
open_pack true false true s room o = opened s room
open_pack true false false s room o = shut

-- "the packs run from the first block without a gap, only the last has END 0, and every later user byte is FFh"
abbrev pub open_long : List ℕ → List ℕ → Opened
open_long [] ub = shut
open_long (n ∷ ns) ub =
    open_pack
    (eqb (get_or ub 0 0) 0xE3)
    (eqb (get_or ub 1 0 % 2) 1)
    (all_is 0xFF (drop (n - 3) (drop 3 ub)))
    (take (n - 3) (drop 3 ub))
    (n - 3)
    (open_long ns (drop (n - 3) (drop 3 ub)))

-- the string bytes that the blocks hold: "72 or 42" each
abbrev pub string_room : List ℕ → ℕ
string_room [] = 0
string_room (n ∷ ns) = n - 3 + string_room ns

-- the packs of so many string bytes
abbrev pub long_count : List ℕ → ℕ → ℕ
long_count [] bytes = 0
long_count (n ∷ ns) bytes = cond (eqb bytes 0) 0 (1 + long_count ns (bytes - (n - 3)))

-- the packs that stand in user bytes: the blocks that begin with E3h
abbrev pub packs_in2 : List ℕ → List ℕ → ℕ
packs_in2 [] ub = 0
packs_in2 (n ∷ ns) ub = cond (eqb (get_or ub 0 0) 0xE3) 1 0 + packs_in2 ns (drop n ub)

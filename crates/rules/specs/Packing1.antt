-- "Packing 1, packs of 5" (001, 4.1.1, figures 4 and 7).
--
-- In order: a pack, and user bytes as packs; carriers; a packet's packs; how many they are.
-- Assumes nothing.
use Rattle.std.specs.Prelude.{ℕ, zero, suc, ◌+◌, ◌/◌, cond, List, [], ◌∷◌, eqb, length, get_or, drop}
use Rattle.rules.specs.Packet.{Packet}
use Rattle.rules.specs.Danc.{Item, header, behind}

-- "User bytes split into 15 or 9 packs." A block has 75 or 45 of them, so the packs of an area are its user bytes by fives
pub record Five : Type 0 where
  pub b0 : ℕ
  pub b1 : ℕ
  pub b2 : ℕ
  pub b3 : ℕ
  pub b4 : ℕ

abbrev pub five : ℕ → ℕ → ℕ → ℕ → ℕ → Five
five a b c d e = record { b0 = a; b1 = b; b2 = c; b3 = d; b4 = e }

abbrev pub flat : List Five → List ℕ
flat [] = []
flat (p ∷ ps) = p.b0 ∷ p.b1 ∷ p.b2 ∷ p.b3 ∷ p.b4 ∷ flat ps

abbrev pub fives : List ℕ → List Five
fives [] = []
fives (a ∷ []) = []
fives (a ∷ b ∷ []) = []
fives (a ∷ b ∷ c ∷ []) = []
fives (a ∷ b ∷ c ∷ d ∷ []) = []
fives (a ∷ b ∷ c ∷ d ∷ e ∷ s) = five a b c d e ∷ fives s

-- "A carrier is E2h and four further bytes; the last carrier's unused bytes are FFh."
abbrev pub carriers : ℕ → List ℕ → List Five
carriers zero s = []
carriers (suc n) s = five 0xE2 (get_or s 0 0xFF) (get_or s 1 0xFF) (get_or s 2 0xFF) (get_or s 3 0xFF) ∷ carriers n (drop 4 s)

-- "A packet takes 2 + DC/4 packs, the quotient rounded up": a starter, and the carriers of DC + 4 bytes
abbrev pub carriers_for : ℕ → ℕ
carriers_for dc = 1 + (dc + 3) / 4

abbrev pub packs_of : Packet → ℕ
packs_of p = 1 + carriers_for (length p.user)

-- "A starter pack is E1h, a reserved byte, and the three header bytes." "After a starter only carriers stand, until the packet's last
-- byte"
unfoldable pub packs : Item → List Five
packs x =
    five 0xE1 x.starter (get_or (header x) 0 0) (get_or (header x) 1 0) (get_or (header x) 2 0)
    ∷ carriers (carriers_for (length x.packet.user)) (behind x.packet)

-- the packs that stand in user bytes: all but those of fill
abbrev pub packs_in1 : List Five → ℕ
packs_in1 [] = 0
packs_in1 (p ∷ ps) = cond (eqb p.b0 0xFF) 0 1 + packs_in1 ps

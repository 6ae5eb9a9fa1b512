-- What laying packs of 5 takes and promises, over the sections B and C of a sheet.
--
-- In order: a packet's last words; a packet's packs; all packs.
-- Assumes nothing.
use Rattle.std.specs.Prelude.{ℕ, ◌-◌, ◌*◌, ◌≤◌, ◌≡◌, List, ◌∷◌, map, length, drop}
use Rattle.std.proofs.lemmas.List.Edits.{sets}
use Rattle.rules.specs.Base.{sum, joined}
use Rattle.rules.specs.Systems.{System}
use Rattle.rules.specs.Packet.{Packet}
use Rattle.rules.specs.Danc.{written}
use Rattle.rules.specs.Packing1.{Five, five, flat, carriers, carriers_for, packs_of, packs}
use Rattle.sections.specs.Sections.{SectionsOf, Sections}

-- the last n of a packet's words
abbrev pub last_words : ℕ → List ℕ → List ℕ
last_words n words = drop (length words - n) words

-- the packs of a packet of this DC whose first header bytes are h0 and h1, and whose bytes behind the header are s
unfoldable pub packet_fives : ℕ → ℕ → ℕ → List ℕ → List Five
packet_fives dc h0 h1 s = five 0xE1 0xFF h0 h1 0xFF ∷ carriers (carriers_for dc) s

-- ls and ws are the sections of some packets, and 9,360 user bytes have room for the packets' packs
pub record Roomy (ls ws : List ℕ) : Type 0 where
  pub sections : Sections ls ws
  pub room : 5 * sum (map packs_of sections.packets) ≤ 9360

-- packs of 5: the packets' packs, stored one after the other from the front on
pub record LaysFives (ls ws before after : List ℕ) : Type 0 where
  pub laid : (y : System) (ps : List Packet) → SectionsOf y ps ls ws → after ≡ sets before 0 (flat (joined packs (map written ps)))

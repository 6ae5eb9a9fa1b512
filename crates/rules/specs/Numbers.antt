-- "Numbers given back": a list or a refusal, and the reading of packet after packet.
--
-- In order: a list or a refusal; a row of packets; its packets.
-- Assumes nothing.
use Rattle.std.specs.Prelude.{ℕ, zero, suc, Bool, true, false, cond, List, [], ◌∷◌, eqb}
use Rattle.rules.specs.Packet.{Packet}

-- the packets, or a refusal: its number and its place
pub data Outcome : Type 0 where
  listed : List Packet → Outcome
  refused : ℕ → ℕ → Outcome

-- refusal n, at place 0, unless the test holds
abbrev pub unless : ℕ → Bool → Outcome → Outcome
unless n true o = o
unless n false o = refused n 0

-- a test of the list, where there is one
abbrev pub and_then : Outcome → (List Packet → Outcome) → Outcome
and_then (listed ps) f = f ps
and_then (refused n i) f = refused n i

-- a packet, and those after it
abbrev pub also : Packet → Outcome → Outcome
also p (listed ps) = listed (p ∷ ps)
also p (refused n i) = refused n i

-- How packets stand one after the other in the words of a sheet, in a string, in packs of 5. Where the row ends; and of the packet at
-- its front the number of its first fault (0 for none), the packet, and what follows it
pub record Row (A : Type 0) : Type 0 where
  pub ends : List A → Bool
  pub fault : List A → ℕ
  pub packet : List A → Packet
  pub rest : List A → List A

-- "Packets .. count from 0; the first at fault is named." At most `left` packets, the first of them number i; "5 | .. after
-- [1,275] packets, not the end"
module _ {A : Type 0} (row : Row A) where
  abbrev pub packets_in : ℕ → ℕ → List A → Outcome
  packets_in zero i s = cond (row.ends s) (listed []) (refused 5 i)
  packets_in (suc left) i s =
      let later : Outcome = packets_in left (suc i) (row.rest s) in
      cond (row.ends s) (listed []) (cond (eqb (row.fault s) 0) (also (row.packet s) later) (refused (row.fault s) i))

-- Opening packs of 5: what the contracts of this crate cite, beside the rules.
--
-- In order: packs in a run of bytes; their order (13); one packet (14); all of them.
-- Assumes nothing.
use Rattle.std.specs.Prelude.{ℕ, ◌+◌, ◌-◌, ◌*◌, ◌/◌, ◌%◌, ◌≤◌, ◌<◌, ◌≡◌, Bool, true, false, cond, ◌&&◌}
use Rattle.std.specs.Prelude.{List, [], ◌∷◌, ◌++◌, eqb, leb, length, get_or, take, drop, Option, None, Some, Result, Ok, Err}
use Rattle.rules.specs.Base.{All}
use Rattle.rules.specs.declared.Refusal.{Refusal}
use Rattle.rules.specs.declared.Refusal.TheVariants.{Packs, Length}
use Rattle.rules.specs.declared.Refused.{Refused}
use Rattle.rules.specs.Refusals.{told_of}
use Rattle.rules.specs.Systems.{System}
use Rattle.rules.specs.Packet.{Packet}
use Rattle.rules.specs.Danc.{Item, Good, packets_of, string, string_byte_count}
use Rattle.rules.specs.Sheet.{limit}
use Rattle.rules.specs.Packing1.{Five, fives}
use Rattle.rules.specs.Numbers.{Outcome, listed, unless, packets_in}
use Rattle.rules.specs.Reading.{lead, carried, front_bytes, carriers_fit, pack_row, in_order}
use Rattle.danc.specs.declared.Validated.{Validated}
use Rattle.danc.specs.Answer.{answer_of}

-- ---- packs in a run of bytes

-- the packs from a place of the bytes to another
abbrev pub packs_at : List ℕ → ℕ → ℕ → List Five
packs_at us at end = fives (take (end - at) (drop at us))

-- from a place of the bytes to another there are whole packs
pub record Within (us : List ℕ) (at end : ℕ) : Type 0 where
  pub reach : at ≤ end
  pub all : end ≤ length us
  pub whole : (end - at) % 5 ≡ 0

-- ---- their order

-- r is a place of a pack too, and the packs from there on are in order where those from `at` on are
pub record SameOrder (us : List ℕ) (at total r : ℕ) : Type 0 where
  pub reach : at ≤ r
  pub packs : Within us r total
  pub same : in_order false (packs_at us r total) ≡ in_order false (packs_at us at total)

-- ---- one packet

-- the packet in front has a starter, and passes 14
abbrev pub fits : List Five → Bool
fits [] = false
fits (p ∷ ps) = eqb p.b0 0xE1 && carriers_fit (lead ps) (front_bytes (p ∷ ps))

-- the packs end here of the packet at a place, if those between are carriers
pub record EndsAt (us : List ℕ) (at total stop : ℕ) : Type 0 where
  pub starts : get_or us at 0 ≡ 0xE1
  pub place : stop ≡ at + 10 + (get_or us (at + 8) 0 + 3) / 4 * 5
  pub within : stop ≤ total
  pub ends : lead (packs_at us stop total) ≡ 0

-- where they end; none: it does not pass 14
abbrev pub PacksEnd : List ℕ → ℕ → ℕ → Option ℕ → Type 0
PacksEnd us at total None = fits (packs_at us at total) ≡ false
PacksEnd us at total (Some stop) = EndsAt us at total stop

-- every pack is a carrier
abbrev pub all_carriers : List Five → Bool
all_carriers [] = true
all_carriers (p ∷ ps) = eqb p.b0 0xE2 && all_carriers ps

-- s stands at a place behind what stood before it, and from `stop` on all is as it was
pub record Moved (before after : List ℕ) (to : ℕ) (s : List ℕ) (stop : ℕ) : Type 0 where
  pub laid : take (to + length s) after ≡ take to before ++ s
  pub kept : drop stop after ≡ drop stop before

-- r is `stop`, or the place of the first pack from a place on that is no carrier: in front of it carriers were passed, and from it on all is
-- as it was. Where all to `stop` are carriers, what they carry was moved to a third place
pub record CarriersOpened (before after : List ℕ) (from stop to r : ℕ) : Type 0 where
  pub within : r ≤ stop
  pub all : r ≡ stop → all_carriers (packs_at before from stop) ≡ true
  pub other : r < stop → all_carriers (packs_at before from stop) ≡ false
  pub first : from < r → get_or before from 0 ≡ 0xE2
  pub here : r < stop → get_or before r 0 ≡ 0xE2 → ⊥
  pub same : (total : ℕ) → Within before from total → stop ≤ total → SameOrder before from total r
  pub kept : drop r after ≡ drop r before
  pub moved : r ≡ stop → Moved before after to (carried (packs_at before from stop)) stop

-- 13 before 14: what a packet that does not pass 14 is refused for, by whether the packs are in order
abbrev pub order_first : Bool → Refusal
order_first true = Length
order_first false = Packs

-- the bytes of the packet at a place were moved to another, and its packs end at `stop`, with those behind them in order where all are
pub record MovedTo (before after : List ℕ) (at total to stop : ℕ) : Type 0 where
  pub passes : fits (packs_at before at total) ≡ true
  pub place : stop ≡ at + 10 + (get_or (front_bytes (packs_at before at total)) 5 0 + 3) / 4 * 5
  pub within : stop ≤ total
  pub same : in_order false (packs_at before stop total) ≡ in_order false (packs_at before at total)
  pub moved : Moved before after to (front_bytes (packs_at before at total)) stop

-- it does not pass 14, and what it is refused for
pub record NotMoved (before : List ℕ) (at total : ℕ) (refusal : Refusal) : Type 0 where
  pub shut : fits (packs_at before at total) ≡ false
  pub order : refusal ≡ order_first (in_order false (packs_at before at total))

-- what is answered of the packet at a place
abbrev pub PacketOpened : List ℕ → List ℕ → ℕ → ℕ → ℕ → Result ℕ Refusal → Type 0
PacketOpened before after at total to (Ok stop) = MovedTo before after at total to stop
PacketOpened before after at total to (Err refusal) = NotMoved before at total refusal

-- ---- all of them

-- the string of the packets, with some values of the bits that a reader disregards, stands in front
pub record StringOf (y : System) (ps : List Packet) (us : List ℕ) : Type 0 where
  pub items : List Item
  pub good : All (Good y) items
  pub packets : packets_of items ≡ ps
  pub front : take (string_byte_count ps) us ≡ string items

-- what opening gives back, and what it leaves in the bytes. (Behind the string, and after a refusal, anything may stand.)
pub record Opens (y : System) (o : Outcome) (r : Result Validated Refused) (after : List ℕ) : Type 0 where
  pub answer : told_of r ≡ answer_of 0 0 o
  pub string : (ps : List Packet) → o ≡ listed ps → StringOf y ps after

-- packet by packet 5, 14, 15, 16
abbrev pub packets_from : System → List Five → Outcome
packets_from y ps = packets_in (pack_row y) limit 0 ps

-- 13, then packet by packet
abbrev pub packets_of_packs : System → List Five → Outcome
packets_of_packs y ps = unless 13 (in_order false ps) (packets_from y ps)

-- 13 is of all packs
abbrev pub wrong_order : Refused
wrong_order = record { refusal = Packs; place = 0; word = 0 }

-- 14 is of packet k
abbrev pub wrong_length : ℕ → Refused
wrong_length k = record { refusal = Length; place = k; word = 0 }

-- what is told of a packet that does not pass 14
abbrev pub placed : Refusal → ℕ → Refused
placed Packs k = wrong_order
placed refusal k = record { refusal = refusal; place = k; word = 0 }

-- 13 before a packet's own fault, by whether the packs are in order
abbrev pub order_before : Bool → Refused → Refused
order_before true fault = fault
order_before false fault = wrong_order

-- what is answered where no packet starts, behind packets that were opened: 13, or 14 of carriers without a starter, or all of it was fill
abbrev pub end_answer : List Five → Validated → Result Validated Refused
end_answer ps opened =
    cond (in_order false ps) (cond (eqb (lead ps) 0) (Ok opened) (Err (wrong_length opened.packets))) (Err wrong_order)

-- 13, which is also given where the user bytes are not whole packs, then packet by packet
unfoldable pub packets_of_fives : System → List ℕ → ℕ → Outcome
packets_of_fives y us total = unless 13 (leb total (length us) && eqb (total % 5) 0) (packets_of_packs y (fives (take total us)))

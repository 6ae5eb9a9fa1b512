-- The tests of the words of a packet, 7 to 10, in either of two ways: of sound packets, and of packets as found (document 02, A13).
--
-- In order: packets back to back; what is told of them; what both ways have in common.
-- Assumes nothing.
use Rattle.std.specs.Prelude.{ℕ, ◌+◌, ◌≤◌, ◌<◌, ◌≡◌, List, map, length, take, drop, Result, Ok, Err}
use Rattle.rules.specs.Base.{sum}
use Rattle.rules.specs.Packet.{Packet}
use Rattle.rules.specs.Danc.{string_byte_count}
use Rattle.rules.specs.Packing1.{packs_of}
use Rattle.rules.specs.Numbers.{Outcome, listed, refused, Row, packets_in}
use Rattle.rules.specs.Laying.{low, dc_in, no_words, from_packet}
use Rattle.rules.specs.Refusals.{Told, tell}
use Rattle.packet.specs.declared.Counts.{Counts}

-- ---- packets back to back

-- the number of the first fault of the packet in front, and the packet that the words show; "DC's low byte still gives the length"
module _ (fault : List ℕ → ℕ) (packet : List ℕ → Packet) where
  abbrev pub row_of : Row ℕ
  row_of = record { ends = no_words; fault = fault; packet = packet; rest = λ (s : List ℕ). drop (dc_in s + 7) s }

  abbrev pub packets_by : List ℕ → Outcome
  packets_by ws = packets_in row_of (length ws) 0 ws

-- ---- what is told of them

-- "packets, string bytes, packs in packing 1"
abbrev pub counts_of : List Packet → Counts
counts_of ps = record { packets = length ps; bytes = string_byte_count ps; packs = sum (map packs_of ps) }

-- of a list, or of a refusal, whose place counts the packets of these words and so decides the word
abbrev pub told_by : {A : Type 0} → (ℕ → List ℕ → ℕ) → (List Packet → A) → List ℕ → Outcome → Result A Told
told_by word of_list ws (listed ps) = Ok (of_list ps)
told_by word of_list ws (refused n i) = Err (tell n i (word n (from_packet i ws)))

-- ---- what both ways have in common

-- a packet without a fault has all its words; those behind it are tested in as many steps as there are words; its user words are those behind DC;
-- and no number below 7 or above 10 names a word
pub record WordLaws (fault : List ℕ → ℕ) (packet : List ℕ → Packet) (word : ℕ → List ℕ → ℕ) : Type 0 where
  pub long : (s : List ℕ) → fault s ≡ 0 → dc_in s + 7 ≤ length s
  pub enough : (f g i : ℕ) (s : List ℕ) → length s ≤ f → length s ≤ g
      → packets_in (row_of fault packet) f i s ≡ packets_in (row_of fault packet) g i s
  pub user : (s : List ℕ) → (packet s).user ≡ map low (take (dc_in s) (drop 6 s))
  pub early : (n : ℕ) (s : List ℕ) → n < 7 → word n s ≡ 0
  pub late : (n : ℕ) (s : List ℕ) → 10 < n → word n s ≡ 0

-- What the functions of this crate promise each other.
--
-- In order: the place of a fault; a structure; structures that have been passed over; the packets of structures; the words
-- of a packet; the answer of reading.
-- Assumes nothing.
use Rattle.std.specs.Prelude.{ℕ, ◌+◌, ◌-◌, ◌*◌, ◌≤◌, ◌<◌, ◌≡◌, Bool, List, ◌∷◌, map, length, take, drop, Result, Ok, Err}
use Rattle.rules.specs.Systems.{system}
use Rattle.rules.specs.Packet.{Packet, word}
use Rattle.rules.specs.Danc.{string_byte_count}
use Rattle.rules.specs.Sheet.{limit, all_words, sheet_of}
use Rattle.rules.specs.Numbers.{Outcome, listed, refused}
use Rattle.rules.specs.Reading.{buffer_of}
use Rattle.rules.specs.Refusals.{number}
use Rattle.rules.specs.declared.Refused.{Refused}
use Rattle.sheet.specs.Write.{list_in, framed}
use Rattle.mxf.specs.Element.{Coding, eight, ten}
use Rattle.mxf.specs.Judging.{two_in, four_in, others, array_for, samples_in, size_in, dc_in, front_then, array_then, structures}
use Rattle.mxf.specs.Reading.{read_of}
use Rattle.mxf.specs.declared.ElementRead.{ElementRead}
use Rattle.mxf.specs.declared.judging.Counted.{Counted}

-- ---- the place of a fault

-- 19 at the place that a test gives, or what follows
abbrev pub fault_or : {A : Type 0} → Result A ℕ → Outcome → Outcome
fault_or (Ok a) o = o
fault_or (Err place) o = refused 19 place

-- ---- a structure

-- the array of a structure is there, the samples are in it, and as many as DC says
pub record Whole (c : Coding) (s : List ℕ) : Type 0 where
  pub there : size_in s ≤ length s
  pub room : array_for c (two_in s 4) ≤ four_in s 6
  pub dc : dc_in c s + others c ≡ two_in s 4

-- none of its fields is at fault, wherever it starts: what follows decides
abbrev pub Passes : Coding → ℕ → List ℕ → Type 0
Passes c sys s = (at : ℕ) (o : Outcome) → front_then c sys (22 + at) s (array_then c (22 + at) s o) ≡ o

-- ---- structures that have been passed over

abbrev pub counted : ℕ → ℕ → ElementRead
counted k numbers = record { number = 0; place = 0; packets = k; numbers = numbers }

-- the figures of some packets, and those of a list behind them
abbrev pub add_to : ℕ → ℕ → Outcome → ElementRead
add_to k numbers (listed ps) = counted (k + length ps) (numbers + (2 * length ps + string_byte_count ps))
add_to k numbers (refused n i) = record { number = n; place = i; packets = 0; numbers = 0 }

-- the structures from a place on, with the packets in front of them: what is left of the whole
abbrev pub whole_from : Coding → ℕ → Bool → ℕ → ℕ → ℕ → ℕ → List ℕ → ElementRead
whole_from c sys fi n k at numbers s = add_to k numbers (structures c sys fi (n - k) (22 + at) (drop at s))

-- k of n structures end at a place, and with their figures those from there on give what all of them give. A structure has more bytes than
-- its packet has sheet numbers
pub record Begun (c : Coding) (sys last n : ℕ) (s : List ℕ) (k at numbers : ℕ) : Type 0 where
  pub few : k ≤ n
  pub inside : at ≤ length s
  pub short : numbers ≤ 4 + at
  pub same : last ≡ (system sys).last → (fi : Bool) → whole_from c sys fi n k at numbers s ≡ read_of sys (structures c sys fi n 22 s)

-- ---- the packets of structures

-- the packets of n structures that have been judged
abbrev pub packets_of_structures : Coding → ℕ → Bool → ℕ → List ℕ → List Packet
packets_of_structures c sys fi n s = list_in (structures c sys fi n 22 s)

-- no structure is at fault, and nothing follows the last
abbrev pub Judged : Coding → ℕ → Bool → ℕ → List ℕ → Type 0
Judged c sys fi n s = structures c sys fi n 22 s ≡ listed (packets_of_structures c sys fi n s)

-- n structures that have been judged for some coding, system and FI: of these their lines say nothing
pub record Found (n : ℕ) (s : List ℕ) : Type 0 where
  pub coding : Coding
  pub sys : ℕ
  pub fi : Bool
  pub judged : Judged coding sys fi n s

-- n structures that have been judged for some system and FI, and as many numbers to write as their packets have words: of system and FI
-- the words say nothing
pub record Shown (c : Coding) (n : ℕ) (s out : List ℕ) : Type 0 where
  pub sys : ℕ
  pub fi : Bool
  pub judged : Judged c sys fi n s
  pub room : length out ≡ length (all_words (packets_of_structures c sys fi n s))

-- n structures that have been judged, and as many numbers to write as their sheet has; each count in it is a 16-bit number
pub record Sized (c : Coding) (sys : ℕ) (fi : Bool) (n : ℕ) (s out : List ℕ) : Type 0 where
  pub known : sys ≤ 3
  pub judged : Judged c sys fi n s
  pub few : n ≤ limit
  pub short : length (all_words (packets_of_structures c sys fi n s)) < 65536
  pub room : length out ≡ length (sheet_of sys (packets_of_structures c sys fi n s))

-- ---- the words of a packet

-- how many there are beside its samples: the flag, and of 8 bits CS
abbrev pub beside : Coding → ℕ
beside eight = 4
beside ten = 3

-- the words that n samples in an array show
abbrev pub words_by : Coding → ℕ → List ℕ → List ℕ
words_by eight n s = framed (map word (take n s))
words_by ten n s = 0x000 ∷ 0x3FF ∷ 0x3FF ∷ take n (samples_in s)

-- ---- the answer of reading

-- as judging tells it: number 0, or 19 at a place
abbrev pub told_judged : Result Counted ℕ → ElementRead
told_judged (Ok j) = counted j.packets j.numbers
told_judged (Err place) = record { number = 19; place = place; packets = 0; numbers = 0 }

-- as the call tells it: number 0, or a refusal
abbrev pub told_read : Result Counted Refused → ElementRead
told_read (Ok j) = counted j.packets j.numbers
told_read (Err e) = record { number = number e.refusal; place = e.place; packets = 0; numbers = 0 }

-- what reading gives back, and the sheet buffer afterwards, where the tests have given o
pub record Answers (sys : ℕ) (sheet : List ℕ) (o : Outcome) (r : ElementRead) (after : List ℕ) : Type 0 where
  pub answer : r ≡ read_of sys o
  pub buffer : after ≡ buffer_of sys sheet o

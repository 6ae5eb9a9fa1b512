-- How the packets of a sheet are written in samples of one coding, and what the calls that write promise whatever the coding is.
--
-- In order: a structure of some samples; a writer; the sections of a sheet; what a call gives back.
-- Assumes nothing.
use Rattle.std.specs.Prelude.{ℕ, ◌+◌, ◌≤◌, ◌<◌, ◌≡◌, Bool, List, ◌∷◌, ◌++◌, map, length, take, drop, Result, Ok, Err}
use Rattle.rules.specs.Base.{All, joined}
use Rattle.rules.specs.Systems.{System, system}
use Rattle.rules.specs.Packet.{Packet, words}
use Rattle.rules.specs.Sheet.{limit, locations, all_words, sheet_of, system_in, locations_in, words_in}
use Rattle.rules.specs.Numbers.{Outcome, listed, refused, and_then}
use Rattle.rules.specs.Refusals.{number, Told, tell}
use Rattle.rules.specs.declared.Refused.{Refused}
use Rattle.mxf.specs.Element.{two, four, klv, wrapping, Coding, coding_of}
use Rattle.mxf.specs.Judging.{others, array_for}
use Rattle.mxf.specs.Writing.{export, with_room_for, written_by, written_with, laid_by}
use Rattle.mxf.specs.declared.ElementWritten.{ElementWritten}
use Rattle.mxf.specs.declared.writing.Measured.{Measured}

-- ---- a structure of some samples

-- the words that are sampled: "from DID to the last user word", or to CS of ten bits (7.2)
abbrev pub source_by : Coding → Packet → List ℕ
source_by c p = take (length p.user + others c) (drop 3 (words p))

-- table 7, of these words; `array` gives the bytes of their samples
abbrev pub structure_of : Coding → (List ℕ → List ℕ) → ℕ → ℕ → ℕ → List ℕ → List ℕ
structure_of c array line wrapping flags ws =
    two line ++ wrapping ∷ coding_of c flags ∷ two (length ws) ++ four (length (array ws)) ++ four 1 ++ array ws

-- the bytes of a structure by DC
abbrev pub size_by : Coding → ℕ → ℕ
size_by c dc = 14 + array_for c (dc + others c)

-- ---- a writer

pub record Writer : Type 1 where
  -- the coding, which words can be sampled in it, and the bytes of their samples
  pub coding : Coding
  pub fits : List ℕ → Type 0
  pub array : List ℕ → List ℕ
  pub array_long : (ws : List ℕ) → length (array ws) ≡ array_for coding (length ws)
  -- of which packets numbers are the sections B and C, and what is known of each of them
  pub Of : System → List Packet → List ℕ → List ℕ → Type 0
  pub Fine : System → Packet → Type 0
  pub each : (y : System) (ps : List Packet) (ls ws : List ℕ) → Of y ps ls ws → All (Fine y) ps
  pub section_b : (y : System) (ps : List Packet) (ls ws : List ℕ) → Of y ps ls ws → ls ≡ locations ps
  pub section_c : (y : System) (ps : List Packet) (ls ws : List ℕ) → Of y ps ls ws → ws ≡ all_words ps
  pub many : (y : System) (p : Packet) → Fine y p → length p.user < 256
  pub fitting : (y : System) (p : Packet) → Fine y p → fits (source_by coding p)
  -- the structure of a packet
  pub Item : Type 0
  pub item : Packet → Item
  pub bytes : ℕ → Item → List ℕ
  pub sized : (sys : ℕ) (p : Packet) → length (bytes sys (item p)) ≡ size_by coding (length p.user)
  pub laid_as : (sys : ℕ) (y : System) (p : Packet) → Fine y p
      → structure_of coding array p.line (wrapping sys) p.flags (source_by coding p) ≡ bytes sys (item p)
  -- the element of a list
  pub make : ℕ → List Packet → List ℕ
  pub made : (sys : ℕ) (ps : List Packet) → make sys ps ≡ klv (two (length (map item ps)) ++ joined (bytes sys) (map item ps))
  -- the sheet of a list, and its sections
  pub Sheet : ℕ → List Packet → List ℕ → Type 0
  pub few : (sys : ℕ) (ps : List Packet) (s : List ℕ) → Sheet sys ps s → length ps ≤ limit
  pub whole : (sys : ℕ) (ps : List Packet) (s : List ℕ) → Sheet sys ps s → s ≡ sheet_of sys ps
  pub sections : (sys : ℕ) (ps : List Packet) (s ls ws : List ℕ) → ls ≡ locations_in s → ws ≡ words_in s → Sheet sys ps s
      → Of (system sys) ps ls ws
  pub unique : (sys other : ℕ) (ps qs : List Packet) (s : List ℕ) → Sheet sys ps s → Sheet other qs s → (sys ≡ other) × (ps ≡ qs)
  -- the tests of a sheet
  pub tests : List ℕ → Outcome
  pub read : (sys : ℕ) (ps : List Packet) (s : List ℕ) → Sheet sys ps s → tests s ≡ listed ps
  pub laid : (s : List ℕ) (ps : List Packet) → tests s ≡ listed ps → Sheet (system_in s) ps s
  pub refuses : (s : List ℕ) (n i : ℕ) → tests s ≡ refused n i → 1 ≤ n
  -- the word that a refusal names: 18 and 17 name none
  pub word : List ℕ → Outcome → ℕ
  pub word_none : (ws : List ℕ) (ps : List Packet) → word ws (listed ps) ≡ 0
  pub word-18 : (ws : List ℕ) (i : ℕ) → word ws (refused 18 i) ≡ 0
  pub word-17 : (ws : List ℕ) (i : ℕ) → word ws (refused 17 i) ≡ 0

-- ---- the sections of a sheet

-- ls and ws are the sections B and C of a sheet with some packets, and have passed its tests
pub record SectionsBy (w : Writer) (ls ws : List ℕ) : Type 0 where
  pub system : System
  pub packets : List Packet
  pub of : w.Of system packets ls ws

-- ---- what a call gives back

-- the tests of a sheet, then those of an export; what writing gives back, and the element buffer afterwards
abbrev pub writing_by : Writer → Bool → List ℕ → ℕ → Outcome
writing_by w fi s room = with_room_for (w.make (system_in s)) room (and_then (w.tests s) (export (system_in s) fi))

abbrev pub write_by : Writer → Bool → List ℕ → List ℕ → ElementWritten
write_by w fi s buffer =
    written_with (w.word (words_in s) (writing_by w fi s (length buffer))) (written_by (w.make (system_in s)) (writing_by w fi s (length buffer)))

abbrev pub after_by : Writer → Bool → List ℕ → List ℕ → List ℕ
after_by w fi s buffer = laid_by (w.make (system_in s)) buffer (writing_by w fi s (length buffer))

-- the two equations of the contract
abbrev pub Answered : Writer → Bool → List ℕ → List ℕ → ElementWritten → List ℕ → Type 0
Answered w fi s buffer r after = (r ≡ write_by w fi s buffer) × (after ≡ after_by w fi s buffer)

-- the system of a sheet that passes its tests, or the refusal
abbrev pub tested_by : Writer → List ℕ → Outcome → Result ℕ Told
tested_by w s (listed ps) = Ok (system_in s)
tested_by w s (refused n i) = Err (tell n i (w.word (words_in s) (refused n i)))

-- as the call tells it: number 0, or a refusal
abbrev pub told_written : Result Measured Refused → ElementWritten
told_written (Ok m) = record { number = 0; place = 0; word = 0; packets = m.packets; bytes = m.bytes }
told_written (Err e) = record { number = number e.refusal; place = e.place; word = e.word; packets = 0; bytes = 0 }

-- What the functions of `laying` promise each other.
--
-- In order: packings by number; what is given back; the sheet's tests; the list.
-- Assumes nothing.
use Rattle.std.specs.Prelude.{ℕ, ◌≡◌, true, cond, List, length, eqb, Option, Some, None, Result, Ok, Err}
use Rattle.rules.specs.Systems.{known, system}
use Rattle.rules.specs.Packet.{Packet}
use Rattle.rules.specs.Sheet.{system_in, words_in}
use Rattle.rules.specs.Blocks.{runs, block_sizes, area_size, scatter}
use Rattle.rules.specs.Packings.{laid_bytes, fits}
use Rattle.rules.specs.Numbers.{Outcome, listed, refused, unless}
use Rattle.rules.specs.Refusals.{number, told_of}
use Rattle.rules.specs.Laying.{word_at, shaped, sheet_tests, laid_of, laid_with, area_of}
use Rattle.rules.specs.Demands.{SheetOf, Asked}
use Rattle.rules.specs.declared.Laid.{Laid}
use Rattle.rules.specs.declared.Refused.{Refused}
use Rattle.rules.specs.declared.Refusal.TheVariants.{Shape}
use Rattle.packet.specs.Tests.{told_by}
use Rattle.sections.specs.Sections.{SectionsOf}
use Rattle.sheet.specs.Telling.{header_of}
use Rattle.sheet.specs.declared.Header.{Header}
use Rattle.vanc.specs.declared.laying.Packing.{Packing}
use Rattle.vanc.specs.declared.laying.Packing.TheVariants.{Fives, Long}

-- ---- packings by number

abbrev pub number_of_packing : Packing → ℕ
number_of_packing Fives = 1
number_of_packing Long = 2

-- "packing is neither 1 nor 2"
abbrev pub packing_of : ℕ → Option Packing
packing_of k = cond (eqb k 1) (Some Fives) (cond (eqb k 2) (Some Long) None)

-- ---- what is given back

abbrev pub success_of : ℕ → ℕ → Laid
success_of packs bytes = record { number = 0; place = 0; word = 0; packs = packs; bytes = bytes }

-- of a list that is laid; of a refusal, with its word
abbrev pub given_of : Result Laid Refused → Laid
given_of (Ok r) = r
given_of (Err e) = laid_with e.word (laid_of 1 (system 1) (refused (number e.refusal) e.place))

-- ---- the sheet's tests

-- what they tell
abbrev pub TellsSheet : List ℕ → Result Header Refused → Type 0
TellsSheet s r = told_of r ≡ told_by word_at (header_of (system_in s)) (words_in s) (sheet_tests s)

-- and what is told of the first of them
abbrev pub TellsShape : List ℕ → Result Unit Refused → Type 0
TellsShape s (Ok u) = shaped s ≡ true
TellsShape s (Err e) = TellsSheet s (Err e) × (e.refusal ≡ Shape)

-- ---- the list

-- the frame's own area afterwards, for every list that the sections are of and that fits
pub record LaysInto (k sys : ℕ) (ls ws area after : List ℕ) : Type 0 where
  pub laid : (ps : List Packet) → known sys ≡ true → length area ≡ area_size (system sys) → SectionsOf (system sys) ps ls ws
      → fits k (block_sizes (system sys)) ps ≡ true
      → after ≡ scatter (runs (system sys)) (laid_bytes k (block_sizes (system sys)) ps) area

-- the last test, and then the list
abbrev pub last_test : ℕ → ℕ → List Packet → Outcome
last_test k sys ps = unless 12 (fits k (block_sizes (system sys)) ps) (listed ps)

-- s is the sheet of a list that passed the tests before the last, and h is its header
pub record Passed (h : Header) (s : List ℕ) : Type 0 where
  pub packets : List Packet
  pub sheet : SheetOf h.system packets s
  pub figures : h ≡ header_of h.system packets

-- what is given back, and the area afterwards, for a list that passed the tests before the last with the header h
pub record LaysList (k : ℕ) (h : Header) (s area : List ℕ) (r : Laid) (after : List ℕ) : Type 0 where
  pub laid : (sys : ℕ) (ps : List Packet) → Asked k sys ps s area → h ≡ header_of sys ps
      → (r ≡ laid_of k (system sys) (last_test k sys ps)) × (after ≡ area_of k (system sys) area (last_test k sys ps))

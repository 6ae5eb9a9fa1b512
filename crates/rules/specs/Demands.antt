-- The demands that stand over everything, as the contracts of laying and reading. A contract's first two fields say the whole
-- result by one equation each, so no second result fits; the others say what a caller may rely on without knowing the tests.
--
-- In order: the packet; the sheet; laying (demands 1 and 2); reading (demands 1 and 3).
-- Assumes nothing.
use Rattle.std.specs.Prelude.{ℕ, ◌+◌, ◌-◌, ◌≤◌, ◌<◌, ◌≡◌, ◌⊎◌, true, false, List, [], ◌∷◌, ◌++◌, length, get_or, take, drop}
use Rattle.rules.specs.Base.{All}
use Rattle.rules.specs.Systems.{System, known, system}
use Rattle.rules.specs.Packet.{Packet, words, Sound}
use Rattle.rules.specs.Danc.{Item, Good, packets_of, string_byte_count}
use Rattle.rules.specs.Sheet.{limit, sheet_of}
use Rattle.rules.specs.Blocks.{runs, block_sizes, area_size, user_bytes_in, outside}
use Rattle.rules.specs.Packing2.{Spare, Spares}
use Rattle.rules.specs.Packings.{is_packing, user_bytes, laid_bytes, fits, packs_laid, packs_in, most_packs}
use Rattle.rules.specs.Numbers.{listed, refused}
use Rattle.rules.specs.Laying.{is_word, are_words, dc_in, type_of, judged, laid_of, lay, area_after}
use Rattle.rules.specs.Reading.{read_back_of, buffer_of, read, buffer_after}
use Rattle.rules.specs.Lister.{tested_of, tested}
use Rattle.rules.specs.declared.Judged.{Judged}
use Rattle.rules.specs.declared.Laid.{Laid}
use Rattle.rules.specs.declared.ReadBack.{ReadBack}
use Rattle.rules.specs.declared.Tested.{Tested}

-- ---- the packet

-- the contract of the test of a packet: words that begin with those of a sound packet pass, and say its type; no others pass. "8": the word that is
-- named stands between the flag and CS and is wrong, and none between the flag and it is
pub record Judges (s : List ℕ) (r : Judged) : Type 0 where
  pub answer : r ≡ judged s
  pub passes : (y : System) (p : Packet) (rest : List ℕ) → Sound y p → s ≡ words p ++ rest
      → r ≡ record { number = 0; word = 0; kind = type_of p.did }
  pub only : r.number ≡ 0 → (y : System) → (p : Packet) × (rest : List ℕ) × Sound y p × (s ≡ words p ++ rest)
  pub wrong : r.number ≡ 8
      → (3 ≤ r.word) × (r.word < dc_in s + 6) × (is_word (get_or s r.word 0) ≡ false) × (are_words (take (r.word - 3) (drop 3 s)) ≡ true)

-- ---- the sheet

-- s is the sheet of a sound list within the packet limit
pub record SheetOf (sys : ℕ) (ps : List Packet) (s : List ℕ) : Type 0 where
  pub known : known sys ≡ true
  pub few : length ps ≤ limit
  pub sound : All (Sound (system sys)) ps
  pub whole : s ≡ sheet_of sys ps

-- the contract of the lister's tests: such a sheet passes and gives the list's figures, and no other sheet passes
pub record Tests (s : List ℕ) (r : Tested) : Type 0 where
  pub answer : r ≡ tested s
  pub passes : (sys : ℕ) (ps : List Packet) → SheetOf sys ps s → r ≡ tested_of sys (listed ps)
  pub only : r.number ≡ 0 → (sys : ℕ) × (ps : List Packet) × SheetOf sys ps s

-- ---- laying

-- "Within the packet limit, and with the frame's own area, a sound list": its sheet is laid in packing k
pub record Asked (k sys : ℕ) (ps : List Packet) (s area : List ℕ) : Type 0 where
  pub packing : is_packing k ≡ true
  pub sheet : SheetOf sys ps s
  pub own : length area ≡ area_size (system sys)

-- "The bytes laid are those of SMPTE 375M ..; no other byte of a block is touched." "The unit counts packs laid": as many as stand in
-- the bytes laid, as the sum over the list says, under the frame's ceiling
pub record Success (k sys : ℕ) (ps : List Packet) (area : List ℕ) (r : Laid) (after : List ℕ) : Type 0 where
  pub number : r.number ≡ 0
  pub place : r.place ≡ 0
  pub users : user_bytes_in (system sys) after ≡ laid_bytes k (block_sizes (system sys)) ps
  pub others : (i : ℕ) → outside i (runs (system sys)) ≡ true → get_or after i 0 ≡ get_or area i 0
  pub length : length after ≡ length area
  pub bytes : r.bytes ≡ string_byte_count ps
  pub packs : r.packs ≡ packs_laid k (block_sizes (system sys)) ps
  pub counted : packs_in k (block_sizes (system sys)) (user_bytes_in (system sys) after) ≡ r.packs
  pub ceiling : r.packs ≤ most_packs k (block_sizes (system sys))

-- "a sound list is refused for room exactly when it exceeds the frame's capacity in the packing asked for"; and number 0 is given
-- for the sheet of a sound list alone
pub record Demand2 (k : ℕ) (s area : List ℕ) (r : Laid) (after : List ℕ) : Type 0 where
  pub laid : (sys : ℕ) (ps : List Packet) → Asked k sys ps s area → fits k (block_sizes (system sys)) ps ≡ true
      → Success k sys ps area r after
  pub full : (sys : ℕ) (ps : List Packet) → Asked k sys ps s area → fits k (block_sizes (system sys)) ps ≡ false
      → r ≡ laid_of k (system sys) (refused 12 0)
  pub only : r.number ≡ 0
      → (sys : ℕ) × (ps : List Packet) × Asked k sys ps s area × (fits k (block_sizes (system sys)) ps ≡ true)

-- "the buffer meant for the result is unchanged", "On refusal the later figures are 0"
pub record Unlaid (r : Laid) (area after : List ℕ) : Type 0 where
  pub kept : after ≡ area
  pub packs : r.packs ≡ 0
  pub bytes : r.bytes ≡ 0

-- the contract of laying
pub record Lays (k : ℕ) (s area : List ℕ) (r : Laid) (after : List ℕ) : Type 0 where
  pub answer : r ≡ lay k s area
  pub buffer : after ≡ area_after k s area
  pub demand1 : (r.number ≡ 0 → ⊥) → Unlaid r area after
  pub demand2 : Demand2 k s area r after

-- ---- reading

-- "some list of sound packets within the limit, laid by the rules in one of the two packings, gives that area's user bytes, reserved
-- bits and invalid line bits aside": for some values of these bits
pub record Gives (y : System) (sizes : List ℕ) (k : ℕ) (ps : List Packet) (ub : List ℕ) : Type 0 where
  pub packing : is_packing k ≡ true
  pub items : List Item
  pub spares : List Spare
  pub packets : packets_of items ≡ ps
  pub good : All (Good y) items
  pub fine : Spares spares
  pub few : length ps ≤ limit
  pub room : fits k sizes ps ≡ true
  pub bytes : ub ≡ user_bytes k sizes spares items

-- "Given a known system, an area of its size and room for the result": the area comes from the list ps in packing k
abbrev pub Comes : ℕ → List ℕ → ℕ → List Packet → Type 0
Comes sys area k ps = Gives (system sys) (block_sizes (system sys)) k ps (user_bytes_in (system sys) area)

-- "packing found (0 for an empty list)"
abbrev pub named : ℕ → List Packet → ℕ
named k [] = 0
named k (p ∷ ps) = k

-- "the reader accepts an area exactly when .. It returns that list. No area comes from two lists, nor from two packings unless the list
-- is empty."
pub record Demand3 (sys : ℕ) (area sheet : List ℕ) (r : ReadBack) (after : List ℕ) : Type 0 where
  pub accepts : (k : ℕ) (ps : List Packet) → Comes sys area k ps → length (sheet_of sys ps) ≤ length sheet
      → (r ≡ read_back_of sys (named k ps) (listed ps)) × (after ≡ buffer_of sys sheet (listed ps))
  pub only : r.number ≡ 0 → (k : ℕ) × (ps : List Packet) × Comes sys area k ps × (length (sheet_of sys ps) ≤ length sheet)
  pub one : (j k : ℕ) (ps qs : List Packet) → Comes sys area j ps → Comes sys area k qs → (ps ≡ qs) × ((ps ≡ []) ⊎ (j ≡ k))

pub record Unread (r : ReadBack) (sheet after : List ℕ) : Type 0 where
  pub kept : after ≡ sheet
  pub packing : r.packing ≡ 0
  pub packets : r.packets ≡ 0
  pub numbers : r.numbers ≡ 0

-- the contract of reading
pub record Reads (sys : ℕ) (area sheet : List ℕ) (r : ReadBack) (after : List ℕ) : Type 0 where
  pub answer : r ≡ read sys area sheet
  pub buffer : after ≡ buffer_after sys area sheet
  pub demand1 : (r.number ≡ 0 → ⊥) → Unread r sheet after
  pub demand3 : known sys ≡ true → length area ≡ area_size (system sys) → Demand3 sys area sheet r after

-- "Worked figures": the starred lines as one table, some of A2's and A3's, and the table of "Three systems". A row has what the definitions
-- give, and what document 01 states, or A2, or 003. That the two columns agree is proved in proofs/Figures.
-- Assumes nothing.
use Rattle.std.specs.Prelude.{ℕ, zero, suc, ◌+◌, ◌*◌, ◌/◌, Bool, true, false, cond, ◌&&◌, List, [], ◌∷◌, ◌++◌, eqb, set, take, drop}
use Rattle.rules.specs.Systems.{System, system, allowed}
use Rattle.rules.specs.Packet.{Packet, sound, words}
use Rattle.rules.specs.Danc.{written, header, danc}
use Rattle.rules.specs.Blocks.{block_sizes, area_size}
use Rattle.rules.specs.Packing1.{flat, packs, packs_of}
use Rattle.rules.specs.Packings.{laid_bytes, capacity, most_packs}
use Rattle.rules.specs.Numbers.{listed}
use Rattle.rules.specs.Laying.{judged}
use Rattle.rules.specs.Lister.{tested_of, tested, first_line, row}

pub record Line : Type 0 where
  pub given : List ℕ
  pub stated : List ℕ

abbrev pub line : List ℕ → List ℕ → Line
line given stated = record { given = given; stated = stated }

abbrev pub same : List ℕ → List ℕ → Bool
same [] [] = true
same [] (y ∷ ys) = false
same (x ∷ xs) [] = false
same (x ∷ xs) (y ∷ ys) = eqb x y && same xs ys

abbrev pub agree : List Line → Bool
agree [] = true
agree (l ∷ ls) = same l.given l.stated && agree ls

-- "DID 45h, SDID 01h", these user bytes, line and flags
abbrev pub packet : List ℕ → ℕ → ℕ → Packet
packet user at flags = record { did = 0x45; sdid = 0x01; user = user; line = at; flags = flags; mark = sound }

abbrev pub p : Packet
p = packet (0x10 ∷ 0x80 ∷ []) 9 0

-- the starred lines, in document 01's order
unfoldable pub starred : List Line
starred =
    line (words p) (0x000 ∷ 0x3FF ∷ 0x3FF ∷ 0x145 ∷ 0x101 ∷ 0x102 ∷ 0x110 ∷ 0x180 ∷ 0x1D8 ∷ [])
    ∷ line (danc (written p)) (0x89 ∷ 0x60 ∷ 0xFF ∷ 0x45 ∷ 0x01 ∷ 0x02 ∷ 0x10 ∷ 0x80 ∷ 0xD8 ∷ [])
    ∷ line (flat (packs (written p)))
    (0xE1 ∷ 0xFF ∷ 0x89 ∷ 0x60 ∷ 0xFF ∷ 0xE2 ∷ 0x45 ∷ 0x01 ∷ 0x02 ∷ 0x10 ∷ 0xE2 ∷ 0x80 ∷ 0xD8 ∷ 0xFF ∷ 0xFF ∷ [])
    ∷ line (take 6 (laid_bytes 2 (block_sizes (system 1)) (p ∷ []))) (0xE3 ∷ 0xFE ∷ 0xFF ∷ 0x89 ∷ 0x60 ∷ 0xFF ∷ [])
    ∷ line (drop 3 (words (packet [] 9 0))) (0x145 ∷ 0x101 ∷ 0x200 ∷ 0x246 ∷ [])
    ∷ line (packs_of (packet [] 9 0) ∷ []) (2 ∷ [])
    ∷ line (drop 3 (words (packet (0xB8 ∷ []) 9 0))) (0x145 ∷ 0x101 ∷ 0x101 ∷ 0x2B8 ∷ 0x1FF ∷ [])
    ∷ line (drop 7 (danc (written (packet (0xB8 ∷ []) 9 0)))) (0xFF ∷ [])
    ∷ line (header (written (packet [] 561 3))) (0xB1 ∷ 0xF4 ∷ 0xFF ∷ [])
    ∷ line (header (written (packet [] 1125 0))) (0xE5 ∷ 0x68 ∷ 0xFF ∷ [])
    ∷ line (header (written (packet [] 0 0))) (0x00 ∷ 0x60 ∷ 0xFF ∷ [])
    ∷ line (header (written (packet [] 127 0))) (0xFF ∷ 0x60 ∷ 0xFF ∷ [])
    ∷ []

-- and what the lister prints of p's sheet: its first line, and its row
unfoldable pub lister : List Line
lister =
    line (first_line (tested_of 1 (listed (p ∷ [])))) (1 ∷ 1 ∷ 9 ∷ 3 ∷ [])
    ∷ line (row 0 p) (0 ∷ 9 ∷ 0 ∷ 0x45 ∷ 0x01 ∷ 2 ∷ [])
    ∷ []

-- A2: what the test of a packet says, number, word and type; and what the lister's tests say of a sheet, number, place and word
abbrev pub judged_line : List ℕ → List ℕ
judged_line s = (judged s).number ∷ (judged s).word ∷ (judged s).kind ∷ []

abbrev pub refused_line : List ℕ → List ℕ
refused_line s = (tested s).number ∷ (tested s).place ∷ (tested s).word ∷ []

-- of p; of a packet with DID 80h; of p with a word that is wrong, or cut off; of a sheet of p and p with a wrong CS
unfoldable pub faults : List Line
faults =
    line (judged_line (words p)) (0 ∷ 0 ∷ 2 ∷ [])
    ∷ line (judged_line (words (record { did = 0x80; sdid = 0x01; user = []; line = 9; flags = 0; mark = sound }))) (0 ∷ 0 ∷ 1 ∷ [])
    ∷ line (judged_line (set (words p) 1 0x3FE)) (7 ∷ 1 ∷ 0 ∷ [])
    ∷ line (judged_line []) (7 ∷ 0 ∷ 0 ∷ [])
    ∷ line (judged_line (take 5 (words p))) (7 ∷ 5 ∷ 0 ∷ [])
    ∷ line (judged_line (take 5 (set (words p) 2 0x000))) (7 ∷ 2 ∷ 0 ∷ [])
    ∷ line (judged_line (set (words p) 3 0x045)) (8 ∷ 3 ∷ 0 ∷ [])
    ∷ line (judged_line (set (words p) 7 0x3FF)) (8 ∷ 7 ∷ 0 ∷ [])
    ∷ line (judged_line (take 8 (words p))) (9 ∷ 8 ∷ 0 ∷ [])
    ∷ line (judged_line (set (words p) 8 0x2D8)) (10 ∷ 8 ∷ 0 ∷ [])
    ∷ line (refused_line (1 ∷ 1 ∷ 2 ∷ 9 ∷ 0 ∷ 9 ∷ 0 ∷ 18 ∷ words p ++ set (words p) 8 0x2D8)) (10 ∷ 1 ∷ 8 ∷ [])
    ∷ []

-- A3: what the lister's tests say of a sheet with p on these lines, number, place and word: "Line 127 becomes refused; 561 and no line stay"
abbrev pub on_lines : ℕ → ℕ → ℕ → List ℕ
on_lines first second flags = refused_line (1 ∷ 1 ∷ 2 ∷ first ∷ 0 ∷ second ∷ flags ∷ 18 ∷ words p ++ words p)

unfoldable pub picture_lines : List Line
picture_lines =
    line (on_lines 561 0 0) (0 ∷ 0 ∷ 0 ∷ [])
    ∷ line (on_lines 561 127 0) (20 ∷ 1 ∷ 0 ∷ [])
    ∷ line (on_lines 127 1126 0) (6 ∷ 1 ∷ 0 ∷ [])
    ∷ line (on_lines 127 9 4) (6 ∷ 1 ∷ 0 ∷ [])
    ∷ []

-- how many of the lines 1 to n are allowed, and the words that they have in a second, in thousands and rounded: luma and colour difference
-- samples of a line, frames in 1,001 seconds
abbrev pub allowed_to : System → ℕ → ℕ
allowed_to y zero = 0
allowed_to y (suc n) = cond (allowed y (suc n)) 1 0 + allowed_to y n

abbrev pub vanc_of : System → ℕ → ℕ → List ℕ
vanc_of y samples frames = let n : ℕ = allowed_to y y.last in n ∷ (n * 2 * samples * frames / 1001 + 500) / 1000 ∷ []

-- 003, table 3a, "VANC interval word rate": "4.718" of 60I, "3.936" of 50I, "4.297" of 60P (MWord/sec)
unfoldable pub word_rates : List Line
word_rates =
    line (vanc_of (system 1) 1920 30000) (41 ∷ 4718 ∷ [])
    ∷ line (vanc_of (system 2) 1920 25025) (41 ∷ 3936 ∷ [])
    ∷ line (vanc_of (system 3) 1280 60000) (28 ∷ 4297 ∷ [])
    ∷ []

-- a row of "Three systems", computed from the blocks: sequences, last line, area bytes, packs of 5, string capacity; and the blocks,
-- which are the most long packs
abbrev pub figures_of : System → List ℕ
figures_of y =
    y.sequences ∷ y.last ∷ area_size y ∷ capacity 1 (block_sizes y) ∷ capacity 2 (block_sizes y) ∷ most_packs 2 (block_sizes y) ∷ []

unfoldable pub systems : List Line
systems =
    line (figures_of (system 1)) (10 ∷ 1125 ∷ 9600 ∷ 1560 ∷ 7440 ∷ 120 ∷ [])
    ∷ line (figures_of (system 2)) (12 ∷ 1125 ∷ 11520 ∷ 1872 ∷ 8928 ∷ 144 ∷ [])
    ∷ line (figures_of (system 3)) (10 ∷ 750 ∷ 9600 ∷ 1560 ∷ 7440 ∷ 120 ∷ [])
    ∷ []

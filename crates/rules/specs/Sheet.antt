-- "The sheet": "The house format for one frame's packets: 16-bit numbers .. in three sections, each after its count."
--
-- In order: the sheet of a list; the sections of a sheet.
-- Assumes nothing.
use Rattle.std.specs.Prelude.{ℕ, ◌+◌, ◌*◌, List, [], ◌∷◌, ◌++◌, length, get_or, take, drop}
use Rattle.rules.specs.Base.{joined}
use Rattle.rules.specs.Packet.{Packet, words}

-- "P is at most 512." Document 02, A6: "Raise the limit to 1,275, the most that 8,928 bytes can hold. .. Demands 2 and 3 read 1,275 for 512,
-- and so does 5's place on reading." A quotation that has the limit in it has this number, in brackets
unfoldable pub limit : ℕ
limit = 1275

-- "P pairs: line .. and flags"
abbrev pub locations : List Packet → List ℕ
locations [] = []
locations (p ∷ ps) = p.line ∷ p.flags ∷ locations ps

-- "W words: packets back to back"
abbrev pub all_words : List Packet → List ℕ
all_words ps = joined words ps

-- "A: the count 1, then the system." "B: the count P of locations, then P pairs". "C: the count W of words, then W words"
unfoldable pub sheet_of : ℕ → List Packet → List ℕ
sheet_of sys ps = (1 ∷ sys ∷ length ps ∷ locations ps) ++ length (all_words ps) ∷ all_words ps

-- the sections of a sheet: the system, P, the locations, W, the words. "A sheet has 4 + 2P + W numbers."
abbrev pub system_in : List ℕ → ℕ
system_in s = get_or s 1 0

abbrev pub count_in : List ℕ → ℕ
count_in s = get_or s 2 0

abbrev pub locations_in : List ℕ → List ℕ
locations_in s = take (2 * count_in s) (drop 3 s)

abbrev pub word_count_in : List ℕ → ℕ
word_count_in s = get_or s (3 + 2 * count_in s) 0

abbrev pub words_in : List ℕ → List ℕ
words_in s = drop (4 + 2 * count_in s) s

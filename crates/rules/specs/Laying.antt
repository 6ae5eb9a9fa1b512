-- "Numbers given back": the tests of a sheet, and what laying gives back.
--
-- In order: the words of a packet (7 to 10); the word that is named; the sheet (2, 5, 6, 20, 11); the lister's tests; laying's (1, 4, 12);
-- its answer.
-- Assumes nothing.
use Rattle.std.specs.Prelude.{ℕ, zero, suc, ◌+◌, ◌*◌, ◌%◌, Bool, true, false, cond, not, ◌&&◌, ◌||◌, List, [], ◌∷◌, map, eqb, ltb, leb}
use Rattle.std.specs.Prelude.{length, get_or, take, drop}
use Rattle.rules.specs.Systems.{System, known, system, stands, allowed}
use Rattle.rules.specs.Packet.{Packet, sound, word, check}
use Rattle.rules.specs.Danc.{string_byte_count}
use Rattle.rules.specs.Sheet.{limit, system_in, count_in, locations_in, word_count_in, words_in}
use Rattle.rules.specs.Blocks.{runs, block_sizes, area_size, scatter}
use Rattle.rules.specs.Packings.{is_packing, laid_bytes, fits, packs_laid}
use Rattle.rules.specs.Numbers.{Outcome, listed, refused, unless, and_then, Row, packets_in}
use Rattle.rules.specs.declared.Judged.{Judged}
use Rattle.rules.specs.declared.Laid.{Laid}

-- ---- the words of a packet

-- "a word .. is .. its low byte with right bits above"
unfoldable pub is_word : ℕ → Bool
is_word w = eqb w (word (w % 256))

abbrev pub are_words : List ℕ → Bool
are_words [] = true
are_words (w ∷ ws) = is_word w && are_words ws

-- "000h 3FFh 3FFh"
abbrev pub flagged : List ℕ → Bool
flagged s = eqb (get_or s 0 0) 0x000 && (eqb (get_or s 1 0) 0x3FF && eqb (get_or s 2 0) 0x3FF)

abbrev pub low : ℕ → ℕ
low w = w % 256

abbrev pub dc_in : List ℕ → ℕ
dc_in s = low (get_or s 5 0)

-- "Then packet by packet: 7; 8 on DID, SDID and DC; 9; 8 on the user words", then what is said of CS. `right` is what 8 asks of words
abbrev pub fault_by : (List ℕ → Bool) → ℕ → List ℕ → ℕ
fault_by right last s =
    cond (ltb (length s) 7 || not (flagged s)) 7
    (cond (not (right (take 3 (drop 3 s)))) 8
    (cond (ltb (length s) (dc_in s + 7)) 9
    (cond (not (right (take (dc_in s) (drop 6 s)))) 8
    last)))

-- "10"
unfoldable pub words_fault : List ℕ → ℕ
words_fault s = fault_by are_words (cond (not (eqb (get_or s (dc_in s + 6) 0) (check (take (dc_in s + 3) (drop 3 s))))) 10 0) s

-- the packet at the front of words; its location is given elsewhere
abbrev pub packet_of_words : List ℕ → Packet
packet_of_words s =
    record { did = low (get_or s 3 0); sdid = low (get_or s 4 0); user = map low (take (dc_in s) (drop 6 s)); line = 0; flags = 0; mark = sound }

abbrev pub no_words : List ℕ → Bool
no_words [] = true
no_words (w ∷ ws) = false

unfoldable pub word_row : Row ℕ
word_row = record { ends = no_words; fault = words_fault; packet = packet_of_words; rest = λ (s : List ℕ). drop (dc_in s + 7) s }

-- "W words: packets back to back". There are never more packets than words
unfoldable pub packets_of_words : List ℕ → Outcome
packets_of_words ws = packets_in word_row (length ws) 0 ws

-- ---- the word that is named (document 02, A2)

-- how many words stand in front of the first that is not "its low byte with right bits above"
abbrev pub words_before : List ℕ → ℕ
words_before [] = 0
words_before (w ∷ ws) = cond (is_word w) (suc (words_before ws)) 0

-- how many words agree with these, from the first on
abbrev pub agreeing : List ℕ → List ℕ → ℕ
agreeing [] s = 0
agreeing (f ∷ fs) [] = 0
agreeing (f ∷ fs) (w ∷ s) = cond (eqb w f) (suc (agreeing fs s)) 0

-- "the first wrong flag word, else the first missing word": the word behind those that agree with 000h 3FFh 3FFh is wrong or missing; where all
-- three do, it is the one behind the last that is there
unfoldable pub flag_word : List ℕ → ℕ
flag_word s = let n : ℕ = agreeing (0x000 ∷ 0x3FF ∷ 0x3FF ∷ []) s in cond (ltb n 3) n (length s)

-- "which of its words, from 0, is the first at fault": the number that a packet is refused with decides it. "For 7 it is the first wrong flag word,
-- else the first missing word; for 9 the first missing"; for 8 the first, from DID on, that is no word; for 10 CS; "for refusals other than 7 to 10
-- it is 0"
unfoldable pub word_at : ℕ → List ℕ → ℕ
word_at n s =
    cond (eqb n 7) (flag_word s)
    (cond (eqb n 8) (3 + words_before (drop 3 s))
    (cond (eqb n 9) (length s)
    (cond (eqb n 10) (dc_in s + 6)
    0)))

-- "Type 1 (DID 80h or above) or Type 2"
abbrev pub type_of : ℕ → ℕ
type_of did = cond (leb 0x80 did) 1 2

-- "The test of a packet shall also say which of its words .. is the first at fault, and on success whether the packet is Type 1 .. or Type 2."
unfoldable pub judged : List ℕ → Judged
judged s =
    record {
      number = words_fault s;
      word = word_at (words_fault s) s;
      kind = cond (eqb (words_fault s) 0) (type_of (low (get_or s 3 0))) 0;
    }

-- the words from packet i on
abbrev pub from_packet : ℕ → List ℕ → List ℕ
from_packet zero ws = ws
from_packet (suc i) ws = from_packet i (drop (dc_in ws + 7) ws)

-- the word of a refusal, where its place counts the packets of these words
abbrev pub word_in : List ℕ → Outcome → ℕ
word_in ws (listed ps) = 0
word_in ws (refused n i) = word_at n (from_packet i ws)

-- ---- the sheet

-- "2 | section A's count is not 1, the sheet ends early, or numbers follow section C"
unfoldable pub shaped : List ℕ → Bool
shaped s =
    eqb (get_or s 0 0) 1 && (leb (4 + 2 * count_in s) (length s) && eqb (length s) (4 + 2 * count_in s + word_count_in s))

-- refusal n, with the location, unless the test holds of every line and its flags; the first at fault is named
abbrev pub unless_at : ℕ → (ℕ → ℕ → Bool) → ℕ → List ℕ → Outcome → Outcome
unless_at n test i [] o = o
unless_at n test i (line ∷ []) o = o
unless_at n test i (line ∷ flags ∷ ls) o = cond (test line flags) (unless_at n test (suc i) ls o) (refused n i)

-- "6 | line or flags out of range | location"
abbrev pub location_stands : System → ℕ → ℕ → Bool
location_stands y line flags = stands y line && ltb flags 4

-- "20, with its location .., a line in the frame that isn't allowed" (document 02, A3)
abbrev pub location_allowed : System → ℕ → ℕ → Bool
location_allowed y line flags = allowed y line

-- "Packet k belongs to location k."
abbrev pub located : List ℕ → List Packet → List Packet
located [] ps = []
located (line ∷ []) ps = []
located (line ∷ flags ∷ ls) [] = []
located (line ∷ flags ∷ ls) (p ∷ ps) =
    record { did = p.did; sdid = p.sdid; user = p.user; line = line; flags = flags; mark = p.mark } ∷ located ls ps

-- 5, 6, "after 6 on all locations" 20, then the packets of the words, then "11 | packets and locations differ in number"
abbrev pub list_tests_by : (List ℕ → Outcome) → System → List ℕ → Outcome
list_tests_by packets y s =
    unless 5 (leb (count_in s) limit)
    (unless_at 6 (location_stands y) 0 (locations_in s)
    (unless_at 20 (location_allowed y) 0 (locations_in s)
    (and_then (packets (words_in s))
    (λ (ps : List Packet). unless 11 (eqb (length ps) (count_in s)) (listed (located (locations_in s) ps))))))

-- packet by packet 7 to 10
unfoldable pub list_tests : System → List ℕ → Outcome
list_tests y s = list_tests_by packets_of_words y s

-- "the tests 2, 3, 5 to 11", 20 among them
unfoldable pub sheet_tests : List ℕ → Outcome
sheet_tests s =
    unless 2 (shaped s)
    (unless 3 (known (system_in s))
    (list_tests (system (system_in s)) s))

-- ---- laying

-- "Laying tests 1 to 6 in table order. Then packet by packet: .. Then 11, 12." 20 stands behind 6
unfoldable pub laying : ℕ → List ℕ → List ℕ → Outcome
laying k s area =
    unless 1 (is_packing k)
    (unless 2 (shaped s)
    (unless 3 (known (system_in s))
    (unless 4 (eqb (length area) (area_size (system (system_in s))))
    (and_then (list_tests (system (system_in s)) s)
    (λ (ps : List Packet). unless 12 (fits k (block_sizes (system (system_in s))) ps) (listed ps))))))

-- "Laying returns number, place, packs laid and string bytes." "On refusal the later figures are 0 and the area .. is unchanged."
abbrev pub laid_of : ℕ → System → Outcome → Laid
laid_of k y (listed ps) = record { number = 0; place = 0; word = 0; packs = packs_laid k (block_sizes y) ps; bytes = string_byte_count ps }
laid_of k y (refused n i) = record { number = n; place = i; word = 0; packs = 0; bytes = 0 }

-- "Laying and the lister pass the word on after the place"
abbrev pub laid_with : ℕ → Laid → Laid
laid_with w r = record { number = r.number; place = r.place; word = w; packs = r.packs; bytes = r.bytes }

-- the same of an outcome, where a refusal's place counts the packets of these words
abbrev pub laid_in : ℕ → System → List ℕ → Outcome → Laid
laid_in k y ws o = laid_with (word_in ws o) (laid_of k y o)

abbrev pub area_of : ℕ → System → List ℕ → Outcome → List ℕ
area_of k y area (listed ps) = scatter (runs y) (laid_bytes k (block_sizes y) ps) area
area_of k y area (refused n i) = area

-- what laying gives back, and the area afterwards
unfoldable pub lay : ℕ → List ℕ → List ℕ → Laid
lay k s area = laid_in k (system (system_in s)) (words_in s) (laying k s area)

unfoldable pub area_after : ℕ → List ℕ → List ℕ → List ℕ
area_after k s area = area_of k (system (system_in s)) area (laying k s area)

-- Packets as found (document 02, A13): "Sheets carry no mark: ten-bit export takes them as found and tests as A1, but gives 8 only for a word over
-- 3FFh, CS too, and never 10."
--
-- In order: the words of a packet as found; the word that is named; the tests of a sheet; the sheet of a list as found.
-- Assumes nothing.
use Rattle.std.specs.Prelude.{ℕ, suc, ◌+◌, ◌/◌, ◌≤◌, ◌≡◌, Bool, true, cond, not, ◌&&◌, List, [], ◌∷◌, map, eqb, leb, length, get_or, take, drop}
use Rattle.rules.specs.Base.{All}
use Rattle.rules.specs.Systems.{known, system}
use Rattle.rules.specs.Packet.{found, Packet, Found}
use Rattle.rules.specs.Sheet.{limit, system_in, sheet_of}
use Rattle.rules.specs.Numbers.{Outcome, listed, refused, unless, Row, packets_in}
use Rattle.rules.specs.Laying.{low, dc_in, fault_by, no_words, word_at, from_packet, shaped, list_tests_by}

-- ---- the words of a packet as found

-- not "a word over 3FFh"
abbrev pub is_ten : ℕ → Bool
is_ten w = leb w 0x3FF

abbrev pub are_ten : List ℕ → Bool
are_ten [] = true
are_ten (w ∷ ws) = is_ten w && are_ten ws

-- "8 only for a word over 3FFh, CS too, and never 10"; "DC's low byte still gives the length"
unfoldable pub found_fault : List ℕ → ℕ
found_fault s = fault_by are_ten (cond (not (is_ten (get_or s (dc_in s + 6) 0))) 8 0) s

-- what a word has above its low byte
abbrev pub high : ℕ → ℕ
high w = w / 256

-- the packet at the front of words, as they stand there; its location is given elsewhere
abbrev pub found_of_words : List ℕ → Packet
found_of_words s =
    record {
      did = low (get_or s 3 0);
      sdid = low (get_or s 4 0);
      user = map low (take (dc_in s) (drop 6 s));
      line = 0;
      flags = 0;
      mark = found (map high (take (dc_in s + 3) (drop 3 s))) (get_or s (dc_in s + 6) 0);
    }

unfoldable pub found_row : Row ℕ
found_row = record { ends = no_words; fault = found_fault; packet = found_of_words; rest = λ (s : List ℕ). drop (dc_in s + 7) s }

-- "W words: packets back to back". There are never more packets than words
unfoldable pub packets_found : List ℕ → Outcome
packets_found ws = packets_in found_row (length ws) 0 ws

-- ---- the word that is named (document 02, A2)

-- how many words stand in front of the first "over 3FFh"
abbrev pub ten_before : List ℕ → ℕ
ten_before [] = 0
ten_before (w ∷ ws) = cond (is_ten w) (suc (ten_before ws)) 0

-- for 8 the first, from DID on, that is over 3FFh; else as it is for every packet
unfoldable pub found_word_at : ℕ → List ℕ → ℕ
found_word_at n s = cond (eqb n 8) (3 + ten_before (drop 3 s)) (word_at n s)

-- the word of a refusal, where its place counts the packets of these words
abbrev pub found_word_in : List ℕ → Outcome → ℕ
found_word_in ws (listed ps) = 0
found_word_in ws (refused n i) = found_word_at n (from_packet i ws)

-- ---- the tests of a sheet

-- "tests as A1": the lister's, in their order
unfoldable pub found_tests : List ℕ → Outcome
found_tests s =
    unless 2 (shaped s)
    (unless 3 (known (system_in s))
    (list_tests_by packets_found (system (system_in s)) s))

-- ---- the sheet of a list as found

-- s is the sheet of a list of packets as found within the packet limit
pub record SheetFound (sys : ℕ) (ps : List Packet) (s : List ℕ) : Type 0 where
  pub known : known sys ≡ true
  pub few : length ps ≤ limit
  pub found : All (Found (system sys)) ps
  pub whole : s ≡ sheet_of sys ps

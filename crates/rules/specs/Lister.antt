-- The lister of "Worked figures".
-- Assumes nothing.
use Rattle.std.specs.Prelude.{ℕ, ◌+◌, ◌*◌, ◌/◌, ◌%◌, ◌&&◌, List, [], ◌∷◌, map, eqb, leb, length}
use Rattle.rules.specs.Base.{sum}
use Rattle.rules.specs.Packet.{Packet}
use Rattle.rules.specs.Danc.{string_byte_count}
use Rattle.rules.specs.Sheet.{system_in, words_in}
use Rattle.rules.specs.Packing1.{packs_of}
use Rattle.rules.specs.Numbers.{Outcome, listed, refused, unless}
use Rattle.rules.specs.Laying.{sheet_tests, word_in}
use Rattle.rules.specs.declared.Tested.{Tested}

-- "Header: system, packets, string bytes, packs in packing 1." Or a refusal
abbrev pub tested_of : ℕ → Outcome → Tested
tested_of sys (listed ps) =
    record { number = 0; place = 0; word = 0; system = sys; packets = length ps; bytes = string_byte_count ps; packs = sum (map packs_of ps) }
tested_of sys (refused n i) = record { number = n; place = i; word = 0; system = 0; packets = 0; bytes = 0; packs = 0 }

-- "Laying and the lister pass the word on after the place" (document 02, A2)
abbrev pub tested_with : ℕ → Tested → Tested
tested_with w t =
    record { number = t.number; place = t.place; word = w; system = t.system; packets = t.packets; bytes = t.bytes; packs = t.packs }

-- the same of an outcome, where a refusal's place counts the packets of these words
abbrev pub tested_in : ℕ → List ℕ → Outcome → Tested
tested_in sys ws o = tested_with (word_in ws o) (tested_of sys o)

unfoldable pub tested : List ℕ → Tested
tested s = tested_in (system_in s) (words_in s) (sheet_tests s)

abbrev pub first_line : Tested → List ℕ
first_line r = r.system ∷ r.packets ∷ r.bytes ∷ r.packs ∷ []

-- "Row: packet, line, flags, DID and SDID .., DC."
abbrev pub row : ℕ → Packet → List ℕ
row i p = i ∷ p.line ∷ p.flags ∷ p.did ∷ p.sdid ∷ length p.user ∷ []

-- "16-bit numbers, high byte first in a file": the file of numbers, and the numbers of a file
abbrev pub file_of : List ℕ → List ℕ
file_of [] = []
file_of (n ∷ s) = n / 256 ∷ n % 256 ∷ file_of s

abbrev pub numbers_of : List ℕ → List ℕ
numbers_of [] = []
numbers_of (h ∷ []) = []
numbers_of (h ∷ l ∷ s) = (h * 256 + l) ∷ numbers_of s

-- "over 65,536 bytes, or an odd number, is 2"
unfoldable pub listing : List ℕ → Outcome
listing file = unless 2 (leb (length file) 65536 && eqb (length file % 2) 0) (sheet_tests (numbers_of file))

-- The ANC element of a list of packets as found (004, tables 5 to 7, 5.4.4, section 7.2, annex B).
--
-- A reader disregards unused bits and padding. So a packet stands here with the bytes of its array: those that we write are `ours`; 'unused bits
-- and padding aside' is: for some bytes that show its samples.
--
-- In order: samples in bytes; a packet and its array; table 7; table 5.
-- Assumes nothing.
use Rattle.std.specs.Prelude.{ℕ, ◌+◌, ◌*◌, List, [], ◌∷◌, ◌++◌, map, length}
use Rattle.rules.specs.Base.{joined}
use Rattle.rules.specs.Packet.{Packet, coded, check_of}
use Rattle.mxf.specs.Element.{two, four, wrapping, ten, coding_of, klv}

-- ---- samples in bytes

-- "3 source samples shall be coded using the high-order 30-bits (bits 2 to 31) of a 32-bit .. word. The 2 low-order bits .. should be set to zero"
abbrev pub packed : ℕ → ℕ → ℕ → ℕ
packed a b c = a * 4194304 + b * 4096 + c * 4

-- "4 bytes representing 3 source samples"; a sample that is not there is 0
abbrev pub tens : List ℕ → List ℕ
tens [] = []
tens (a ∷ []) = four (packed a 0 0)
tens (a ∷ b ∷ []) = four (packed a b 0)
tens (a ∷ b ∷ c ∷ ws) = four (packed a b c) ++ tens ws

-- ---- a packet and its array

pub record Arrayed : Type 0 where
  pub packet : Packet
  pub array : List ℕ

-- "the first source sample word captured shall be the ANC packets DID and the last .. the check-sum" (7.2)
abbrev pub source : Packet → List ℕ
source p = coded p ++ check_of p ∷ []

-- as we write it
abbrev pub ours : Packet → Arrayed
ours p = record { packet = p; array = tens (source p) }

abbrev pub packets_of : List Arrayed → List Packet
packets_of xs = map (λ (x : Arrayed). x.packet) xs

-- ---- table 7

-- DID, SDID, DC, the user words, CS
abbrev pub samples : Packet → ℕ
samples p = length p.user + 4

-- "Line Number", "Wrapping Type", "Payload Sample Coding", "Payload Sample Count", "ANC Payload Array": "The array count (n) is the number
-- of payload data bytes in the array including any padding bytes. The Payload Array Element Length shall be 1."
unfoldable pub structure : ℕ → Arrayed → List ℕ
structure sys x =
    two x.packet.line
    ++ wrapping sys
    ∷ coding_of ten x.packet.flags
    ∷ two (samples x.packet)
    ++ four (length x.array)
    ++ four 1
    ++ x.array

-- "Number of ANC packets in this element (N)", "it is repeated N times"
unfoldable pub value : ℕ → List Arrayed → List ℕ
value sys xs = two (length xs) ++ joined (structure sys) xs

-- ---- table 5

unfoldable pub element : ℕ → List Arrayed → List ℕ
element sys xs = klv (value sys xs)

-- as we write it
abbrev pub element_of : ℕ → List Packet → List ℕ
element_of sys ps = element sys (map ours ps)

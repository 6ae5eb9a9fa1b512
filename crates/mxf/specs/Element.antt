-- The ANC element of a list of packets (004, tables 5 to 7, section 7.2, annex B).
--
-- A reader disregards padding. It is written here as a free choice: `Padded` is a packet and the padding behind its samples, `bare` the
-- choice of our own writing. So 'padding aside' is: for some padding.
--
-- In order: numbers in bytes; table 6; wrapping and coding; a packet with its padding; table 7; table 5.
--
-- What the elements of 8-bit and of ten-bit samples have in common stands here once, for either coding.
-- Assumes nothing.
use Rattle.std.specs.Prelude.{ℕ, ◌+◌, ◌/◌, ◌%◌, Bool, cond, List, [], ◌∷◌, ◌++◌, map, eqb, length}
use Rattle.rules.specs.Base.{joined}
use Rattle.rules.specs.Packet.{Packet, body}

-- ---- numbers in bytes: "in big-endian sequence" (5.4)

abbrev pub two : ℕ → List ℕ
two n = n / 256 ∷ n % 256 ∷ []

abbrev pub three : ℕ → List ℕ
three n = n / 65536 ∷ n / 256 % 256 ∷ n % 256 ∷ []

abbrev pub four : ℕ → List ℕ
four n = n / 16777216 ∷ n / 65536 % 256 ∷ n / 256 % 256 ∷ n % 256 ∷ []

-- ---- table 6

-- "06.0E.2B.34. 01.02.01.01. 0D.01.03.01.", "17h Data Item", "01h Count of ANC Elements in this Data Item", "02h Frame-Wrapped ANC
-- Element", "01h The Number .. of this ANC Element in this Data Item"
unfoldable pub key : List ℕ
key =
    0x06 ∷ 0x0E ∷ 0x2B ∷ 0x34 ∷ 0x01 ∷ 0x02 ∷ 0x01 ∷ 0x01 ∷ 0x0D ∷ 0x01 ∷ 0x03 ∷ 0x01
    ∷ 0x17 ∷ 0x01 ∷ 0x02 ∷ 0x01 ∷ []

-- ---- wrapping and coding

-- 720/60p alone has progressive frames
unfoldable pub progressive : ℕ → Bool
progressive sys = eqb sys 3

-- "Wrapping is VANC frame for 1080, VANC progressive frame for 720, no other": "001h VANC Frame", "004h VANC Progressive frame"
unfoldable pub wrapping : ℕ → ℕ
wrapping sys = cond (progressive sys) 4 1

-- "Payload Sample Coding": samples of 8 bits (document 02, A1), or of ten (A13)
pub data Coding : Type 0 where
  eight : Coding
  ten : Coding

-- "4 8-bit luma samples", "7 10-bit luma samples"
abbrev pub luma : Coding → ℕ
luma eight = 4
luma ten = 7

-- "5 8-bit color difference samples", "8 10-bit color difference samples"
abbrev pub colour : Coding → ℕ
colour eight = 5
colour ten = 8

-- "The legend of figure 6 in 001 decides which YCF value is luma": 1 (flags: "bit 1 is YCF")
abbrev pub coding_of : Coding → ℕ → ℕ
coding_of c flags = cond (eqb (flags / 2) 1) (luma c) (colour c)

unfoldable pub coding : ℕ → ℕ
coding flags = coding_of eight flags

-- ---- a packet and its padding

pub record Padded : Type 0 where
  pub packet : Packet
  pub padding : List ℕ

-- "The Payload Array(s) in all ANC or VI Elements shall have no padding bytes" (B.5)
abbrev pub bare : Packet → Padded
bare p = record { packet = p; padding = [] }

abbrev pub packets_of : List Padded → List Packet
packets_of xs = map (λ (x : Padded). x.packet) xs

-- ---- table 7

-- "samples run from DID to the last user word, without CS"
abbrev pub samples : Packet → ℕ
samples p = length p.user + 3

-- "Line Number", "Wrapping Type", "Payload Sample Coding", "Payload Sample Count", "ANC Payload Array": "The array count (n) is the number
-- of payload data bytes in the array including any padding bytes. The Payload Array Element Length shall be 1." "The low-order 8-bits from
-- the source ANC packet shall be placed in this standard's ANC Payload Array" (7.2)
unfoldable pub structure : ℕ → Padded → List ℕ
structure sys x =
    two x.packet.line
    ++ wrapping sys
    ∷ coding x.packet.flags
    ∷ two (samples x.packet)
    ++ four (samples x.packet + length x.padding)
    ++ four 1
    ++ body x.packet
    ++ x.padding

-- "Number of ANC packets in this element (N)", "it is repeated N times"
unfoldable pub value : ℕ → List Padded → List ℕ
value sys xs = two (length xs) ++ joined (structure sys) xs

-- ---- table 5

-- "ANC Element Key", "Length", "83.xx.xx.xxh", "ANC Element Value". "The value of the length property shall be the length of the ANC
-- Element Value."
abbrev pub klv : List ℕ → List ℕ
klv value = key ++ 0x83 ∷ three (length value) ++ value

unfoldable pub element : ℕ → List Padded → List ℕ
element sys xs = klv (value sys xs)

-- as we write it
abbrev pub element_of : ℕ → List Packet → List ℕ
element_of sys ps = element sys (map bare ps)

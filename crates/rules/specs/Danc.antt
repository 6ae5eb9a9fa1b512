-- "The packet": the DANC packet (001, figure 6), and the string.
--
-- A reader disregards some bits. They are written here as free choices that a packet is laid with: `Item` is a packet and its
-- choices, `written` the choices of our own laying. So 'reserved bits and invalid line bits aside' is: for some choices.
--
-- In order: a packet with its free bits; as we write it; the header; the DANC packet; the string.
-- Assumes nothing.
use Rattle.std.specs.Prelude.{ℕ, ◌+◌, ◌*◌, ◌/◌, ◌%◌, ◌<◌, cond, List, [], ◌∷◌, ◌++◌, map, eqb, length}
use Rattle.rules.specs.Base.{sum, joined}
use Rattle.rules.specs.Systems.{System}
use Rattle.rules.specs.Packet.{Packet, body, check_of, Sound}

-- a packet, and the values of the bits that a reader disregards: "reserved bits 6 and 5" of header byte 1; header byte 2; the
-- line bits where there is no line; and in packing 1 the starter's "reserved byte"
pub record Item : Type 0 where
  pub packet : Packet
  pub bits : ℕ
  pub third : ℕ
  pub junk : ℕ
  pub starter : ℕ

-- a sound packet, and free bits of the right width
pub record Good (y : System) (x : Item) : Type 0 where
  pub sound : Sound y x.packet
  pub bits : x.bits < 4
  pub third : x.third < 256
  pub junk : x.junk < 2048
  pub starter : x.starter < 256

-- "Reserved bits are written 1"; "With no line, LE and all line bits are written 0"
abbrev pub written : Packet → Item
written p = record { packet = p; bits = 3; third = 0xFF; junk = 0; starter = 0xFF }

abbrev pub packets_of : List Item → List Packet
packets_of xs = map (λ (x : Item). x.packet) xs

-- "LE is 1 where there is a line."
abbrev pub le : Packet → ℕ
le p = cond (eqb p.line 0) 0 1

-- the eleven line bits
abbrev pub line_bits : Item → ℕ
line_bits x = cond (eqb x.packet.line 0) x.junk x.packet.line

-- "Header byte 0: LE in bit 7, line bits 6 to 0 below it." "Header byte 1: FI in bit 7, reserved bits 6 and 5, YCF in bit 4, line
-- bits 10 to 7 in bits 3 to 0." "Header byte 2: reserved."
unfoldable pub header : Item → List ℕ
header x =
    (le x.packet * 128 + line_bits x % 128)
    ∷ (x.packet.flags % 2 * 128 + x.bits * 32 + x.packet.flags / 2 * 16 + line_bits x / 128)
    ∷ x.third
    ∷ []

-- "then the low eight bits of each word, CS included"
abbrev pub behind : Packet → List ℕ
behind p = body p ++ check_of p % 256 ∷ []

-- "Three header bytes stand in place of the flag, then .."
unfoldable pub danc : Item → List ℕ
danc x = header x ++ behind x.packet

-- "A string is nothing, or one packet and then a string that is shorter by that packet."
abbrev pub string : List Item → List ℕ
string xs = joined danc xs

-- "A DANC packet has as many bytes as its VANC packet has words, DC + 7."
abbrev pub bytes_of : Packet → ℕ
bytes_of p = length p.user + 7

abbrev pub string_byte_count : List Packet → ℕ
string_byte_count ps = sum (map bytes_of ps)

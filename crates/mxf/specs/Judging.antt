-- "19 an element not of this form or a line outside the frame, with the position of the first byte at fault": the element is judged field
-- by field from the left.
--
-- In order: numbers in bytes; ten-bit samples; a field; a structure (table 7); the structures; key, length and N (tables 5 and 6).
-- Assumes nothing.
use Rattle.std.specs.Prelude.{ℕ, zero, suc, ◌+◌, ◌*◌, ◌/◌, ◌%◌, Bool, true, cond, not, ◌&&◌, ◌||◌}
use Rattle.std.specs.Prelude.{List, [], ◌∷◌, ◌++◌, eqb, ltb, leb, length, get_or, take, drop}
use Rattle.rules.specs.Systems.{System, system, stands}
use Rattle.rules.specs.Packet.{sound, Packet}
use Rattle.rules.specs.Numbers.{Outcome, listed, refused, also}
use Rattle.rules.specs.Found.{found_of_words}
use Rattle.mxf.specs.Element.{key, wrapping, Coding, eight, ten, luma, colour}
use Rattle.mxf.specs.Served.{fi_read}

-- ---- numbers in bytes, from byte i on: "in big-endian sequence" (5.4)

abbrev pub two_in : List ℕ → ℕ → ℕ
two_in s i = get_or s i 0 * 256 + get_or s (i + 1) 0

abbrev pub three_in : List ℕ → ℕ → ℕ
three_in s i = get_or s i 0 * 65536 + two_in s (i + 1)

abbrev pub four_in : List ℕ → ℕ → ℕ
four_in s i = get_or s i 0 * 16777216 + three_in s (i + 1)

-- ---- ten-bit samples

-- "4 bytes representing 3 source samples shall be coded using the high-order 30-bits" (5.4.4), whatever the two low-order bits
abbrev pub unpacked : ℕ → List ℕ
unpacked n = n / 4194304 ∷ n / 4096 % 1024 ∷ n / 4 % 1024 ∷ []

-- the samples that bytes show, four by four
abbrev pub samples_in : List ℕ → List ℕ
samples_in [] = []
samples_in (a ∷ []) = []
samples_in (a ∷ b ∷ []) = []
samples_in (a ∷ b ∷ c ∷ []) = []
samples_in (a ∷ b ∷ c ∷ d ∷ s) = unpacked (four_in (a ∷ b ∷ c ∷ d ∷ []) 0) ++ samples_in s

-- ---- a field

-- A field of `size` bytes at byte i of s, which begins at place `at` of the element. Bytes that are missing are named by the element's
-- length, a wrong field by the position of its first byte
abbrev pub field : ℕ → List ℕ → ℕ → ℕ → Bool → Outcome → Outcome
field at s i size right o = cond (ltb (length s) (i + size)) (refused 19 (at + length s)) (cond right o (refused 19 (at + i)))

-- ---- a structure (table 7)

-- not "a line outside the frame", and not none
abbrev pub in_frame : System → ℕ → Bool
in_frame y line = not (eqb line 0) && stands y line

-- luma or colour difference samples
abbrev pub is_coding : Coding → ℕ → Bool
is_coding c n = eqb n (luma c) || eqb n (colour c)

-- the samples beside user words: DID, SDID and DC; of ten bits CS too (7.2)
abbrev pub others : Coding → ℕ
others eight = 3
others ten = 4

-- "Payload Sample Count": there are 0 to 255 user words
abbrev pub is_count : Coding → ℕ → Bool
is_count c n = leb (others c) n && leb n (others c + 255)

-- the bytes of so many samples: one each, or "4 bytes representing 3 source samples" (5.4.4)
abbrev pub array_for : Coding → ℕ → ℕ
array_for eight n = n
array_for ten n = 4 * ((n + 2) / 3)

-- the array: its 8 bytes of count and length, and as many bytes as the count says, padding included
abbrev pub size_in : List ℕ → ℕ
size_in s = 14 + four_in s 6

-- DC's byte, the third sample; of ten bits "DC's low byte" (document 02, A13) lies in the second pair of the array's bytes
abbrev pub dc_in : Coding → List ℕ → ℕ
dc_in eight s = get_or s 16 0
dc_in ten s = two_in s 16 / 4 % 256

abbrev pub dc_bytes : Coding → ℕ
dc_bytes eight = 1
dc_bytes ten = 2

-- "Line Number", "Wrapping Type", "Payload Sample Coding". Where all are right, o
unfoldable pub front_then : Coding → ℕ → ℕ → List ℕ → Outcome → Outcome
front_then c sys at s o =
    field at s 0 2 (in_frame (system sys) (two_in s 0))
    (field at s 2 1 (eqb (get_or s 2 0) (wrapping sys))
    (field at s 3 1 (is_coding c (get_or s 3 0))
    o))

-- "Payload Sample Count"; of the "ANC Payload Array" the count, not below that of the samples' bytes and not past the end, and the element
-- length; and DC, which is the sample count less the other samples
unfoldable pub array_then : Coding → ℕ → List ℕ → Outcome → Outcome
array_then c at s o =
    field at s 4 2 (is_count c (two_in s 4))
    (field at s 6 4 (leb (array_for c (two_in s 4)) (four_in s 6) && leb (size_in s) (length s))
    (field at s 10 4 (eqb (four_in s 10) 1)
    (field at s 16 (dc_bytes c) (eqb (dc_in c s + others c) (two_in s 4))
    o)))

-- the packet that the samples show: of 8 bits sound, of ten "as found", its flag before them
abbrev pub sampled : Coding → List ℕ → Packet
sampled eight s =
    record { did = get_or s 14 0; sdid = get_or s 15 0; user = take (get_or s 16 0) (drop 17 s); line = 0; flags = 0; mark = sound }
sampled ten s = found_of_words (0x000 ∷ 0x3FF ∷ 0x3FF ∷ take (two_in s 4) (samples_in (drop 14 s)))

-- the packet that a structure shows. "luma samples": YCF 1
abbrev pub packet_in : Coding → ℕ → Bool → List ℕ → Packet
packet_in c sys fi s =
    record {
      did = (sampled c s).did;
      sdid = (sampled c s).sdid;
      user = (sampled c s).user;
      line = two_in s 0;
      flags = fi_read sys fi + 2 * cond (eqb (get_or s 3 0) (luma c)) 1 0;
      mark = (sampled c s).mark;
    }

-- ---- the structures

-- n structures, the first at place `at`. Surplus bytes after the last are named by the first of them
abbrev pub structures : Coding → ℕ → Bool → ℕ → ℕ → List ℕ → Outcome
structures c sys fi zero at [] = listed []
structures c sys fi zero at (b ∷ s) = refused 19 at
structures c sys fi (suc n) at s =
    front_then c sys at s (array_then c at s (also (packet_in c sys fi s) (structures c sys fi n (at + size_in s) (drop (size_in s) s))))

-- ---- key, length and N (tables 5 and 6)

-- "key bytes one by one"
abbrev pub key_then : ℕ → List ℕ → List ℕ → Outcome → Outcome
key_then i [] e o = o
key_then i (k ∷ ks) e o = field 0 e i 1 (eqb (get_or e i 0) k) (key_then (suc i) ks e o)

-- "83.xx.xx.xxh"; "the length of the ANC Element Value" is that of the bytes after it; N is any number
unfoldable pub head_then : List ℕ → Outcome → Outcome
head_then e o =
    key_then 0 key e
    (field 0 e 16 1 (eqb (get_or e 16 0) 0x83)
    (field 0 e 17 3 (eqb (20 + three_in e 17) (length e))
    (field 0 e 20 2 true
    o)))

-- the packets of an element, or 19
unfoldable pub judged_as : Coding → ℕ → Bool → List ℕ → Outcome
judged_as c sys fi e = head_then e (structures c sys fi (two_in e 20) 22 (drop 22 e))

-- "Coding is 8-bit"
abbrev pub judged : ℕ → Bool → List ℕ → Outcome
judged sys fi e = judged_as eight sys fi e

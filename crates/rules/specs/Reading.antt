-- "Numbers given back": the tests of an area, and what reading gives back.
--
-- In order: a packet's bytes (15, 16, 20); a string (14); packs of 5 (13, 14); user bytes (13); the area (3, 4, 17); the answer.
-- Assumes nothing.
use Rattle.std.specs.Prelude.{ℕ, suc, ◌+◌, ◌*◌, ◌/◌, ◌%◌, Bool, true, false, cond, not, ◌&&◌, ◌||◌, List, [], ◌∷◌, ◌++◌, eqb, ltb, leb}
use Rattle.std.specs.Prelude.{length, get_or, take, drop}
use Rattle.rules.specs.Base.{all_is}
use Rattle.rules.specs.Systems.{System, known, system, stands, allowed}
use Rattle.rules.specs.Packet.{Packet, sound, check_of}
use Rattle.rules.specs.Sheet.{limit, sheet_of}
use Rattle.rules.specs.Blocks.{area_size, block_sizes, user_bytes_in}
use Rattle.rules.specs.Packing1.{Five, flat, fives, carriers_for}
use Rattle.rules.specs.Packing2.{Opened, opened, shut, open_long}
use Rattle.rules.specs.Numbers.{Outcome, listed, refused, unless, and_then, Row, packets_in}
use Rattle.rules.specs.declared.ReadBack.{ReadBack}

-- ---- a packet's bytes, from header byte 0 on

-- line bits 6 to 0 of header byte 0, 10 to 7 of header byte 1
abbrev pub line_in : ℕ → ℕ → ℕ
line_in h0 h1 = h0 % 128 + h1 % 16 * 128

-- "a reader disregards line bits when LE is 0"
abbrev pub line_of : ℕ → ℕ → ℕ
line_of h0 h1 = cond (ltb h0 128) 0 (line_in h0 h1)

-- FI in bit 7 and YCF in bit 4 of header byte 1
abbrev pub flags_of : ℕ → ℕ
flags_of h1 = h1 / 128 + 2 * (h1 / 16 % 2)

abbrev pub packet_of_bytes : List ℕ → Packet
packet_of_bytes s =
    record {
      did = get_or s 3 0;
      sdid = get_or s 4 0;
      user = take (get_or s 5 0) (drop 6 s);
      line = line_of (get_or s 0 0) (get_or s 1 0);
      flags = flags_of (get_or s 1 0);
      mark = sound;
    }

-- "16 | LE is 1 and the line is 0 or past the last"
abbrev pub line_fault : System → ℕ → ℕ → Bool
line_fault y h0 h1 = not (ltb h0 128) && (eqb (line_in h0 h1) 0 || not (stands y (line_in h0 h1)))

-- "15 | stored CS byte is not the sum's low byte", then 16, then "20 .., a line in the frame that isn't allowed" (document 02, A3)
unfoldable pub bytes_fault : System → List ℕ → ℕ
bytes_fault y s =
    cond (not (eqb (get_or s (get_or s 5 0 + 6) 0) (check_of (packet_of_bytes s) % 256))) 15
    (cond (line_fault y (get_or s 0 0) (get_or s 1 0)) 16
    (cond (not (allowed y (line_of (get_or s 0 0) (get_or s 1 0)))) 20
    0))

-- ---- a string

-- "14 is given if fewer than 7 or fewer than DC + 7 bytes remain", then 15, 16, 20
unfoldable pub string_fault : System → List ℕ → ℕ
string_fault y s = cond (ltb (length s) 7 || ltb (length s) (get_or s 5 0 + 7)) 14 (bytes_fault y s)

-- "At a packet boundary past the first string byte of the last pack, if all that remains is FFh or nothing remains, the walk ends":
-- fewer bytes remain than the last pack has room for
unfoldable pub string_ends : ℕ → List ℕ → Bool
string_ends room s = ltb (length s) room && all_is 0xFF s

unfoldable pub string_row : System → ℕ → Row ℕ
string_row y room =
    record { ends = string_ends room; fault = string_fault y; packet = packet_of_bytes; rest = λ (s : List ℕ). drop (get_or s 5 0 + 7) s }

-- ---- packs of 5

-- how many carriers stand in front, and the bytes that packs carry
abbrev pub lead : List Five → ℕ
lead [] = 0
lead (p ∷ ps) = cond (eqb p.b0 0xE2) (suc (lead ps)) 0

abbrev pub carried : List Five → List ℕ
carried [] = []
carried (p ∷ ps) = p.b1 ∷ p.b2 ∷ p.b3 ∷ p.b4 ∷ carried ps

-- the bytes of the starter and carriers in front, from header byte 0 on
abbrev pub front_bytes : List Five → List ℕ
front_bytes [] = []
front_bytes (p ∷ ps) = p.b2 ∷ p.b3 ∷ p.b4 ∷ carried (take (lead ps) ps)

-- "Refusal 14, packing 1: a starter's carriers are not exactly as many as its DC needs, or the unused bytes are not FFh."
abbrev pub carriers_fit : ℕ → List ℕ → Bool
carriers_fit n s = eqb n (carriers_for (get_or s 5 0)) && all_is 0xFF (drop (get_or s 5 0 + 7) s)

-- 14, 15, 16, 20. (Where 13 has passed, what is not the end begins with a starter.)
unfoldable pub packs_fault : System → List Five → ℕ
packs_fault y [] = 14
packs_fault y (p ∷ ps) =
    cond (eqb p.b0 0xE1 && carriers_fit (lead ps) (front_bytes (p ∷ ps))) (bytes_fault y (front_bytes (p ∷ ps))) 14

-- "until the packet's last byte; then a starter or fill follows"
unfoldable pub packs_end : List Five → Bool
packs_end ps = all_is 0xFF (flat ps)

abbrev pub after_carriers : List Five → List Five
after_carriers [] = []
after_carriers (p ∷ ps) = drop (lead ps) ps

unfoldable pub pack_row : System → Row Five
pack_row y = record { ends = packs_end; fault = packs_fault y; packet = λ (ps : List Five). packet_of_bytes (front_bytes ps); rest = after_carriers }

-- "every pack is a starter, a carrier or five FFh, each starter has a carrier after it, and nothing but fill follows fill".
-- `true`: after a starter, where a carrier has to stand
unfoldable pub in_order : Bool → List Five → Bool
in_order true [] = false
in_order false [] = true
in_order true (p ∷ ps) = eqb p.b0 0xE2 && in_order false ps
in_order false (p ∷ ps) =
    cond (eqb p.b0 0xE1) (in_order true ps) (cond (eqb p.b0 0xE2) (in_order false ps) (all_is 0xFF (flat (p ∷ ps))))

-- ---- user bytes

-- "The first user byte in laying order"
abbrev pub first_byte : List ℕ → ℕ
first_byte ub = get_or ub 0 0xFF

-- "Packing 2: the string bytes of all packs are walked."
abbrev pub packets_of_opened : System → Opened → Outcome
packets_of_opened y (opened s room) = packets_in (string_row y room) limit 0 s
packets_of_opened y shut = refused 13 0

-- "Refusal 13 is given unless one of these holds. The first user byte in laying order is FFh and so is every other. Or it is E1h,
-- .. Or it is E3h, .." Then "packet by packet 5 (only a [1,276th]), 14, 15, 16" and 20
unfoldable pub packets_of_user_bytes : System → List ℕ → List ℕ → Outcome
packets_of_user_bytes y sizes ub =
    cond (eqb (first_byte ub) 0xFF) (unless 13 (all_is 0xFF ub) (listed []))
    (cond (eqb (first_byte ub) 0xE1) (unless 13 (in_order false (fives ub)) (packets_in (pack_row y) limit 0 (fives ub)))
    (cond (eqb (first_byte ub) 0xE3) (packets_of_opened y (open_long sizes ub))
    (refused 13 0)))

-- "packing found (0 for an empty list)"
abbrev pub packing_found : List ℕ → ℕ
packing_found ub = cond (eqb (first_byte ub) 0xFF) 0 (cond (eqb (first_byte ub) 0xE1) 1 2)

-- ---- the area

-- "Reading tests 3, 4, 13, then packet by packet .., then 17." `room` is how many numbers the sheet buffer holds
unfoldable pub reading : ℕ → List ℕ → ℕ → Outcome
reading sys area room =
    unless 3 (known sys)
    (unless 4 (eqb (length area) (area_size (system sys)))
    (and_then (packets_of_user_bytes (system sys) (block_sizes (system sys)) (user_bytes_in (system sys) area))
    (λ (ps : List Packet). unless 17 (leb (length (sheet_of sys ps)) room) (listed ps))))

-- "Reading returns number, place, packing found (0 for an empty list), packets and sheet numbers written." "On success the sheet
-- buffer past the sheet is unchanged."
abbrev pub read_back_of : ℕ → ℕ → Outcome → ReadBack
read_back_of sys k (listed ps) = record { number = 0; place = 0; packing = k; packets = length ps; numbers = length (sheet_of sys ps) }
read_back_of sys k (refused n i) = record { number = n; place = i; packing = 0; packets = 0; numbers = 0 }

abbrev pub buffer_of : ℕ → List ℕ → Outcome → List ℕ
buffer_of sys buffer (listed ps) = sheet_of sys ps ++ drop (length (sheet_of sys ps)) buffer
buffer_of sys buffer (refused n i) = buffer

-- what reading gives back, and the sheet buffer afterwards
unfoldable pub read : ℕ → List ℕ → List ℕ → ReadBack
read sys area buffer = read_back_of sys (packing_found (user_bytes_in (system sys) area)) (reading sys area (length buffer))

unfoldable pub buffer_after : ℕ → List ℕ → List ℕ → List ℕ
buffer_after sys area buffer = buffer_of sys buffer (reading sys area (length buffer))

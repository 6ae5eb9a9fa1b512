-- Writing the sheet of the packets that a string shows: the packets, how many numbers are written, the sheet buffer afterwards.
--
-- In order: the packets of a string; the numbers written; the buffer afterwards; the words of one packet; what the parts of the writing
-- say.
-- Assumes nothing.
use Rattle.std.specs.Prelude.{ℕ, ◌+◌, ◌*◌, ◌<◌, ◌≡◌, Bool, true, false, cond, ◌&&◌, ◌||◌, List, [], ◌∷◌, ◌++◌, map, eqb, ltb, leb, length}
use Rattle.std.specs.Prelude.{get_or, take, drop, Option, Some, None}
use Rattle.rules.specs.Packet.{Packet, word, check}
use Rattle.rules.specs.Sheet.{all_words, sheet_of}
use Rattle.rules.specs.Numbers.{Outcome, listed, refused, Row, packets_in}
use Rattle.rules.specs.Reading.{packet_of_bytes}

-- ---- the packets of a string

-- nothing remains
abbrev pub no_bytes : List ℕ → Bool
no_bytes [] = true
no_bytes (b ∷ s) = false

-- "DC + 7": the bytes of the packet at the front
abbrev pub size_in : List ℕ → ℕ
size_in s = get_or s 5 0 + 7

-- "fewer than 7 or fewer than DC + 7 bytes remain"
unfoldable pub shown_fault : List ℕ → ℕ
shown_fault s = cond (ltb (length s) 7 || ltb (length s) (size_in s)) 14 0

-- how packets stand in a string, whatever they say: a packet's CS and line are not tested here
unfoldable pub shown_row : Row ℕ
shown_row = record { ends = no_bytes; fault = shown_fault; packet = packet_of_bytes; rest = λ (s : List ℕ). drop (size_in s) s }

-- "A string is nothing, or one packet and then a string that is shorter by that packet." There are never more packets than bytes
unfoldable pub shown : List ℕ → Outcome
shown s = packets_in shown_row (length s) 0 s

-- ---- the numbers written

-- "16-bit numbers": W is one of them, and the sheet is not longer than its buffer
abbrev pub has_room : ℕ → ℕ → List Packet → Bool
has_room sys room ps = leb (length (all_words ps)) 65535 && leb (length (sheet_of sys ps)) room

-- the numbers of the sheet of a list, into a buffer of `room` numbers
abbrev pub wrote_of : ℕ → ℕ → Outcome → Option ℕ
wrote_of sys room (listed ps) = cond (has_room sys room ps) (Some (length (sheet_of sys ps))) None
wrote_of sys room (refused n i) = None

-- how many numbers are written of the sheet of a string's packets, if it is written
unfoldable pub wrote : ℕ → List ℕ → ℕ → Option ℕ
wrote sys s room = wrote_of sys room (shown s)

-- ---- the buffer afterwards

-- the sheet, and the buffer past it; or the buffer as it was
abbrev pub after_of : ℕ → List ℕ → Outcome → List ℕ
after_of sys buffer (listed ps) = cond (has_room sys (length buffer) ps) (sheet_of sys ps ++ drop (length (sheet_of sys ps)) buffer) buffer
after_of sys buffer (refused n i) = buffer

-- "On success the sheet buffer past the sheet is unchanged."
unfoldable pub sheet_after : ℕ → List ℕ → List ℕ → List ℕ
sheet_after sys s buffer = after_of sys buffer (shown s)

-- ---- the words of one packet

-- "000h, 3FFh, 3FFh", words, and the CS of these: `words p` is `framed (coded p)`
unfoldable pub framed : List ℕ → List ℕ
framed ws = 0x000 ∷ 0x3FF ∷ 0x3FF ∷ ws ++ check ws ∷ []

-- the first six words of a packet from its bytes: "000h, 3FFh, 3FFh; DID; SDID or DBN; DC"
abbrev pub head_of : List ℕ → List ℕ
head_of s = 0x000 ∷ 0x3FF ∷ 0x3FF ∷ word (get_or s 3 0) ∷ word (get_or s 4 0) ∷ word (get_or s 5 0) ∷ []

-- the sum of the three of these that CS is over
abbrev pub id_sum : List ℕ → ℕ
id_sum s = word (get_or s 3 0) + word (get_or s 4 0) + word (get_or s 5 0)

-- from the bytes of DID to the last user word, where the buffer is as long as the words are; or the buffer as it was
unfoldable pub words_after : List ℕ → List ℕ → List ℕ
words_after s buffer = cond (eqb (length buffer) (length s + 4)) (framed (map word s)) buffer

-- ---- what the parts of the writing say

-- the packets of a list; of a refusal none
abbrev pub list_in : Outcome → List Packet
list_in (listed ps) = ps
list_in (refused n i) = []

-- the packets of a string
abbrev pub packets_shown : List ℕ → List Packet
packets_shown s = list_in (shown s)

-- the bytes are whole packets
abbrev pub Whole : List ℕ → Type 0
Whole s = shown s ≡ listed (packets_shown s)

-- room for the words of whole packets: "A DANC packet has as many bytes as its VANC packet has words"
pub record RoomForWords (s out : List ℕ) : Type 0 where
  pub whole : Whole s
  pub long : length out ≡ length s

-- what measuring has shown: whole packets, so many, in few enough bytes, and as many numbers to write as their sheet has
pub record Measured (packets : ℕ) (s out : List ℕ) : Type 0 where
  pub whole : Whole s
  pub count : packets ≡ length (packets_shown s)
  pub few : length s < 65536
  pub room : length out ≡ 4 + 2 * packets + length s

-- k packets, and those of a list; of a refusal no count
abbrev pub count_from : ℕ → Outcome → Option ℕ
count_from k (listed ps) = Some (k + length ps)
count_from k (refused n i) = None

-- the packets of a run from a place on, as far as the string goes that is its front, and k before them; packets that have gone past its end are
-- not whole
abbrev pub count_to : ℕ → ℕ → ℕ → List ℕ → Option ℕ
count_to end at k us = cond (leb at end) (count_from k (shown (drop at (take end us)))) None

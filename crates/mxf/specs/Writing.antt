-- The tests of an export, and what writing gives back: "on export the lister's, 18, with the packet, for one served without a line, 17".
--
-- In order: 18; the tests; the answer.
-- Assumes nothing.
use Rattle.std.specs.Prelude.{ℕ, suc, Bool, cond, ◌&&◌, List, [], ◌∷◌, ◌++◌, eqb, leb, length, drop}
use Rattle.rules.specs.Packet.{Packet}
use Rattle.rules.specs.Sheet.{system_in, words_in}
use Rattle.rules.specs.Numbers.{Outcome, listed, refused, unless, and_then}
use Rattle.rules.specs.Laying.{word_in, sheet_tests}
use Rattle.mxf.specs.Element.{element_of}
use Rattle.mxf.specs.Served.{serves, served}
use Rattle.mxf.specs.declared.ElementWritten.{ElementWritten}

-- 18, "for one served without a line". The packet is named by its number in the sheet, the first of them by i
abbrev pub lined : ℕ → Bool → ℕ → List Packet → Outcome → Outcome
lined sys fi i [] o = o
lined sys fi i (p ∷ ps) o = cond (serves sys fi p.flags && eqb p.line 0) (refused 18 i) (lined sys fi (suc i) ps o)

-- the packets that are served, each with a line
abbrev pub export : ℕ → Bool → List Packet → Outcome
export sys fi ps = lined sys fi 0 ps (listed (served sys fi ps))

-- 17, the element is longer than its buffer. `make` gives the element of a list
abbrev pub with_room_for : (List Packet → List ℕ) → ℕ → Outcome → Outcome
with_room_for make room o = and_then o (λ (ps : List Packet). unless 17 (leb (length (make ps)) room) (listed ps))

abbrev pub with_room : ℕ → ℕ → Outcome → Outcome
with_room sys room o = with_room_for (element_of sys) room o

-- "the lister's, 18, .. 17 .. in these orders". `room` is how many bytes the element buffer holds
unfoldable pub writing : Bool → List ℕ → ℕ → Outcome
writing fi s room = with_room (system_in s) room (and_then (sheet_tests s) (export (system_in s) fi))

-- number, place, packets served, element bytes; on refusal the later figures are 0
abbrev pub written_by : (List Packet → List ℕ) → Outcome → ElementWritten
written_by make (listed ps) = record { number = 0; place = 0; word = 0; packets = length ps; bytes = length (make ps) }
written_by make (refused n i) = record { number = n; place = i; word = 0; packets = 0; bytes = 0 }

abbrev pub written_of : ℕ → Outcome → ElementWritten
written_of sys o = written_by (element_of sys) o

-- the word after the place, as laying and the lister pass it on (A2)
abbrev pub written_with : ℕ → ElementWritten → ElementWritten
written_with w r = record { number = r.number; place = r.place; word = w; packets = r.packets; bytes = r.bytes }

-- the same of an outcome, where a refusal's place counts the packets of these words
abbrev pub written_in : ℕ → List ℕ → Outcome → ElementWritten
written_in sys ws o = written_with (word_in ws o) (written_of sys o)

-- "target unchanged" on a refusal; past the element it is unchanged on success
abbrev pub laid_by : (List Packet → List ℕ) → List ℕ → Outcome → List ℕ
laid_by make buffer (listed ps) = make ps ++ drop (length (make ps)) buffer
laid_by make buffer (refused n i) = buffer

abbrev pub element_in : ℕ → List ℕ → Outcome → List ℕ
element_in sys buffer o = laid_by (element_of sys) buffer o

-- what writing gives back, and the element buffer afterwards
unfoldable pub write : Bool → List ℕ → List ℕ → ElementWritten
write fi s buffer = written_in (system_in s) (words_in s) (writing fi s (length buffer))

unfoldable pub element_after : Bool → List ℕ → List ℕ → List ℕ
element_after fi s buffer = element_in (system_in s) buffer (writing fi s (length buffer))

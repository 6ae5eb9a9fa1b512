-- The tests of an element, and what reading gives back: "on reading 3, 19 .., 5, 17 (W over 65,535 too); in these orders, target
-- unchanged"; and 20, with the packet, "after 19" (document 02, A3).
--
-- In order: the tests; the answer.
-- Assumes nothing.
use Rattle.std.specs.Prelude.{ℕ, Bool, cond, List, leb, length}
use Rattle.rules.specs.Systems.{known, system}
use Rattle.rules.specs.Packet.{Packet}
use Rattle.rules.specs.Sheet.{limit, locations, sheet_of}
use Rattle.rules.specs.Numbers.{Outcome, listed, refused, unless, and_then}
use Rattle.rules.specs.Laying.{unless_at, location_allowed}
use Rattle.rules.specs.Reading.{buffer_of}
use Rattle.sheet.specs.Write.{has_room}
use Rattle.mxf.specs.Judging.{judged}
use Rattle.mxf.specs.declared.ElementRead.{ElementRead}

-- 5 at the limit's place, then 17, "W over 65,535 too"
abbrev pub last_tests : ℕ → ℕ → List Packet → Outcome
last_tests sys room ps = cond (leb (length ps) limit) (unless 17 (has_room sys room ps) (listed ps)) (refused 5 limit)

-- 20, "a line in the frame that isn't allowed", then these. "Packet k belongs to location k": the place counts both
abbrev pub packet_tests : ℕ → ℕ → List Packet → Outcome
packet_tests sys room ps = unless_at 20 (location_allowed (system sys)) 0 (locations ps) (last_tests sys room ps)

-- 3, then what judging has given, then these. `room` is how many numbers the sheet buffer holds
abbrev pub reading_of : ℕ → Outcome → ℕ → Outcome
reading_of sys o room = unless 3 (known sys) (and_then o (packet_tests sys room))

unfoldable pub reading : ℕ → Bool → List ℕ → ℕ → Outcome
reading sys fi e room = reading_of sys (judged sys fi e) room

-- number, place, packets, sheet numbers; on refusal the later figures are 0
abbrev pub read_of : ℕ → Outcome → ElementRead
read_of sys (listed ps) = record { number = 0; place = 0; packets = length ps; numbers = length (sheet_of sys ps) }
read_of sys (refused n i) = record { number = n; place = i; packets = 0; numbers = 0 }

-- what reading gives back, and the sheet buffer afterwards
unfoldable pub read : ℕ → Bool → List ℕ → List ℕ → ElementRead
read sys fi e buffer = read_of sys (reading sys fi e (length buffer))

unfoldable pub sheet_after : ℕ → Bool → List ℕ → List ℕ → List ℕ
sheet_after sys fi e buffer = buffer_of sys buffer (reading sys fi e (length buffer))

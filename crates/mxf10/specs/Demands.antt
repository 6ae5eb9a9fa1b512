-- The contracts of writing and reading elements of ten-bit samples. Their first two fields say the whole result by one equation each, so no second
-- result fits; the others say what a caller may rely on without knowing the tests.
--
-- In order: what gives an element; writing, and the way back; reading.
-- Assumes nothing.
use Rattle.std.specs.Prelude.{ℕ, ◌%◌, ◌≤◌, ◌<◌, ◌≡◌, Bool, true, List, length, take}
use Rattle.rules.specs.Base.{All, Bytes}
use Rattle.rules.specs.Systems.{known, system}
use Rattle.rules.specs.Packet.{Packet, Found}
use Rattle.rules.specs.Sheet.{limit, sheet_of}
use Rattle.rules.specs.Numbers.{listed}
use Rattle.rules.specs.Reading.{buffer_of}
use Rattle.rules.specs.Found.{SheetFound}
use Rattle.sheet.specs.Write.{has_room}
use Rattle.mxf.specs.Element.{ten}
use Rattle.mxf.specs.Served.{served, fi_read, all_back}
use Rattle.mxf.specs.Judging.{array_for, samples_in}
use Rattle.mxf.specs.Reading.{read_of}
use Rattle.mxf.specs.Demands.{Lined, Unwritten, Unread}
use Rattle.mxf.specs.declared.ElementWritten.{ElementWritten}
use Rattle.mxf.specs.declared.ElementRead.{ElementRead}
use Rattle.mxf10.specs.Element.{Arrayed, packets_of, source, samples, value, element, element_of}
use Rattle.mxf10.specs.Writing.{written_of, element_in, write, element_after}
use Rattle.mxf10.specs.Reading.{read, sheet_after}

-- ---- what gives an element

-- a packet as found with a line, its FI as reading gives it back, and an array of bytes that show its samples, whatever stands in unused bits
-- and behind them
pub record Held (sys : ℕ) (fi : Bool) (x : Arrayed) : Type 0 where
  pub found : Found (system sys) x.packet
  pub lined : Lined x.packet
  pub own : x.packet.flags % 2 ≡ fi_read sys fi
  pub bytes : Bytes x.array
  pub long : array_for ten (samples x.packet) ≤ length x.array
  pub shows : take (samples x.packet) (samples_in x.array) ≡ source x.packet

-- the element is that of these packets, with these arrays; N is two bytes, the length three
pub record Gives (sys : ℕ) (fi : Bool) (xs : List Arrayed) (e : List ℕ) : Type 0 where
  pub held : All (Held sys fi) xs
  pub few : length xs < 65536
  pub short : length (value sys xs) < 16777216
  pub bytes : e ≡ element sys xs

-- ---- writing

-- a list as found within the packet limit whose served packets have lines, and room for their element
pub record Exported (fi : Bool) (sys : ℕ) (ps : List Packet) (s target : List ℕ) : Type 0 where
  pub sheet : SheetFound sys ps s
  pub lined : All Lined (served sys fi ps)
  pub room : length (element_of sys (served sys fi ps)) ≤ length target

-- its element is written; and number 0 is given for such a list alone
pub record Exports (fi : Bool) (s target : List ℕ) (r : ElementWritten) (after : List ℕ) : Type 0 where
  pub written : (sys : ℕ) (ps : List Packet) → Exported fi sys ps s target
      → (r ≡ written_of sys (listed (served sys fi ps))) × (after ≡ element_in sys target (listed (served sys fi ps)))
  pub only : r.number ≡ 0 → (sys : ℕ) × (ps : List Packet) × Exported fi sys ps s target

-- "As-found packets go through MXF ten-bit coding unchanged, DID to CS": what is written comes back word for word, into every buffer with room
-- for the sheet
pub record ComesBack (fi : Bool) (s : List ℕ) (r : ElementWritten) (after : List ℕ) : Type 0 where
  pub back : (sys : ℕ) (ps : List Packet) (sheet : List ℕ) → SheetFound sys ps s → r.number ≡ 0
      → length (sheet_of sys (all_back sys fi ps)) ≤ length sheet
      → (read sys fi (take r.bytes after) sheet ≡ read_of sys (listed (all_back sys fi ps)))
      × (sheet_after sys fi (take r.bytes after) sheet ≡ buffer_of sys sheet (listed (all_back sys fi ps)))

-- the contract of writing
pub record WritesTen (fi : Bool) (s target : List ℕ) (r : ElementWritten) (after : List ℕ) : Type 0 where
  pub answer : r ≡ write fi s target
  pub buffer : after ≡ element_after fi s target
  pub demand1 : (r.number ≡ 0 → ⊥) → Unwritten r target after
  pub exports : Exports fi s target r after
  pub comes_back : ComesBack fi s r after

-- ---- reading

-- an element is accepted exactly when some list of packets as found with lines gives it, unused bits and padding aside; one list only
pub record Accepts (sys : ℕ) (fi : Bool) (e sheet : List ℕ) (r : ElementRead) (after : List ℕ) : Type 0 where
  pub accepts : (xs : List Arrayed) → Gives sys fi xs e → length xs ≤ limit → has_room sys (length sheet) (packets_of xs) ≡ true
      → (r ≡ read_of sys (listed (packets_of xs))) × (after ≡ buffer_of sys sheet (listed (packets_of xs)))
  pub only : r.number ≡ 0
      → (xs : List Arrayed) × Gives sys fi xs e × (length xs ≤ limit) × (has_room sys (length sheet) (packets_of xs) ≡ true)
  pub form : (xs : List Arrayed) → Gives sys fi xs e → r.number ≡ 19 → ⊥
  pub one : (xs ys : List Arrayed) → Gives sys fi xs e → Gives sys fi ys e → xs ≡ ys

-- the contract of reading
pub record ReadsTen (sys : ℕ) (fi : Bool) (e sheet : List ℕ) (r : ElementRead) (after : List ℕ) : Type 0 where
  pub answer : r ≡ read sys fi e sheet
  pub buffer : after ≡ sheet_after sys fi e sheet
  pub demand1 : (r.number ≡ 0 → ⊥) → Unread r sheet after
  pub accepted : known sys ≡ true → Accepts sys fi e sheet r after

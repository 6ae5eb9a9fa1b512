-- The parts of reading, as the contracts of module `reading` say them: what the user bytes hold, then 17.
--
-- In order: 17, and what is given back; what the user bytes hold.
-- Assumes nothing.
use Rattle.std.specs.Prelude.{ℕ, ◌≤◌, ◌≡◌, List, leb, length, take, Result, Ok, Err, IfOk}
use Rattle.rules.specs.Packet.{Packet}
use Rattle.rules.specs.Danc.{string_byte_count}
use Rattle.rules.specs.Sheet.{sheet_of}
use Rattle.rules.specs.Numbers.{Outcome, listed, refused, unless, and_then}
use Rattle.rules.specs.Refusals.{number, told_of}
use Rattle.rules.specs.Reading.{read_back_of, buffer_of}
use Rattle.rules.specs.declared.ReadBack.{ReadBack}
use Rattle.rules.specs.declared.Refused.{Refused}
use Rattle.sheet.specs.Write.{shown}
use Rattle.danc.specs.declared.Validated.{Validated}
use Rattle.danc.specs.Answer.{answer_of}
use Rattle.vanc.specs.declared.reading.Found.{Found}

-- ---- 17, and what is given back

-- "then 17": the sheet is longer than its buffer
abbrev pub with_room : ℕ → ℕ → Outcome → Outcome
with_room sys room o = and_then o (λ (ps : List Packet). unless 17 (leb (length (sheet_of sys ps)) room) (listed ps))

-- what is given back of an outcome and then 17, and the sheet buffer afterwards
pub record Back (sys k : ℕ) (sheet : List ℕ) (o : Outcome) (r : ReadBack) (after : List ℕ) : Type 0 where
  pub answer : r ≡ read_back_of sys k (with_room sys (length sheet) o)
  pub buffer : after ≡ buffer_of sys sheet (with_room sys (length sheet) o)

-- a result as it is given back
abbrev pub back_of : Result ReadBack Refused → ReadBack
back_of (Ok r) = r
back_of (Err e) = read_back_of 0 0 (refused (number e.refusal) e.place)

-- ---- what the user bytes hold

-- the answer is an outcome's, and the string of its packets stands in front of the bytes
pub record Shows (o : Outcome) (r : Result Validated Refused) (us : List ℕ) : Type 0 where
  pub answer : told_of r ≡ answer_of 0 0 o
  pub short : (ps : List Packet) → o ≡ listed ps → string_byte_count ps ≤ length us
  pub string : (ps : List Packet) → o ≡ listed ps → shown (take (string_byte_count ps) us) ≡ listed ps

abbrev pub string_in : Result Found Refused → Result Validated Refused
string_in (Ok f) = Ok f.string
string_in (Err e) = Err e

-- and the packing that is found is k
pub record Finds (k : ℕ) (o : Outcome) (r : Result Found Refused) (us : List ℕ) : Type 0 where
  pub shows : Shows o (string_in r) us
  pub packing : IfOk r (λ (f : Found). f.packing ≡ k)

-- What the tests of a sheet tell: its header, or the refusal. The packets of its words are tested in either of two ways.
-- Assumes nothing.
use Rattle.std.specs.Prelude.{ℕ, ◌≡◌, List, Result, Ok, Err}
use Rattle.rules.specs.Systems.{known, system}
use Rattle.rules.specs.Packet.{Packet}
use Rattle.rules.specs.Sheet.{system_in, words_in}
use Rattle.rules.specs.Numbers.{Outcome, refused, unless}
use Rattle.rules.specs.Laying.{shaped, list_tests_by}
use Rattle.rules.specs.Refusals.{number, Told}
use Rattle.rules.specs.declared.Refused.{Refused}
use Rattle.rules.specs.declared.Tested.{Tested}
use Rattle.packet.specs.Tests.{packets_by, counts_of, told_by, WordLaws}
use Rattle.sheet.specs.declared.Header.{Header}

-- one location is refused, whatever would follow; its number names no word
pub record Misplaced (e : Refused) (o : Outcome) : Type 0 where
  pub outcome : o ≡ refused (number e.refusal) e.place
  pub word : (fault : List ℕ → ℕ) (packet : List ℕ → Packet) (word : ℕ → List ℕ → ℕ) → WordLaws fault packet word
      → (s : List ℕ) → word (number e.refusal) s ≡ e.word

-- "Header: system, packets, string bytes, packs in packing 1."
abbrev pub header_of : ℕ → List Packet → Header
header_of sys ps = record { system = sys; counts = counts_of ps }

-- "the tests 2, 3, 5 to 11", 20 among them, with any reader of the words
abbrev pub sheet_tests_by : (List ℕ → Outcome) → List ℕ → Outcome
sheet_tests_by packets s = unless 2 (shaped s) (unless 3 (known (system_in s)) (list_tests_by packets (system (system_in s)) s))

-- what is told of a sheet
abbrev pub told_sheet : (List ℕ → ℕ) → (List ℕ → Packet) → (ℕ → List ℕ → ℕ) → List ℕ → Result Header Told
told_sheet fault packet word s = told_by word (header_of (system_in s)) (words_in s) (sheet_tests_by (packets_by fault packet) s)

-- as it is given back: a refusal, with its word, or the header
abbrev pub tested_from : Result Header Refused → Tested
tested_from (Ok h) =
    record {
      number = 0;
      place = 0;
      word = 0;
      system = h.system;
      packets = h.counts.packets;
      bytes = h.counts.bytes;
      packs = h.counts.packs;
    }
tested_from (Err e) =
    record { number = number e.refusal; place = e.place; word = e.word; system = 0; packets = 0; bytes = 0; packs = 0 }

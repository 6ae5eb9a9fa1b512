-- What the tests of a sheet as found give back.
-- Assumes nothing.
use Rattle.std.specs.Prelude.{ℕ, ◌≡◌, List, Result, Ok}
use Rattle.rules.specs.Packet.{Packet}
use Rattle.rules.specs.Sheet.{system_in, words_in}
use Rattle.rules.specs.Found.{found_word_at, found_tests, SheetFound}
use Rattle.rules.specs.Refusals.{Told, told_of}
use Rattle.rules.specs.declared.Refused.{Refused}
use Rattle.packet.specs.Tests.{told_by}

-- the system of a sheet that passes, or a refusal and its word (document 02, A2), where its place counts the packets of these words
unfoldable pub checked : List ℕ → Result ℕ Told
checked s = told_by found_word_at (λ (ps : List Packet). system_in s) (words_in s) (found_tests s)

-- the sheet of a list as found within the packet limit passes, and no other sheet passes
pub record ChecksFound (s : List ℕ) (r : Result ℕ Refused) : Type 0 where
  pub answer : told_of r ≡ checked s
  pub passes : (sys : ℕ) (ps : List Packet) → SheetFound sys ps s → r ≡ Ok sys
  pub only : (sys : ℕ) → r ≡ Ok sys → (ps : List Packet) × SheetFound sys ps s

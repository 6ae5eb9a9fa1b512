-- The tests of an export as found, and what writing gives back: "ten-bit export takes them as found and tests as A1".
-- Assumes nothing.
use Rattle.std.specs.Prelude.{ℕ, Bool, List, length}
use Rattle.rules.specs.Sheet.{system_in, words_in}
use Rattle.rules.specs.Numbers.{Outcome, and_then}
use Rattle.rules.specs.Found.{found_tests, found_word_in}
use Rattle.mxf.specs.Writing.{export, with_room_for, written_by, written_with, laid_by}
use Rattle.mxf.specs.declared.ElementWritten.{ElementWritten}
use Rattle.mxf10.specs.Element.{element_of}

-- the lister's as found, 18, 17. `room` is how many bytes the element buffer holds
unfoldable pub writing : Bool → List ℕ → ℕ → Outcome
writing fi s room = with_room_for (element_of (system_in s)) room (and_then (found_tests s) (export (system_in s) fi))

-- number, place, packets served, element bytes; on refusal the later figures are 0
abbrev pub written_of : ℕ → Outcome → ElementWritten
written_of sys o = written_by (element_of sys) o

-- the word after the place, where a refusal's place counts the packets of these words (document 02, A2)
abbrev pub written_in : ℕ → List ℕ → Outcome → ElementWritten
written_in sys ws o = written_with (found_word_in ws o) (written_of sys o)

abbrev pub element_in : ℕ → List ℕ → Outcome → List ℕ
element_in sys buffer o = laid_by (element_of sys) buffer o

-- what writing gives back, and the element buffer afterwards
unfoldable pub write : Bool → List ℕ → List ℕ → ElementWritten
write fi s buffer = written_in (system_in s) (words_in s) (writing fi s (length buffer))

unfoldable pub element_after : Bool → List ℕ → List ℕ → List ℕ
element_after fi s buffer = element_in (system_in s) buffer (writing fi s (length buffer))

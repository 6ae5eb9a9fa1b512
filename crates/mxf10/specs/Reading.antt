-- The tests of an element of ten-bit samples, and what reading gives back: 3, 19, 20, 5, 17, as those of an element of 8-bit samples.
-- Assumes nothing.
use Rattle.std.specs.Prelude.{ℕ, Bool, List, length}
use Rattle.rules.specs.Numbers.{Outcome}
use Rattle.rules.specs.Reading.{buffer_of}
use Rattle.mxf.specs.Element.{ten}
use Rattle.mxf.specs.Judging.{judged_as}
use Rattle.mxf.specs.Reading.{reading_of, read_of}
use Rattle.mxf.specs.declared.ElementRead.{ElementRead}

-- the packets of an element, or 19
abbrev pub judged : ℕ → Bool → List ℕ → Outcome
judged sys fi e = judged_as ten sys fi e

unfoldable pub reading : ℕ → Bool → List ℕ → ℕ → Outcome
reading sys fi e room = reading_of sys (judged sys fi e) room

-- what reading gives back, and the sheet buffer afterwards
unfoldable pub read : ℕ → Bool → List ℕ → List ℕ → ElementRead
read sys fi e buffer = read_of sys (reading sys fi e (length buffer))

unfoldable pub sheet_after : ℕ → Bool → List ℕ → List ℕ → List ℕ
sheet_after sys fi e buffer = buffer_of sys buffer (reading sys fi e (length buffer))

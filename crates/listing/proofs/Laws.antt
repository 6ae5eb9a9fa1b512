-- The lister's tests of a file are those of the sheet in it, and the word that a refusal names is the sheet's.
-- Assumes nothing.
use Prim.Native.Nat.{ℕ, ◌%◌}
use mathlib.Core.Path.{◌≡◌, refl, ◌∙◌}
use mathlib.Core.Bool.{Bool, true, false, cond, ◌&&◌}
use mathlib.Core.List.{List, []}
use lib.Dec.{eqb, leb}
use lib.ListN.{length}
use Rattle.rules.specs.Sheet.{system_in, words_in}
use Rattle.rules.specs.Numbers.{Outcome, unless}
use Rattle.rules.specs.Laying.{word_at, shaped, sheet_tests}
use Rattle.rules.specs.Lister.{tested_in, tested, numbers_of, listing}
use Rattle.rules.specs.Demands.{Tests}
use Rattle.rules.specs.declared.Tested.{Tested}
use Rattle.sheet_file.specs.Files.{is_whole, sheet_in}

-- what the tests of the sheet s say, where they come to o
abbrev said : List ℕ → Outcome → Tested
said s o = tested_in (system_in s) (words_in s) o

-- a file of a wrong length is 2, which names no word, and so is the sheet without numbers
pub file-tested : (file : List ℕ) (s : List ℕ) (r : Tested) → s ≡ sheet_in file → Tests s r
    → r ≡ said (numbers_of file) (listing file)
unfolding is_whole sheet_in listing tested sheet_tests shaped word_at
file-tested file s r e t = t.answer ∙ rw e (go (leb (length file) 65536 && eqb (length file % 2) 0))
  where
    go : (b : Bool) → said (cond b (numbers_of file) []) (sheet_tests (cond b (numbers_of file) []))
        ≡ said (numbers_of file) (unless 2 b (sheet_tests (numbers_of file)))
    go true = refl
    go false = refl

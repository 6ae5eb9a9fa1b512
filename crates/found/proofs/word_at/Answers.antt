-- 8 names the first word over 3FFh, and every other number what it names anywhere.
use native.Mathlib.Omega.{arith}
use mathlib.Core.Path.{◌≡◌}
use mathlib.Core.Bool.{false}
use lib.Dec.{eqb}
use Rattle.rules.specs.Found.{found_word_at}
use Rattle.rules.specs.Refusals.{number}
use Rattle.rules.specs.declared.Refusal.{Refusal}
use Rattle.rules.specs.declared.Refusal.TheVariants.{Word}
use Rattle.found.proofs.word_at.Goals as goal

not-eight : (r : Refusal) → (r ≡ Word → ⊥) → eqb (number r) 8 ≡ false
not-eight r h = grind arith

pub returns-in-Word : goal.returns-in-Word
unfolding found_word_at
returns-in-Word c = rw c.in-Word.is c.over_word.ensures

pub returns-in_default : goal.returns-in_default
unfolding found_word_at
returns-in_default c = rw (not-eight c.args.refusal c.in_default.not-Word) c.refused_word.ensures

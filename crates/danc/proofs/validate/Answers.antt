-- Out of the bounds nothing is asked; within them it is the run in front, and what follows it.
use Rattle.std.proofs.Common.{sym, ap, ◌∙◌, arith}
use mathlib.Core.Logic.{⊎_elim}
use Rattle.rules.specs.Sheet.{limit}
use Rattle.frame.specs.Lines.{lines_of}
use Rattle.danc.proofs.validate.Goals as goal

pub returns-then-end-gt-LONGEST : goal.returns-then-end-gt-LONGEST
unfolding limit
returns-then-end-gt-LONGEST c y e w =
    absurd
    (⊎_elim
    (λ h. omega (arith, w.short))
    (λ g. ⊎_elim (λ h. omega (arith, w.place)) (λ h. omega (arith, w.packet)) g)
    c.then-end-gt-LONGEST.either)

pub stop_of-requires : goal.stop_of-requires
unfolding limit
stop_of-requires c = record { short = omega arith; place = omega arith; packet = omega arith }

pub sound_run-run-requires : goal.sound_run-run-requires
unfolding limit
sound_run-run-requires c = (record { short = omega arith; place = omega arith; packet = omega arith }, c.stop_of.ensures)

pub packets_from-requires : goal.packets_from-requires
packets_from-requires c = c.sound_run-run.ensures.within

pub returns : goal.returns
returns c y e w = c.packets_from.ensures y e ∙ c.sound_run-run.ensures.same y (c.lines_of-lines.ensures ∙ ap lines_of (sym e)) _

-- An area that is not the system's is left alone, and the user bytes of one that is are laid into its rows in laying order.
use Rattle.std.proofs.Common.{arith}
use mathlib.Core.Path.{sym, ◌∙◌}
use Rattle.frame.proofs.Order.{no-system, other_length, none_in, own-area, own-few, own-requires, own-fits, own_in}
use Rattle.frame.proofs.spread.Goals as goal

pub returns-in_default : goal.returns-in_default
returns-in_default c =
    let n = none_in c.args.system c.args.us.now c.args.area.now (no-system _ _ (sym c.in_default.is ∙ c.figures_of.ensures)) in
    record { value = n.0; area_after = n.1 }

pub returns-then-area-figures : goal.returns-then-area-figures
returns-then-area-figures c =
    let n =
    none_in c.args.system c.args.us.now c.args.area.now
    (other_length _ _ _ (sym c.in-Some.is ∙ c.figures_of.ensures) c.if-area-figures.true)
    in
    record { value = n.0; area_after = n.1 }

pub overflow_mul-n : goal.overflow_mul-n
overflow_mul-n c =
    omega (arith, own-few _ _ _ (own-area c.args.system _ c.args.area.now (sym c.in-Some.is ∙ c.figures_of.ensures) c.if-area-figures.false))

pub rows_in-requires : goal.rows_in-requires
rows_in-requires c =
    let r = own-requires _ _ _ (own-area c.args.system _ c.args.area.now (sym c.in-Some.is ∙ c.figures_of.ensures) c.if-area-figures.false) in
    (omega arith, omega arith, omega arith)

pub returns : goal.returns
returns c =
    let o = own-area c.args.system _ c.args.area.now (sym c.in-Some.is ∙ c.figures_of.ensures) c.if-area-figures.false in
    record { value = sym (own-fits _ _ _ o); area_after = own_in _ _ _ o _ _ c.rows_in.ensures }

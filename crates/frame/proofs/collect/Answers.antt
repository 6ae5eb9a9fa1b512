-- An area that is not the system's is left alone, and the rows of one that is are its user bytes in laying order.
use Rattle.std.proofs.Common.{arith}
use mathlib.Core.Path.{sym, ◌∙◌}
use Rattle.frame.proofs.Order.{no-system, other_length, none_out, Own, own-area, own-few, own-requires, own-count, own_out}
use Rattle.frame.proofs.collect.Goals as goal

-- past the tests the area is the system's own
own : (c : goal.Else-area-figures) → Own c.args.system c.in-Some.figures.sequences c.args.area.now
own c = own-area _ _ _ (sym c.in-Some.is ∙ c.figures_of.ensures) c.if-area-figures.false

pub returns-in_default : goal.returns-in_default
returns-in_default c =
    let n = none_out c.args.system c.args.area.now c.args.us.now (no-system _ _ (sym c.in_default.is ∙ c.figures_of.ensures)) in
    record { value = n.0; us_after = n.1 }

pub returns-then-area-figures : goal.returns-then-area-figures
returns-then-area-figures c =
    let n =
    none_out c.args.system c.args.area.now c.args.us.now
    (other_length _ _ _ (sym c.in-Some.is ∙ c.figures_of.ensures) c.if-area-figures.true)
    in
    record { value = n.0; us_after = n.1 }

pub overflow_mul-n : goal.overflow_mul-n
overflow_mul-n c = omega (arith, own-few _ _ _ (own c))

pub rows_out-requires : goal.rows_out-requires
rows_out-requires c =
    let r = own-requires _ _ _ (own-area c.args.system _ c.args.area.now (sym c.in-Some.is ∙ c.figures_of.ensures) c.if-area-figures.false) in
    (omega arith, omega arith, omega arith)

pub overflow_mul-result : goal.overflow_mul-result
overflow_mul-result c =
    omega (arith, own-few _ _ _ (own-area c.args.system _ c.args.area.now (sym c.in-Some.is ∙ c.figures_of.ensures) c.if-area-figures.false))

pub returns : goal.returns
returns c =
    let o = own-area c.args.system _ c.args.area.now (sym c.in-Some.is ∙ c.figures_of.ensures) c.if-area-figures.false in
    record { value = own-count _ _ _ o; us_after = own_out _ _ _ o _ _ c.rows_out.ensures }

-- `sheet::is_shaped` meets its contract, a test at a time. Assumes nothing.
use mathlib.Core.Logic.{⊎_elim}
use native.Mathlib.Omega.{arith}
use borrow.Author.Rules.{rules}
use Rattle.sheet.proofs.Laws.{not-one, ends-early, follows}
use Rattle.sheet.proofs.is_shaped.Statement.{statement}
use Rattle.sheet.proofs.is_shaped.Tie as tie

shared-slice-read-if2 : tie.Need-bounds-s-0
shared-slice-read-if2 c = search rules

returns : tie.Need-returns-then-s-lt4
returns c = ⊎_elim (λ w. ends-early _ (omega arith)) (λ w. not-one _ w.if-s-ne1.true-raw) c.then-s-lt4.branch-raw

shared-slice-read-wide : tie.Need-bounds-s-2
shared-slice-read-wide c = search rules

wide-requires : tie.Need-wide-requires
wide-requires c κs = search rules

mul-first : tie.Need-overflow_mul-first
mul-first c = search rules

add-first : tie.Need-overflow_add-first
add-first c = search rules

returns-2 : tie.Need-returns-then-s-first
returns-2 c = let p = c.before.wide.ensures.0 in ends-early _ (omega arith)

sub-w : tie.Need-overflow_sub-w
sub-w c = search rules

mul_wide : tie.Need-offset_bounds-s-w
mul_wide c = search rules

shared-slice-read-wide-2 : tie.Need-bounds-s-w
shared-slice-read-wide-2 c = search rules

wide-requires-2 : tie.Need-wide-requires-2
wide-requires-2 c κs = search rules

add-result : tie.Need-overflow_add-result
add-result c = search rules

returns-3 : tie.Need-returns
returns-3 c =
    let b : tie.Else-s-first = c.before.before in
    follows _ _ _ b.before.before.before.if-s-ne1.false-raw b.before.wide.ensures.0 b.if-s-first.false c.wide-2.ensures.0

pub is_shaped_spec : {M : Type 1} → statement M
is_shaped_spec =
    tie.close
    (tie.spec
    shared-slice-read-if2
    returns
    shared-slice-read-wide
    wide-requires
    mul-first
    add-first
    returns-2
    sub-w
    mul_wide
    shared-slice-read-wide-2
    wide-requires-2
    add-result
    returns-3)

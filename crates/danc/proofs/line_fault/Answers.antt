-- LE 0; LE 1 with line 0, with a line past the last, with a line that is allowed or not.
use mathlib.Core.Logic.{⊎_elim}
use Rattle.std.proofs.Common.{true, false}
use Rattle.danc.proofs.Laws.{no_line, line-none, line-past, line-in}
use Rattle.danc.proofs.line_fault.Goals as goal

pub returns-then-h0-lt128 : goal.returns-then-h0-lt128
returns-then-h0-lt128 c y e = no_line y _ e _ _ c.if-h0-lt128.true

pub returns-then-line-eq0 : goal.returns-then-line-eq0
returns-then-line-eq0 c y e =
    let is = c.line_of-line.ensures in
    ⊎_elim
    (λ w. line-none y _ e _ _ c.if-h0-lt128.false (rw is at w))
    (λ w. line-past y _ e _ _ c.if-h0-lt128.false (rw is at w.0) (rw is at w.1))
    c.then-line-eq0.either

pub returns-then-may_stand : goal.returns-then-may_stand
returns-then-may_stand c y e =
    let is = c.line_of-line.ensures in
    line-in y _ e _ _ c.if-h0-lt128.false (rw is at c.if-line-eq0.false) (rw is at c.if-last-line.false) true
    (rw is at (c.if-may_stand.ensures y e))

pub returns : goal.returns
returns c y e =
    let is = c.line_of-line.ensures in
    line-in y _ e _ _ c.if-h0-lt128.false (rw is at c.if-line-eq0.false) (rw is at c.if-last-line.false) false
    (rw is at (c.if-may_stand.ensures y e))

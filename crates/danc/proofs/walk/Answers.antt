-- An unknown system; the end; a packet; a refusal.
use Rattle.std.proofs.Common.{refl, sym, ◌∙◌}
use Rattle.frame.proofs.Laws.{last-is, found_known, found_is, found_none}
use Rattle.danc.proofs.Laws.{is-some, step-unknown, step_end, step-fault, step-packet}
use Rattle.danc.proofs.walk.Goals as goal

pub returns-in_default : goal.returns-in_default
returns-in_default c = c.answer.ensures ∙ step-unknown _ _ _ (found_none _ c.in_default.ensures)

pub returns-then-string-place : goal.returns-then-string-place
returns-then-string-place c =
    c.answer-then-string-place.ensures ∙ step_end _ _ _ (found_known _ _ c.in-Some.ensures) c.if-string-place.true

pub returns-in-Ok : goal.returns-in-Ok
returns-in-Ok c =
    let last = sym (last-is _ _ (found_is _ _ c.in-Some.ensures)) in
    c.answer-in-Ok.ensures
    ∙ step-packet _ _ _ (found_known _ _ c.in-Some.ensures) c.if-string-place.false _ (c.in-Ok.ensures.number _ last) refl _
    c.in-Ok.ensures.size.0

pub returns-in-Err : goal.returns-in-Err
returns-in-Err c =
    let last = sym (last-is _ _ (found_is _ _ c.in-Some.ensures)) in
    rw c.number.ensures at c.answer-in-Err.ensures
    ∙ step-fault _ _ _ (found_known _ _ c.in-Some.ensures) c.if-string-place.false _ (c.in-Err.ensures.number _ last)
    (is-some c.in-Err.refusal)

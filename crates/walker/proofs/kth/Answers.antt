-- `walker::kth` meets its contract: an answer without a length is the k-th at once, and else there are k turns.
-- Assumes nothing.
use Rattle.std.proofs.Common.{◌≡◌, sym, ap, ◌∙◌, arith}
use Rattle.rules.specs.Walker.{place_of, answer}
use Rattle.rules.specs.declared.Step.{Step}
use Rattle.walker.specs.Moved.{walked_on}
use Rattle.walker.specs.declared.Walked.{Walked}
use Rattle.walker.proofs.Laws.{on-next, answer-last}
use Rattle.walker.proofs.kth.Goals as goal

pub loop-init : goal.loop-init
unfolding place_of
loop-init c = c.next-walked.ensures

pub returns-then-walked-eq0 : goal.returns-then-walked-eq0
unfolding answer
returns-then-walked-eq0 c =
    let l = c.loop in
    let e = ap (λ (w : Walked). w.answer) l.invariant in
    e ∙ answer-last _ _ l.counter _ l.auto.counter-end (ap (λ (t : Step). t.length) (sym e) ∙ c.if-walked-eq0.true)

pub loop-preserved : goal.loop-preserved
loop-preserved c =
    let l = c.loop in
    c.next-walked-in-loop.ensures ∙ ap (walked_on _ _) (on-next _ _ l.counter l.walked l.invariant)

pub returns : goal.returns
unfolding answer
returns c =
    let l = c.loop in
    let e : l.counter ≡ c.args.k = omega arith in
    ap (λ (w : Walked). w.answer) l.invariant ∙ ap (answer _ _) e

-- The end; 5; one packet and the string behind it; a fault.
use Rattle.std.proofs.Common.{refl, ap, ◌∙◌, Err, arith}
use Rattle.rules.specs.Sheet.{limit}
use Rattle.danc.proofs.Laws.{is-some}
use Rattle.danc.proofs.Validation.{at-end, at-limit, at-fault, at_next}
use Rattle.danc.proofs.+packets_from.Goals as goal

pub returns-then-ends : goal.returns-then-ends
returns-then-ends t c y e = at-end y _ c.args.us.now c.args.end c.args.run.end _ c.if-ends.ensures

pub returns-then-k-eq-LIMIT : goal.returns-then-k-eq-LIMIT
unfolding limit
returns-then-k-eq-LIMIT t c y e =
    ap (λ x. Err x) c.refused.ensures ∙ at-limit y _ c.args.us.now c.args.end c.args.run.end _ c.if-ends.ensures c.if-k-eq-LIMIT.true

pub one_more-requires : goal.one_more-requires
unfolding limit
one_more-requires t c =
    let w = c.requires in
    let s = c.in-Ok.ensures.size in
    (omega (arith, w.packet), omega (arith, w.short, w.place))

pub packets_from-requires : goal.packets_from-requires
unfolding limit
packets_from-requires t c =
    let w = c.requires in
    let s = c.in-Ok.ensures.size in
    let m = c.one_more.ensures in
    (omega arith, record { short = w.short; place = omega arith; packet = omega (arith, w.packet) })

pub returns-in-Ok : goal.returns-in-Ok
unfolding limit
returns-in-Ok t c y e =
    rw (c.one_more.ensures.0, c.one_more.ensures.1) at (c.packets_from.ensures y e)
    ∙ at_next y _ c.args.us.now c.args.end c.args.run.end _ c.if-ends.ensures c.requires.packet c.if-k-eq-LIMIT.false _
    (c.in-Ok.ensures.number y e) refl _ c.in-Ok.ensures.size.0

pub returns-in-Err : goal.returns-in-Err
unfolding limit
returns-in-Err t c y e =
    ap (λ x. Err x) c.refused-in-Err.ensures
    ∙ at-fault y _ c.args.us.now c.args.end c.args.run.end _ c.if-ends.ensures c.requires.packet c.if-k-eq-LIMIT.false _
    (c.in-Err.ensures.number y e) (is-some c.in-Err.refusal)

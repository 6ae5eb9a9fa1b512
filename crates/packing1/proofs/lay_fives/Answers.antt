-- A packet more, and all packets. Assumes nothing.
use Rattle.std.proofs.Common.{◌+◌, ◌∙◌, ap, arith}
use mathlib.Core.Path.{ap₂}
use Rattle.sections.proofs.Laws.{next-pair, pairs-end, head_byte0, head_byte1}
use Rattle.packing1.proofs.Laws.{fives-begin, fives-inside, fives-next, fives-turn, fives-done}
use Rattle.packing1.proofs.lay_fives.Goals as goal

pub loop-pair-init : goal.loop-pair-init
loop-pair-init c = (omega arith, record { place = 0; is = cc; two = cc; so = fives-begin })

pub bounds-ws-at : goal.bounds-ws-at
bounds-ws-at c =
    let w = c.loop-pair.invariant.1 in
    let p = next-pair w _ _ c.in-Some.ensures.steps.1 in
    let i = fives-inside w.so (omega (arith, p.within)) c.requires in
    omega (arith, i.0)

pub slice_bounds-words-end : goal.slice_bounds-words-end
slice_bounds-words-end c =
    let w = c.loop-pair.invariant.1 in
    let p = next-pair w _ _ c.in-Some.ensures.steps.1 in
    let i = fives-inside w.so (omega (arith, p.within)) c.requires in
    omega (arith, i.0, c.low_byte-dc.ensures)

pub lay_packet-o-requires : goal.lay_packet-o-requires
lay_packet-o-requires c =
    let w = c.loop-pair.invariant.1 in
    let p = next-pair w _ _ c.in-Some.ensures.steps.1 in
    let n = fives-next w.so (omega (arith, p.within)) c.requires c.low_byte-dc.result c.low_byte-dc.ensures in
    (omega (arith, n.long), n.room)

pub loop-pair-preserved : goal.loop-pair-preserved
loop-pair-preserved c =
    let w = c.loop-pair.invariant.1 in
    let p = next-pair w _ _ c.in-Some.ensures.steps.1 in
    let n = fives-next w.so (omega (arith, p.within)) c.requires c.low_byte-dc.result c.low_byte-dc.ensures in (
      n.inside,
      record {
        place = w.place + 2;
        is = p.after;
        two = c.in-Some.ensures.steps.0 ∙ w.two;
        so = fives-turn w.so (omega (arith, p.within)) c.low_byte-dc.ensures (c.head0.ensures ∙ ap head_byte0 p.line)
            (c.head1.ensures ∙ ap₂ head_byte1 p.line p.flags) n.inside c.lay_packet-o.ensures;
      },
    )

pub returns : goal.returns
returns c =
    let w = c.loop-pair.invariant.1 in
    fives-done w.so (pairs-end w c.in-None.ensures.steps.1.0)

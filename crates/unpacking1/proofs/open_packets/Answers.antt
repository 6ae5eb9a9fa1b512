-- A turn opens one packet; it ends in 13, 14, the packet's own fault, or in one packet more.
use Rattle.std.proofs.Common.{arith, rules, sym, ap, ◌∙◌}
use Rattle.rules.specs.Base.{Bytes}
use Rattle.rules.specs.Refusals.{told_of}
use Rattle.unpacking1.proofs.Laws.{
  opening-none,
  opening-more,
  opening-ended,
  packet-left,
  size_below,
  below-limit,
  refused-packet,
  refused-other,
}
use Rattle.unpacking1.proofs.open_packets.Goals as goal

pub loop-last-init : goal.loop-last-init
loop-last-init c = opening-none _ _ _ c.requires c.told-us

-- 13 or 14
pub returns-in-Err : goal.returns-in-Err
returns-in-Err c = λ y e.
    rw c.placed.ensures
    (refused-packet c.loop-last.invariant (sym c.starts.ensures ∙ c.loop-last-test.true) c.in-Err.ensures y e)

pub judged-requires : goal.judged-requires
judged-requires c =
    let v = c.loop-last.invariant in
    let o = c.in-Ok.ensures in
    let d = c.wide.ensures.0 in
    let a = size_below v (sym c.starts.ensures ∙ c.loop-last-test.true) o d in
    let b = o.within in
    let l = v.size in
    let m = v.packs.all in
    (omega arith, omega arith)

-- 15, 16, 20, or 13 before them
pub returns-in-Err-judged : goal.returns-in-Err-judged
returns-in-Err-judged c = λ y e.
    let v = c.loop-last.invariant in
    let g = sym c.starts.ensures ∙ c.loop-last-test.true in
    let few = below-limit v (packet-left v g) in
    refused-other v g c.in-Ok.ensures c.wide.ensures.0 (λ y e. c.judged.ensures y e c.lines_of-lines.ensures few) c.in-Err-judged.fault
    (ap told_of (sym c.in-Err-judged.is)) c.refused.ensures y e

-- one packet more
pub loop-last-preserved : goal.loop-last-preserved
loop-last-preserved c =
    let v = c.loop-last.invariant in
    let g = sym c.starts.ensures ∙ c.loop-last-test.true in
    let few = below-limit v (packet-left v g) in
    let i = c.open_packet.array_long in
    let bytes : Bytes c.open_packet.new.us = λ i. search rules in
    opening-more v g c.in-Ok.ensures c.wide.ensures.0 (λ y e. c.judged.ensures y e c.lines_of-lines.ensures few)
    (ap told_of (sym c.in_default.is)) bytes
    (i ∙ sym v.size ∙ sym v.long)

-- no packet starts
pub returns : goal.returns
returns c = opening-ended c.loop-last.invariant (sym c.starts.ensures ∙ c.loop-last-test.false) c.ended.ensures

-- In a turn the packet at `at` is whole, and its words are written. Assumes nothing.
use Rattle.std.proofs.Common.{refl, ◌∙◌, arith}
use Rattle.sheet.proofs.WriteLaws.{pass}
use Rattle.sheet.proofs.write.Written.{words-of-bytes, wording-more, wording-all}
use Rattle.sheet.proofs.write.write_short_packets.Goals as goal

pub bounds-s-at : goal.bounds-s-at
bounds-s-at c =
    let p = pass c.args.s.now c.loop-at.at _ c.loop-at.invariant.whole c.loop-at-test.true refl in
    omega (arith, p.inside)

pub slice_bounds-write_packet-end : goal.slice_bounds-write_packet-end
slice_bounds-write_packet-end c =
    let p = pass c.args.s.now c.loop-at.at c.wide.result c.loop-at.invariant.whole c.loop-at-test.true c.wide.ensures.0 in
    omega (arith, p.inside)

pub loop-at-preserved : goal.loop-at-preserved
loop-at-preserved c =
    let s = c.args.s.now in
    let at = c.loop-at in
    let e = c.write_packet.ensures ∙ words-of-bytes s at.out at.at c.wide.result at.invariant c.loop-at-test.true c.wide.ensures.0 in
    wording-more s at.out at.at c.wide.result at.invariant c.loop-at-test.true c.wide.ensures.0 c.write_packet.new.out e

pub returns : goal.returns
returns c = wording-all c.args.s.now c.loop-at.out c.loop-at.at c.loop-at.invariant c.loop-at-test.false

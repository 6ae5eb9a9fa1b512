-- In a turn the packet at `at` is whole, and its words are written. Assumes nothing.
use Rattle.std.proofs.Common.{refl, ◌∙◌, arith}
use Rattle.sheet.proofs.WriteLaws.{pass}
use Rattle.sheet.proofs.write.Written.{words-of-coded, wording-more, coded-behind, wording-all}
use Rattle.sheet.proofs.write.write_packets.Goals as goal

pub bounds-s-at : goal.bounds-s-at
bounds-s-at c =
    let p = pass c.args.s.now c.loop-at.at _ c.loop-at.invariant.0.whole c.loop-at-test.true refl in
    omega (arith, p.inside)

pub slice_bounds-write_flag_and_cs-end : goal.slice_bounds-write_flag_and_cs-end
slice_bounds-write_flag_and_cs-end c =
    let p = pass c.args.s.now c.loop-at.at c.wide.result c.loop-at.invariant.0.whole c.loop-at-test.true c.wide.ensures.0 in
    omega (arith, p.inside, c.loop-at.invariant.0.long)

pub loop-at-preserved : goal.loop-at-preserved
loop-at-preserved c =
    let s = c.args.s.now in
    let at = c.loop-at in
    let was = at.invariant in
    let e = c.write_flag_and_cs.ensures ∙ words-of-coded s at.out at.at c.wide.result was.0 c.loop-at-test.true c.wide.ensures.0 was.1 in (
      wording-more s at.out at.at c.wide.result was.0 c.loop-at-test.true c.wide.ensures.0 c.write_flag_and_cs.new.out e,
      coded-behind s at.out at.at c.wide.result was.0 c.loop-at-test.true c.wide.ensures.0 c.write_flag_and_cs.new.out e was.1,
    )

pub returns : goal.returns
returns c = wording-all c.args.s.now c.loop-at.out c.loop-at.at c.loop-at.invariant.0 c.loop-at-test.false

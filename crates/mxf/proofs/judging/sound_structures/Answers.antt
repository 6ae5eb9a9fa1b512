-- A structure more, without a fault. Assumes nothing.
use Rattle.std.proofs.Common.{ℕ, ◌+◌, sym, ap, ◌∙◌, drop, arith}
use Rattle.mxf.specs.Judging.{two_in}
use Rattle.mxf.proofs.JudgingLaws.{array-least, beside-few, at_first, all_there, whole, samples-there, at_next}
use Rattle.mxf.proofs.Tens.{packet-long}
use Rattle.mxf.proofs.judging.sound_structures.Goals as goal

pub loop-k-init : goal.loop-k-init
loop-k-init g c =
    let a = c.args in
    record {
      few = omega arith;
      inside = omega arith;
      short = omega arith;
      same = λ e fi. at_first g.S.Samples.writer.coding a.system fi a.n a.s.now;
    }

pub loop-k-preserved : goal.loop-k-preserved
loop-k-preserved g c =
    let k = g.S.Samples.writer.coding in
    let a = c.args in
    let l = c.loop-k in
    let t = c.if-not-is_structure.false in
    let passed = c.is_structure.ensures.whole t in
    let there = all_there k l.at a.s.now passed l.invariant.inside in
    let room = samples-there k l.at a.s.now passed in
    let least = array-least k (two_in a.s.now (l.at + 4)) in
    let few = beside-few k in
    let b = c.BESIDE.ensures ∙ g.met.S.Samples.named.3 in
    let d = c.two.ensures.0 in
    let f = c.four.ensures.0 in
    let i = l.invariant in
    record {
      few = omega arith;
      inside = omega arith;
      short = omega arith;
      same = λ e fi.
          at_next k a.system fi a.n l.k l.at l.numbers a.s.now c.loop-k-test.true
          (c.is_structure.ensures.passes t a.system c.wrapping-wrapping.ensures e l.at)
          c.BESIDE.result
          (packet-long k a.system fi (drop l.at a.s.now) (whole k l.at a.s.now passed)
          ∙ ap (λ (m : ℕ). two_in (drop l.at a.s.now) 4 + m) (sym b))
          _ _ d f
          ∙ i.same e fi;
    }

-- The structures that have not been passed over, one after the other. Assumes nothing.
use Rattle.std.proofs.Common.{ℕ, ◌+◌, sym, ap, ◌∙◌, drop, arith}
use Rattle.std.proofs.lemmas.Result.{err_from_is_err_and}
use Rattle.mxf.specs.Judging.{two_in}
use Rattle.mxf.proofs.JudgingLaws.{array-least, beside-few, all_there, whole, samples-there, at-fault, at_next, at-surplus, at-end}
use Rattle.mxf.proofs.Tens.{packet-long}
use Rattle.mxf.proofs.judging.judge_structures.Goals as goal

pub returns-in_err-structure_fault : goal.returns-in_err-structure_fault
returns-in_err-structure_fault g c = λ e fi.
    let a = c.args in
    let l = c.loop-k in
    let p = err_from_is_err_and c.from_residual.result c.from_residual.ensures.1 in
    rw (p.1, p.2)
    (at-fault g.S.Samples.writer.coding a.system fi a.n l.k l.at l.numbers a.s.now c.loop-k-test.true _
    (c.in_err-structure_fault.ensures.fault e)
    ∙ l.invariant.same e fi)

pub loop-k-preserved : goal.loop-k-preserved
loop-k-preserved g c =
    let k = g.S.Samples.writer.coding in
    let a = c.args in
    let l = c.loop-k in
    let passed = c.in_ok-structure_fault.ensures.whole in
    let there = all_there k l.at a.s.now passed l.invariant.inside in
    let room = samples-there k l.at a.s.now passed in
    let least = array-least k (two_in a.s.now (l.at + 4)) in
    let few = beside-few k in
    let b = c.BESIDE.ensures ∙ g.met.S.Samples.named.3 in
    let d = c.two.ensures.0 in
    let f = c.four.ensures.0 in
    let i = l.invariant in
    record {
      few = omega arith;
      inside = omega arith;
      short = omega arith;
      same = λ e fi.
          at_next k a.system fi a.n l.k l.at l.numbers a.s.now c.loop-k-test.true (c.in_ok-structure_fault.ensures.fault e) c.BESIDE.result
          (packet-long k a.system fi (drop l.at a.s.now) (whole k l.at a.s.now passed)
          ∙ ap (λ (m : ℕ). two_in (drop l.at a.s.now) 4 + m) (sym b))
          _ _ d f
          ∙ i.same e fi;
    }

pub returns-then-at-s : goal.returns-then-at-s
returns-then-at-s g c = λ e fi.
    let a = c.args in
    let l = c.loop-k in
    let few = l.invariant.few in
    at-surplus g.S.Samples.writer.coding a.system fi a.n l.k l.at l.numbers a.s.now (omega arith) c.if-at-s.true ∙ l.invariant.same e fi

pub returns : goal.returns
returns g c = λ e fi.
    let a = c.args in
    let l = c.loop-k in
    let few = l.invariant.few in
    at-end g.S.Samples.writer.coding a.system fi a.n l.k l.at l.numbers a.s.now (omega arith) c.if-at-s.false ∙ l.invariant.same e fi

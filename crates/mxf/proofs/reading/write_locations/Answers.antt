-- The locations, one after the other. Assumes nothing.
use Rattle.std.proofs.Common.{arith}
use Rattle.mxf.proofs.Structures.{fi-small}
use Rattle.mxf.proofs.ReadingLaws.{turn, locating-more}
use Rattle.mxf.proofs.reading.write_locations.Goals as goal

pub two-requires : goal.two-requires
two-requires g c =
    let a = c.args in
    let l = c.loop-k in
    let t = turn g.S.Samples.writer.coding a.system a.fi a.n a.s.now l.k l.at l.invariant.left c.loop-k-test.true in
    let h = t.inside in
    omega arith

pub overflow_add-at : goal.overflow_add-at
overflow_add-at g c =
    let a = c.args in
    let l = c.loop-k in
    let t = turn g.S.Samples.writer.coding a.system a.fi a.n a.s.now l.k l.at l.invariant.left c.loop-k-test.true in
    let h = t.inside in
    omega arith

pub bounds-s-at : goal.bounds-s-at
bounds-s-at g c =
    let a = c.args in
    let l = c.loop-k in
    let t = turn g.S.Samples.writer.coding a.system a.fi a.n a.s.now l.k l.at l.invariant.left c.loop-k-test.true in
    let h = t.inside in
    omega arith

pub flags_of-requires : goal.flags_of-requires
flags_of-requires g c =
    let e = c.fi_of-first.ensures in
    let h = fi-small c.args.system c.args.fi in
    omega arith

pub overflow_add-at-in-loop-k : goal.overflow_add-at-in-loop-k
overflow_add-at-in-loop-k g c =
    let a = c.args in
    let l = c.loop-k in
    let t = turn g.S.Samples.writer.coding a.system a.fi a.n a.s.now l.k l.at l.invariant.left c.loop-k-test.true in
    let h = t.inside in
    omega arith

pub four-requires : goal.four-requires
four-requires g c =
    let a = c.args in
    let l = c.loop-k in
    let t = turn g.S.Samples.writer.coding a.system a.fi a.n a.s.now l.k l.at l.invariant.left c.loop-k-test.true in
    let h = t.inside in
    omega arith

pub overflow_add-at-in-loop-k-3 : goal.overflow_add-at-in-loop-k-3
overflow_add-at-in-loop-k-3 g c =
    let a = c.args in
    let l = c.loop-k in
    let t = turn g.S.Samples.writer.coding a.system a.fi a.n a.s.now l.k l.at l.invariant.left c.loop-k-test.true in
    let h = t.inside in
    let e = c.four.ensures.0 in
    omega arith

pub loop-k-preserved : goal.loop-k-preserved
loop-k-preserved g c =
    let a = c.args in
    let l = c.loop-k in
    locating-more g.S.Samples.writer.coding a.system a.fi a.n a.s.now l.out l.k l.at c.fi_of-first.result c.two.result c.flags_of.result
    c.four.result l.invariant c.loop-k-test.true c.fi_of-first.ensures c.two.ensures.0 c.flags_of.ensures c.four.ensures.0

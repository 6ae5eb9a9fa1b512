-- The lines, one after the other. Assumes nothing.
use Rattle.std.proofs.Common.{sym, ◌∙◌, arith}
use Rattle.mxf.proofs.ReadingLaws.{turn, allowing-all, allowing-stop, allowing-more}
use Rattle.mxf.proofs.reading.allowed.Goals as goal

pub two-requires : goal.two-requires
two-requires c =
    let a = c.args in
    let l = c.loop-k in
    let r = c.requires in
    let t = turn r.coding r.sys r.fi a.n a.s.now l.k l.at (l.invariant r).left c.loop-k-test.true in
    let h = t.inside in
    omega arith

pub returns-then-not-may_stand : goal.returns-then-not-may_stand
returns-then-not-may_stand c = λ t y e.
    let a = c.args in
    let l = c.loop-k in
    allowing-stop t.coding t.sys t.fi a.n a.s.now a.last.0 l.k l.at c.two.result (l.invariant t) c.loop-k-test.true c.two.ensures.0 y e
    (sym (c.may_stand.ensures y e) ∙ c.if-not-may_stand.true)

pub overflow_add-at : goal.overflow_add-at
overflow_add-at c =
    let a = c.args in
    let l = c.loop-k in
    let r = c.requires in
    let t = turn r.coding r.sys r.fi a.n a.s.now l.k l.at (l.invariant r).left c.loop-k-test.true in
    let h = t.inside in
    omega arith

pub four-requires : goal.four-requires
four-requires c =
    let a = c.args in
    let l = c.loop-k in
    let r = c.requires in
    let t = turn r.coding r.sys r.fi a.n a.s.now l.k l.at (l.invariant r).left c.loop-k-test.true in
    let h = t.inside in
    omega arith

pub overflow_add-at-in-loop-k-2 : goal.overflow_add-at-in-loop-k-2
overflow_add-at-in-loop-k-2 c =
    let a = c.args in
    let l = c.loop-k in
    let r = c.requires in
    let t = turn r.coding r.sys r.fi a.n a.s.now l.k l.at (l.invariant r).left c.loop-k-test.true in
    let h = t.inside in
    let e = c.four.ensures.0 in
    omega arith

pub loop-k-preserved : goal.loop-k-preserved
loop-k-preserved c = λ t.
    let a = c.args in
    let l = c.loop-k in
    allowing-more t.coding t.sys t.fi a.n a.s.now a.last.0 l.k l.at c.two.result (l.invariant t) c.loop-k-test.true c.two.ensures.0
    (λ y e. sym (c.may_stand.ensures y e) ∙ c.if-not-may_stand.false) c.four.result c.four.ensures.0

pub returns : goal.returns
returns c = λ t y e.
    let a = c.args in
    let l = c.loop-k in
    let few = (l.invariant t).few in
    let d = allowing-all t.coding t.sys t.fi a.n a.s.now a.last.0 l.k l.at (l.invariant t) c.loop-k-test.false y e in
    omega arith

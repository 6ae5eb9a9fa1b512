-- The words of the packets, one after the other. Assumes nothing.
use Rattle.std.proofs.Common.{ℕ, ◌+◌, length, refl, ap, ◌∙◌, length-drop, arith}
use Rattle.rules.proofs.Basics.{rest_part}
use Rattle.mxf.specs.Judging.{array_for}
use Rattle.mxf.proofs.ReadingLaws.{turn, wording-all, words-room, words-more}
use Rattle.mxf.proofs.reading.write_packets.Goals as goal

pub overflow_add-at : goal.overflow_add-at
overflow_add-at g c =
    let a = c.args in
    let l = c.loop-k in
    let r = c.requires in
    let t = turn g.S.Samples.writer.coding r.sys r.fi a.n a.s.now l.k l.at (l.invariant r).left c.loop-k-test.true in
    let h = t.inside in
    omega arith

pub two-samples-requires : goal.two-samples-requires
two-samples-requires g c =
    let a = c.args in
    let l = c.loop-k in
    let r = c.requires in
    let t = turn g.S.Samples.writer.coding r.sys r.fi a.n a.s.now l.k l.at (l.invariant r).left c.loop-k-test.true in
    let h = t.inside in
    omega arith

pub overflow_add-from : goal.overflow_add-from
overflow_add-from g c =
    let a = c.args in
    let l = c.loop-k in
    let r = c.requires in
    let t = turn g.S.Samples.writer.coding r.sys r.fi a.n a.s.now l.k l.at (l.invariant r).left c.loop-k-test.true in
    let h = t.inside in
    omega arith

pub slice_bounds-write_words-count : goal.slice_bounds-write_words-count
slice_bounds-write_words-count g c =
    let a = c.args in
    let l = c.loop-k in
    let r = c.requires in
    let t = turn g.S.Samples.writer.coding r.sys r.fi a.n a.s.now l.k l.at (l.invariant r).left c.loop-k-test.true in
    let h = t.inside in
    omega arith

pub slice_bounds-write_words-start : goal.slice_bounds-write_words-start
slice_bounds-write_words-start g c =
    let a = c.args in
    let l = c.loop-k in
    let r = c.requires in
    let t = turn g.S.Samples.writer.coding r.sys r.fi a.n a.s.now l.k l.at (l.invariant r).left c.loop-k-test.true in
    let h = t.inside in
    omega arith

pub slice_bounds-write_words-end-in-loop-k : goal.slice_bounds-write_words-end-in-loop-k
slice_bounds-write_words-end-in-loop-k g c =
    let a = c.args in
    let l = c.loop-k in
    let r = c.requires in
    let m =
    words-room g.S.Samples.writer.coding r.sys r.fi a.n a.s.now l.out l.k l.at l.o (l.invariant r) c.loop-k-test.true in
    let b = c.BESIDE.ensures ∙ g.met.S.Samples.named.3 in
    let e = c.two-samples.ensures.0 in
    omega arith

pub write_words-requires-clause-room : goal.write_words-requires-clause-room
write_words-requires-clause-room g c =
    let a = c.args in
    let l = c.loop-k in
    let r = c.requires in
    let t = turn g.S.Samples.writer.coding r.sys r.fi a.n a.s.now l.k l.at (l.invariant r).left c.loop-k-test.true in
    let h = t.inside in
    let m = t.enough in
    let x = ap (array_for g.S.Samples.writer.coding) c.two-samples.ensures.0 in
    let p = ap length (rest_part (l.at + 14) a.s.now) in
    let d = length-drop (l.at + 14) a.s.now in
    omega arith

pub overflow_add-at-in-loop-k : goal.overflow_add-at-in-loop-k
overflow_add-at-in-loop-k g c =
    let a = c.args in
    let l = c.loop-k in
    let r = c.requires in
    let t = turn g.S.Samples.writer.coding r.sys r.fi a.n a.s.now l.k l.at (l.invariant r).left c.loop-k-test.true in
    let h = t.inside in
    omega arith

pub four-requires : goal.four-requires
four-requires g c =
    let a = c.args in
    let l = c.loop-k in
    let r = c.requires in
    let t = turn g.S.Samples.writer.coding r.sys r.fi a.n a.s.now l.k l.at (l.invariant r).left c.loop-k-test.true in
    let h = t.inside in
    omega arith

pub overflow_add-at-in-loop-k-2 : goal.overflow_add-at-in-loop-k-2
overflow_add-at-in-loop-k-2 g c =
    let a = c.args in
    let l = c.loop-k in
    let r = c.requires in
    let t = turn g.S.Samples.writer.coding r.sys r.fi a.n a.s.now l.k l.at (l.invariant r).left c.loop-k-test.true in
    let h = t.inside in
    let e = c.four.ensures.0 in
    omega arith

pub loop-k-preserved : goal.loop-k-preserved
loop-k-preserved g c = λ x.
    let a = c.args in
    let l = c.loop-k in
    let b = c.BESIDE.ensures ∙ g.met.S.Samples.named.3 in
    words-more g.S.Samples.writer.coding x.sys x.fi a.n a.s.now l.out l.k l.at l.o (l.invariant x) c.loop-k-test.true c.two-samples.result _
    c.two-samples.ensures.0
    (ap (λ (m : ℕ). l.o + (c.two-samples.result + m)) b)
    _ c.four.result _ refl c.four.ensures.0 c.write_words.ensures

pub returns : goal.returns
returns g c = λ t.
    let a = c.args in
    let l = c.loop-k in
    wording-all g.S.Samples.writer.coding t.sys t.fi a.n a.s.now l.out l.k l.at l.o (l.invariant t) c.loop-k-test.false

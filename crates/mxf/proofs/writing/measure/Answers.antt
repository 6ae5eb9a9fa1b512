-- The packets of the sections, measured one after the other. Assumes nothing.
use Rattle.std.proofs.Common.{◌+◌, refl, ap, ◌∙◌, arith}
use Rattle.mxf.specs.Judging.{array_for}
use Rattle.mxf.proofs.Writers.{measure-begin, measure-inside, measure-unlined, measure-taken, measure-left, measure-done}
use Rattle.mxf.proofs.writing.measure.Goals as goal
use Rattle.mxf.proofs.writing.measure.Goals.{then-serves+else-ls-k-eq0, else-serves}

pub loop-k-init : goal.loop-k-init
loop-k-init g c = (omega arith, measure-begin)

pub bounds-ws-at : goal.bounds-ws-at
bounds-ws-at g c =
    let s = c.requires in
    let h = measure-inside c.loop-k.invariant.1 (omega arith) s.system s.packets s.of in
    omega arith

pub returns-then-ls-k-eq0 : goal.returns-then-ls-k-eq0
returns-then-ls-k-eq0 g c =
    measure-unlined c.loop-k.invariant.1 (omega arith) c.low_byte-dc.ensures c.serves.ensures c.if-serves.true c.if-ls-k-eq0.true refl

pub loop-k-preserved : goal.loop-k-preserved
loop-k-preserved g c =
    let s = c.requires in
    let so = c.loop-k.invariant.1 in
    let h = measure-inside so (omega arith) s.system s.packets s.of in
    let dc = c.low_byte-dc in
    elim c.if-serves.branch [
      | then-serves+else-ls-k-eq0 w ↦ (
        omega arith,
        measure-taken so (omega arith) dc.ensures c.serves.ensures w.if-serves.true w.if-ls-k-eq0.false w.packets-is
            (w.bytes-is
            ∙ ap (λ m. c.loop-k.bytes + (14 + m))
            (w.array_bytes.ensures ∙ ap (λ n. array_for g.S.Samples.writer.coding (dc.result + n)) (w.OTHERS.ensures ∙ g.met.S.Samples.named.2))),
      )
      | else-serves w ↦
          (omega arith, measure-left so (omega arith) dc.ensures c.serves.ensures w.if-serves.false w.packets-is w.bytes-is)
    ]

pub returns : goal.returns
returns g c = measure-done c.loop-k.invariant.1 (omega arith)

-- The structures of the sections' packets, laid one behind the other. Assumes nothing.
use Rattle.std.proofs.Common.{◌+◌, length, refl, ap, ◌∙◌, arith}
use Rattle.mxf.specs.Judging.{array_for}
use Rattle.mxf.proofs.Writers.{
  others-few,
  lent-fits,
  structure-next,
  structures-begin,
  structures-next,
  structures-inside,
  structures-room,
  structures-kept,
  structures-taken,
  structures-left,
  structures-done,
}
use Rattle.mxf.proofs.writing.put_structures.Goals as goal
use Rattle.mxf.proofs.writing.put_structures.Goals.{then-serves, else-serves}

pub loop-k-init : goal.loop-k-init
loop-k-init g c = (omega arith, refl, structures-begin c.requires.out_len)

pub bounds-ws-at : goal.bounds-ws-at
bounds-ws-at g c =
    let s = c.requires.sections in
    let h = structures-inside c.loop-k.invariant.2 (omega arith) s.system s.packets s.of in
    omega arith

pub overflow_add-next-then-serves : goal.overflow_add-next-then-serves
overflow_add-next-then-serves g c =
    let s = c.requires.sections in
    let h =
    structures-room c.loop-k.invariant.2 (omega arith) c.low_byte-dc.ensures c.serves.ensures c.if-serves.true s.system s.packets s.of in
    let n = ap (λ n. array_for g.S.Samples.writer.coding (c.low_byte-dc.result + n)) (c.OTHERS.ensures ∙ g.met.S.Samples.named.2) in
    omega arith

pub slice_bounds-put_structure-end : goal.slice_bounds-put_structure-end
slice_bounds-put_structure-end g c =
    let s = c.requires.sections in
    let h = structures-inside c.loop-k.invariant.2 (omega arith) s.system s.packets s.of in
    let n = g.met.S.Samples.named.2 in
    let k = others-few g.S.Samples.writer.coding in
    omega arith

pub slice_bounds-put_structure-end-then-serves : goal.slice_bounds-put_structure-end-then-serves
slice_bounds-put_structure-end-then-serves g c =
    let s = c.requires.sections in
    let h =
    structures-room c.loop-k.invariant.2 (omega arith) c.low_byte-dc.ensures c.serves.ensures c.if-serves.true s.system s.packets s.of in
    let n = ap (λ n. array_for g.S.Samples.writer.coding (c.low_byte-dc.result + n)) (c.OTHERS.ensures ∙ g.met.S.Samples.named.2) in
    omega arith

pub put_structure-requires-clause-fits : goal.put_structure-requires-clause-fits
put_structure-requires-clause-fits g c =
    let s = c.requires.sections in
    lent-fits g.S.Samples.writer (structures-next c.loop-k.invariant.2 (omega arith) s.system s.packets s.of) c.low_byte-dc.ensures refl
    (ap (λ i. c.loop-k.at + 3 + (c.low_byte-dc.result + i)) (c.OTHERS.ensures ∙ g.met.S.Samples.named.2))

pub loop-k-preserved : goal.loop-k-preserved
loop-k-preserved g c =
    let s = c.requires.sections in
    let so = c.loop-k.invariant.2 in
    let h = structures-inside so (omega arith) s.system s.packets s.of in
    let dc = c.low_byte-dc in
    let code = g.S.Samples.writer.coding in
    elim c.if-serves.branch [
      | then-serves w ↦ (
        omega arith,
        structures-kept so w.put_structure.new.out w.out-is w.o-is w.put_structure.auto.out ∙ c.loop-k.invariant.1,
        structures-taken so (omega arith) dc.ensures c.serves.ensures w.if-serves.true refl
            (λ y left m.
            structure-next g.S.Samples.writer m dc.ensures refl
            (ap (λ i. c.loop-k.at + 3 + (dc.result + i)) (w.OTHERS.ensures ∙ g.met.S.Samples.named.2)) c.args.system
            c.wrapping-wrapping.ensures w.put_structure.ensures)
            w.out-is w.o-is
            (ap (λ i. c.loop-k.o + (14 + i)) (w.array_bytes.ensures
            ∙ ap (λ i. array_for code (dc.result + i)) (w.OTHERS.ensures ∙ g.met.S.Samples.named.2)))
            w.put_structure.auto.out,
      )
      | else-serves w ↦ (
        omega arith,
        ap length w.out-is ∙ c.loop-k.invariant.1,
        structures-left so (omega arith) dc.ensures c.serves.ensures w.if-serves.false refl w.out-is w.o-is,
      )
    ]

pub returns : goal.returns
returns g c = structures-done c.loop-k.invariant.2 (omega arith)

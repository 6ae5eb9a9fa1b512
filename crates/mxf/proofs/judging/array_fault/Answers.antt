-- Sample count, array and DC, each missing, wrong or right. Assumes nothing.
use Rattle.std.proofs.Common.{ap, ◌∙◌, arith}
use Rattle.mxf.specs.Judging.{array_for}
use Rattle.mxf.proofs.JudgingLaws.{
  count-missing,
  too_few,
  too_many,
  array-missing,
  array-small,
  array-past,
  element-wrong,
  dc-wrong,
  array-right,
}
use Rattle.mxf.proofs.judging.array_fault.Goals as goal
use Rattle.mxf.proofs.judging.array_fault.Goals.{
  then-samples-OTHERS-via-then-samples-OTHERS,
  then-samples-OTHERS-via-else-samples-OTHERS+then-OTHERS-samples,
  then-count-array_bytes-via-then-count-array_bytes,
  then-count-array_bytes-via-else-count-array_bytes+then-s-count,
}

pub returns-then-s-lt6-clause-fault : goal.returns-then-s-lt6-clause-fault
returns-then-s-lt6-clause-fault g c = λ o. count-missing g.S.Samples.writer.coding _ _ o c.if-s-lt6.true

pub returns-then-samples-OTHERS-clause-fault : goal.returns-then-samples-OTHERS-clause-fault
returns-then-samples-OTHERS-clause-fault g c = λ o.
    let k = g.S.Samples.writer.coding in
    let n = g.met.S.Samples.named.2 in
    let e = c.two-samples.ensures.0 in
    elim c.then-samples-OTHERS.branch [
      | then-samples-OTHERS-via-then-samples-OTHERS w ↦
          too_few k _ _ o c.if-s-lt6.false (let l = w.if-samples-OTHERS.true in omega arith)
      | then-samples-OTHERS-via-else-samples-OTHERS+then-OTHERS-samples w ↦
          too_many k _ _ o c.if-s-lt6.false (let l = w.if-OTHERS-samples.true in omega arith)
    ]

pub returns-then-s-lt10-clause-fault : goal.returns-then-s-lt10-clause-fault
returns-then-s-lt10-clause-fault g c = λ o.
    let k = g.S.Samples.writer.coding in
    let n = g.met.S.Samples.named.2 in
    let e = c.two-samples.ensures.0 in
    array-missing k _ _ o c.if-s-lt6.false (omega arith) (omega arith) c.if-s-lt10.true

pub returns-then-count-array_bytes-clause-fault : goal.returns-then-count-array_bytes-clause-fault
returns-then-count-array_bytes-clause-fault g c = λ o.
    let k = g.S.Samples.writer.coding in
    let n = g.met.S.Samples.named.2 in
    let e = c.two-samples.ensures.0 in
    let f = c.four-count.ensures.0 in
    let x = c.array_bytes.ensures ∙ ap (array_for k) e in
    elim c.then-count-array_bytes.branch [
      | then-count-array_bytes-via-then-count-array_bytes w ↦
          array-small k _ _ o c.if-s-lt6.false (omega arith) (omega arith) c.if-s-lt10.false
          (let l = w.if-count-array_bytes.true in omega arith)
      | then-count-array_bytes-via-else-count-array_bytes+then-s-count w ↦
          array-past k _ _ o c.if-s-lt6.false (omega arith) (omega arith) c.if-s-lt10.false (let l = w.if-s-count.true in omega arith)
    ]

pub returns-then-four-ne1-clause-fault : goal.returns-then-four-ne1-clause-fault
returns-then-four-ne1-clause-fault g c = λ o.
    let k = g.S.Samples.writer.coding in
    let n = g.met.S.Samples.named.2 in
    let e = c.two-samples.ensures.0 in
    let f = c.four-count.ensures.0 in
    let x = c.array_bytes.ensures ∙ ap (array_for k) e in
    element-wrong k _ _ o c.if-s-lt6.false (omega arith) (omega arith) c.if-s-lt10.false (omega arith) (omega arith)
    (λ z. let y = c.four.ensures.0 in let h = c.if-four-ne1.true in omega arith)

pub returns-then-dc-OTHERS-clause-fault : goal.returns-then-dc-OTHERS-clause-fault
returns-then-dc-OTHERS-clause-fault g c = λ o.
    let k = g.S.Samples.writer.coding in
    let n = g.met.S.Samples.named.2 in
    let e = c.two-samples.ensures.0 in
    let f = c.four-count.ensures.0 in
    let x = c.array_bytes.ensures ∙ ap (array_for k) e in
    let y = c.four.ensures.0 in
    let d = c.dc.ensures.0 in
    dc-wrong k _ _ o c.if-s-lt6.false (omega arith) (omega arith) c.if-s-lt10.false (omega arith) (omega arith) (omega arith)
    (λ z. let h = c.if-dc-OTHERS.true in omega arith)

pub returns-clause-fault : goal.returns-clause-fault
returns-clause-fault g c = λ o.
    let k = g.S.Samples.writer.coding in
    let n = g.met.S.Samples.named.2 in
    let e = c.two-samples.ensures.0 in
    let f = c.four-count.ensures.0 in
    let x = c.array_bytes.ensures ∙ ap (array_for k) e in
    let y = c.four.ensures.0 in
    let d = c.dc.ensures.0 in
    array-right k _ _ o c.if-s-lt6.false (omega arith) (omega arith) c.if-s-lt10.false (omega arith) (omega arith) (omega arith) (omega arith)

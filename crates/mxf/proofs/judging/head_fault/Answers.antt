-- Key, length and N, each missing, wrong or right. Assumes nothing.
use Rattle.std.proofs.Common.{arith}
use Rattle.std.proofs.lemmas.Result.{err_from_is_err_and}
use Rattle.mxf.proofs.JudgingLaws.{key-wrong, form-missing, form-wrong, length-missing, length-wrong, n-missing, head-right}
use Rattle.mxf.proofs.judging.head_fault.Goals as goal

pub returns-in_err-key_fault-clause-fault : goal.returns-in_err-key_fault-clause-fault
returns-in_err-key_fault-clause-fault c = λ o.
    let p = err_from_is_err_and c.from_residual.result c.from_residual.ensures.1 in
    rw (p.1, p.2) (key-wrong _ o _ c.in_err-key_fault.ensures)

pub returns-then-e-lt17-clause-fault : goal.returns-then-e-lt17-clause-fault
returns-then-e-lt17-clause-fault c = λ o. form-missing _ o c.in_ok-key_fault.ensures c.if-e-lt17.true

pub returns-then-e-clause-fault : goal.returns-then-e-clause-fault
returns-then-e-clause-fault c = λ o. form-wrong _ o c.in_ok-key_fault.ensures c.if-e-lt17.false c.if-e.true

pub returns-then-e-lt20-clause-fault : goal.returns-then-e-lt20-clause-fault
returns-then-e-lt20-clause-fault c = λ o.
    length-missing _ o c.in_ok-key_fault.ensures c.if-e-lt17.false c.if-e.false c.if-e-lt20.true

pub returns-then-three-e-clause-fault : goal.returns-then-three-e-clause-fault
returns-then-three-e-clause-fault c = λ o.
    length-wrong _ o c.in_ok-key_fault.ensures c.if-e-lt17.false c.if-e.false c.if-e-lt20.false
    (λ z. let t = c.three.ensures.0 in let h = c.if-three-e.true in omega arith)

pub returns-then-e-lt-HEAD-clause-fault : goal.returns-then-e-lt-HEAD-clause-fault
returns-then-e-lt-HEAD-clause-fault c = λ o.
    let t = c.three.ensures.0 in
    let e = c.if-three-e.false in
    n-missing _ o c.in_ok-key_fault.ensures c.if-e-lt17.false c.if-e.false c.if-e-lt20.false (omega arith) c.if-e-lt-HEAD.true

pub returns-clause-fault : goal.returns-clause-fault
returns-clause-fault c = λ o.
    let t = c.three.ensures.0 in
    let e = c.if-three-e.false in
    head-right _ o c.in_ok-key_fault.ensures c.if-e-lt17.false c.if-e.false c.if-e-lt20.false (omega arith) c.if-e-lt-HEAD.false

-- A fault in the head; the structures. Assumes nothing.
use Rattle.std.proofs.lemmas.Result.{err_from_is_err_and}
use Rattle.mxf.proofs.JudgingLaws.{head-wrong, from-structures}
use Rattle.mxf.proofs.judging.judge.Goals as goal

pub returns-in_err-head_fault : goal.returns-in_err-head_fault
returns-in_err-head_fault g c = λ d fi.
    let p = err_from_is_err_and c.from_residual.result c.from_residual.ensures.1 in
    rw (p.1, p.2) (head-wrong g.S.Samples.writer.coding _ fi _ _ c.in_err-head_fault.ensures.fault)

pub returns : goal.returns
returns g c = λ d fi.
    from-structures g.S.Samples.writer.coding _ fi _ c.in_ok-head_fault.ensures.fault _ c.two.ensures.0 _ (c.judge_structures.ensures d fi)

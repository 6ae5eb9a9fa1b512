-- A fault in front; the array's. Assumes nothing.
use Rattle.std.proofs.Common.{◌∙◌}
use Rattle.std.proofs.lemmas.Result.{err_from_is_err_and}
use Rattle.mxf.proofs.judging.structure_fault.Goals as goal

pub returns-in_err-front_fault-clause-fault : goal.returns-in_err-front_fault-clause-fault
returns-in_err-front_fault-clause-fault g c = λ e o.
    let p = err_from_is_err_and c.from_residual.result c.from_residual.ensures.1 in
    rw (p.1, p.2) (c.in_err-front_fault.ensures e _)

pub returns-clause-fault : goal.returns-clause-fault
returns-clause-fault g c = λ e o. c.in_ok-front_fault.ensures e _ ∙ c.array_fault.ensures.fault o

-- The header's system, or the refusal. Assumes nothing.
use Rattle.std.proofs.lemmas.Result.{err_from_is_err_and}
use Rattle.mxf.proofs.WritingLaws.{system-refused, system-listed}
use Rattle.mxf.proofs.samples.EightSamples.system_of.Goals as goal

pub returns-in_err-header : goal.returns-in_err-header
returns-in_err-header c =
    let p = err_from_is_err_and c.from_residual.result c.from_residual.ensures.1 in
    rw (p.1, p.2) (system-refused c.args.sheet.now _ c.in_err-header.ensures)

pub returns : goal.returns
returns c = system-listed c.args.sheet.now _ c.in_ok-header.ensures

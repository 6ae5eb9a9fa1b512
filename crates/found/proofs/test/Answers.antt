-- The contract follows from its first field.
use Rattle.std.proofs.lemmas.Result.{err_from_is_err_and}
use Rattle.found.proofs.Laws.{sheet-refused, sheet-passes, checks}
use Rattle.found.proofs.test.Goals as goal

pub returns-in_err-header : goal.returns-in_err-header
returns-in_err-header c =
    let p = err_from_is_err_and c.from_residual.result c.from_residual.ensures.1 in
    checks c.args.s.now _ (rw (p.1, p.2) (sheet-refused c.args.s.now _ c.in_err-header.ensures))

pub returns : goal.returns
returns c = checks c.args.s.now _ (sheet-passes c.args.s.now _ c.in_ok-header.ensures)

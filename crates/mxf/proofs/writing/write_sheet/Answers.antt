-- The refusal of the tests, or what is written of the list. Assumes nothing.
use Rattle.std.proofs.lemmas.Result.{err_from_is_err_and}
use Rattle.mxf.proofs.Writers.{sheet-refused, sheet-listed, the-list}
use Rattle.mxf.proofs.writing.write_sheet.Goals as goal

pub returns-in_err-system : goal.returns-in_err-system
returns-in_err-system g c =
    let p = err_from_is_err_and c.from_residual.result c.from_residual.ensures.1 in
    rw (p.1, p.2) (sheet-refused g.S.Samples.writer c.args.fi c.args.sheet.now c.args.element.now _ c.in_err-system.ensures)

pub write_list-requires : goal.write_list-requires
write_list-requires g c = sheet-listed g.S.Samples.writer c.args.fi c.args.sheet.now c.args.element.now _ c.in_ok-system.ensures

pub returns : goal.returns
returns g c =
    let a = c.args in
    let o = sheet-listed g.S.Samples.writer a.fi a.sheet.now a.element.now _ c.in_ok-system.ensures in
    the-list g.S.Samples.writer a.fi a.sheet.now a.element.now _ o _ _ c.write_list.ensures

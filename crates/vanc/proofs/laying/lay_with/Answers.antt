-- A test at a time; it follows from what the tests of the sheet say. Assumes nothing.
use Rattle.std.proofs.Common.{ap, sym, ◌∙◌, arith}
use Rattle.std.proofs.lemmas.Result.{err_from_is_err_and}
use Rattle.frame.specs.Systems.{figures_of, figures_found}
use Rattle.frame.proofs.Laws.{found_is}
use Rattle.vanc.proofs.LayLaws.{found-packing, refuses-packing, no-shape, system-within, no-system, no-area, no-list, passed, the-list}
use Rattle.vanc.proofs.laying.lay_with.Goals as goal

pub returns-in_default : goal.returns-in_default
returns-in_default c = refuses-packing c.args.packing c.args.sheet.now c.args.area.now c.refused.result c.in_default.ensures c.refused.ensures

pub returns-in_err-shape : goal.returns-in_err-shape
returns-in_err-shape c =
    let p = found-packing c.args.packing c.in-Some.packing c.in-Some.ensures in
    let r = err_from_is_err_and c.from_residual.result c.from_residual.ensures.1 in
    let w = c.in_err-shape.ensures c.args.sheet.now c.tests-tested.ensures in
    rw (r.1, r.2) (no-shape c.args.packing c.args.sheet.now c.args.area.now p.0 _ w.0 w.1)

pub bounds-sheet-1 : goal.bounds-sheet-1
bounds-sheet-1 c = let l = system-within c.args.sheet.now (c.in_ok-shape.ensures c.args.sheet.now c.tests-tested.ensures) in omega arith

pub returns-in_default-figures_of : goal.returns-in_default-figures_of
returns-in_default-figures_of c =
    let s = c.args.sheet.now in
    let p = found-packing c.args.packing c.in-Some.packing c.in-Some.ensures in
    let sh = c.in_ok-shape.ensures s c.tests-tested.ensures in
    let n = c.in_default-figures_of.ensures ∙ ap figures_found c.wide.ensures.0 in
    no-system c.args.packing s c.args.area.now p.0 sh _ n c.refused-in_default-figures_of.ensures

pub returns-then-area-figures : goal.returns-then-area-figures
returns-then-area-figures c =
    let s = c.args.sheet.now in
    let p = found-packing c.args.packing c.in-Some.packing c.in-Some.ensures in
    let sh = c.in_ok-shape.ensures s c.tests-tested.ensures in
    let f = c.in-Some-figures_of.ensures ∙ ap figures_found c.wide.ensures.0 in
    no-area c.args.packing s c.args.area.now p.0 sh _ f _ c.if-area-figures.true c.refused-then-area-figures.ensures

pub returns-in_err-header : goal.returns-in_err-header
returns-in_err-header c =
    let s = c.args.sheet.now in
    let p = found-packing c.args.packing c.in-Some.packing c.in-Some.ensures in
    let sh = c.in_ok-shape.ensures s c.tests-tested.ensures in
    let f = c.in-Some-figures_of.ensures ∙ ap figures_found c.wide.ensures.0 in
    let r = err_from_is_err_and c.from_residual-in_err-header.result c.from_residual-in_err-header.ensures.1 in
    rw (r.1, r.2) (no-list c.args.packing s c.args.area.now p.0 sh _ f c.if-area-figures.false _ c.in_err-header.ensures)

pub lay_list-requires : goal.lay_list-requires
lay_list-requires c =
    let w = passed c.args.sheet.now c.in_ok-header.header c.in_ok-header.ensures in
    let f = found_is _ _ c.in-Some-figures_of.ensures in
    (w.0, f ∙ ap figures_of (c.wide.ensures.0 ∙ sym w.1))

pub returns : goal.returns
returns c =
    let s = c.args.sheet.now in
    let p = found-packing c.args.packing c.in-Some.packing c.in-Some.ensures in
    let sh = c.in_ok-shape.ensures s c.tests-tested.ensures in
    let f = c.in-Some-figures_of.ensures ∙ ap figures_found c.wide.ensures.0 in
    let v = rw (← p.1) at c.lay_list.ensures in
    the-list c.args.packing s c.args.area.now p.0 sh _ f c.if-area-figures.false c.in_ok-header.header c.in_ok-header.ensures _ _ v

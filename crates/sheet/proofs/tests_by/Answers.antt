-- A test at a time, in document 01's order.
use mathlib.Core.Path.{sym, ap, ◌∙◌}
use native.Mathlib.Omega.{arith}
use Rattle.std.proofs.Common.{Err}
use Rattle.std.proofs.lemmas.Result.{err_from_is_err_and}
use Rattle.sheet.proofs.Laws.{shaped-long, misshapen, unknown, list-refused, list-stands}
use Rattle.sheet.proofs.tests_by.Goals as goal

pub returns-then-not-is_shaped : goal.returns-then-not-is_shaped
returns-then-not-is_shaped g c =
    let t = g.T.WordTests in
    ap Err c.refused.ensures
    ∙ misshapen t.fault t.packet t.word g.met.T.WordTests.laws c.args.s.now (sym c.is_shaped.ensures ∙ c.if-not-is_shaped.true)

pub bounds-s-1 : goal.bounds-s-1
bounds-s-1 g c = let l = shaped-long c.args.s.now (sym c.is_shaped.ensures ∙ c.if-not-is_shaped.false) in omega arith

pub returns-in_default : goal.returns-in_default
returns-in_default g c =
    let t = g.T.WordTests in
    let sh = sym c.is_shaped.ensures ∙ c.if-not-is_shaped.false in
    ap Err c.refused-in_default.ensures
    ∙ unknown t.fault t.packet t.word g.met.T.WordTests.laws c.args.s.now sh _ c.wide-system.ensures.0
    (sym c.in_default.is ∙ c.figures_of.ensures)

pub list_tests-requires : goal.list_tests-requires
list_tests-requires g c = sym c.is_shaped.ensures ∙ c.if-not-is_shaped.false

pub returns-in_err-counts : goal.returns-in_err-counts
returns-in_err-counts g c =
    let t = g.T.WordTests in
    let sh = sym c.is_shaped.ensures ∙ c.if-not-is_shaped.false in
    let p = err_from_is_err_and c.from_residual.result c.from_residual.ensures.1 in
    rw (p.1, p.2)
    (list-refused t.fault t.packet t.word g.met.T.WordTests.laws c.args.s.now sh _ c.wide-system.ensures.0 c.in-Some.figures
    (sym c.in-Some.is ∙ c.figures_of.ensures) _ c.in_err-counts.ensures)

pub returns : goal.returns
returns g c =
    let t = g.T.WordTests in
    let sh = sym c.is_shaped.ensures ∙ c.if-not-is_shaped.false in
    list-stands t.fault t.packet t.word g.met.T.WordTests.laws c.args.s.now sh _ c.wide-system.ensures.0 c.in-Some.figures
    (sym c.in-Some.is ∙ c.figures_of.ensures) _ c.in_ok-counts.ensures

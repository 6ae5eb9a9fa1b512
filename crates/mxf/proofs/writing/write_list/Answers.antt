-- 18 by the measure, 17, and then the element. Assumes nothing.
use Rattle.std.proofs.Common.{◌∙◌, refl, arith}
use Rattle.std.proofs.lemmas.Result.{err_from_is_err_and}
use Rattle.std.proofs.lemmas.List.{length-take-le}
use Rattle.rules.specs.Systems.{system}
use Rattle.rules.specs.Sheet.{limit}
use Rattle.mxf.proofs.Writers.{number-some, not-lined, no_room, measured, measured-small, element-written}
use Rattle.mxf.proofs.writing.write_list.Goals as goal

pub measure-requires : goal.measure-requires
measure-requires g c =
    let w = g.S.Samples.writer in
    record {
      system = system c.args.system;
      packets = c.requires.0;
      of = w.sections c.args.system c.requires.0 c.args.sheet.now _ _ c.section_b-ls.ensures c.section_c-ws.ensures c.requires.1;
    }

pub returns-in_err-m : goal.returns-in_err-m
returns-in_err-m g c =
    let p = err_from_is_err_and c.from_residual.result c.from_residual.ensures.1 in
    rw (p.1, p.2)
    (not-lined g.S.Samples.writer c.args.system c.args.fi c.args.sheet.now c.args.element.now
    c.section_b-ls.ensures c.section_c-ws.ensures _ c.in_err-m.ensures (number-some _))

pub returns-then-element-m : goal.returns-then-element-m
returns-then-element-m g c =
    no_room g.S.Samples.writer c.args.system c.args.fi c.args.sheet.now c.args.element.now
    c.section_b-ls.ensures c.section_c-ws.ensures _ c.in_ok-m.ensures refl _ c.if-element-m.true refl

pub overflow_cast-m : goal.overflow_cast-m
unfolding limit
overflow_cast-m g c =
    let h =
    measured-small g.S.Samples.writer _ _ _ c.args.element.now c.section_b-ls.ensures c.section_c-ws.ensures _ c.in_ok-m.ensures refl _
    c.requires.1 in
    omega arith

pub put_element-requires-clause-sections : goal.put_element-requires-clause-sections
put_element-requires-clause-sections g c =
    let w = g.S.Samples.writer in
    record {
      system = system c.args.system;
      packets = c.requires.0;
      of = w.sections c.args.system c.requires.0 c.args.sheet.now _ _ c.section_b-ls.ensures c.section_c-ws.ensures c.requires.1;
    }

pub put_element-requires-clause-packets_value : goal.put_element-requires-clause-packets_value
put_element-requires-clause-packets_value g c = λ y ps h.
    let a = c.args in
    let l = length-take-le c.in_ok-m.m.bytes a.element.now c.if-element-m.false in
    let e =
    measured g.S.Samples.writer a.system a.fi a.sheet.now a.element.now c.section_b-ls.ensures c.section_c-ws.ensures _ c.in_ok-m.ensures refl
    y ps h in
    let k =
    measured-small g.S.Samples.writer _ _ _ c.args.element.now c.section_b-ls.ensures c.section_c-ws.ensures _ c.in_ok-m.ensures refl _
    c.requires.1 in
    (e.0, l ∙ e.1, omega arith)

pub returns : goal.returns
returns g c =
    element-written g.S.Samples.writer c.args.system c.args.fi c.args.sheet.now c.args.element.now
    c.section_b-ls.ensures c.section_c-ws.ensures _ c.in_ok-m.ensures refl _ c.if-element-m.false
    c.put_element.ensures

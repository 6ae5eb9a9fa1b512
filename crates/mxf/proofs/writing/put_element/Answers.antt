-- The head, and the structures behind it. Assumes nothing.
use Rattle.std.proofs.Common.{◌∙◌, arith}
use Rattle.mxf.specs.Served.{served}
use Rattle.mxf.proofs.Writers.{lent-long, structures_by, element-room, element-put}
use Rattle.mxf.proofs.writing.put_element.Goals as goal

pub put_head-requires : goal.put_head-requires
put_head-requires g c =
    let s = c.requires.sections in
    let e = c.requires.packets_value s.system s.packets s.of in
    let l = element-room g.S.Samples.writer c.args.system (served c.args.system c.args.fi s.packets) _ e.1 in
    (omega arith, e.2)

pub slice_bounds-put_structures-count : goal.slice_bounds-put_structures-count
slice_bounds-put_structures-count g c =
    let s = c.requires.sections in
    let e = c.requires.packets_value s.system s.packets s.of in
    let l = element-room g.S.Samples.writer c.args.system (served c.args.system c.args.fi s.packets) _ e.1 in
    omega arith

pub slice_bounds-put_structures-start : goal.slice_bounds-put_structures-start
slice_bounds-put_structures-start g c =
    let s = c.requires.sections in
    let e = c.requires.packets_value s.system s.packets s.of in
    let l = element-room g.S.Samples.writer c.args.system (served c.args.system c.args.fi s.packets) _ e.1 in
    omega arith

pub put_structures-requires-clause-out_len : goal.put_structures-requires-clause-out_len
put_structures-requires-clause-out_len g c = λ y ps h.
    let w = g.S.Samples.writer in
    let qs = served c.args.system c.args.fi ps in
    lent-long 22 c.put_head.new.out (structures_by w c.args.system qs)
    (c.put_head.auto.out ∙ element-room w c.args.system qs _ (c.requires.packets_value y ps h).1)

pub returns : goal.returns
returns g c = λ y ps h.
    let a = c.args in
    let e = c.requires.packets_value y ps h in
    element-put g.S.Samples.writer a.system a.packets (served a.system a.fi ps) a.out.now c.put_head.new.out _ e.0 e.1 c.put_head.ensures
    (c.put_structures.ensures y ps h)

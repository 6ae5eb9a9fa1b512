-- A test at a time, for every system with this last line.
use mathlib.Core.Path.{ap, ◌∙◌}
use native.Mathlib.Omega.{arith}
use Rattle.std.proofs.Common.{Err}
use Rattle.std.proofs.lemmas.Result.{err_from_is_err_and}
use Rattle.rules.specs.Sheet.{limit}
use Rattle.sheet.proofs.Laws.{shaped-long, too_many, pairs, location-refused, packet-refused, differ, whole}
use Rattle.sheet.proofs.list_tests.Goals as goal

pub bounds-s-2 : goal.bounds-s-2
bounds-s-2 g c = let l = shaped-long c.args.s.now c.requires in omega arith

pub returns-then-p-gt-LIMIT : goal.returns-then-p-gt-LIMIT
unfolding limit
returns-then-p-gt-LIMIT g c y e =
    let t = g.T.WordTests in
    ap Err c.refused.ensures
    ∙ too_many t.fault t.packet t.word g.met.T.WordTests.laws y c.args.s.now _ c.wide-p.ensures.0 (omega arith)

pub slice_bounds-ls-end : goal.slice_bounds-ls-end
slice_bounds-ls-end g c =
    let l = shaped-long c.args.s.now c.requires in
    let p = c.wide-p.ensures.0 in
    omega arith

pub placed-k-requires : goal.placed-k-requires
placed-k-requires g c = pairs c.args.s.now _ c.wide-p.ensures.0 c.requires

pub location_fault-requires : goal.location_fault-requires
location_fault-requires g c = pairs c.args.s.now _ c.wide-p.ensures.0 c.requires

pub returns-then-k-p : goal.returns-then-k-p
unfolding limit
returns-then-k-p g c y e =
    let t = g.T.WordTests in
    location-refused t.fault t.packet t.word g.met.T.WordTests.laws y c.args.s.now _ c.wide-p.ensures.0 c.requires (omega arith) _
    (c.location_fault.ensures y e (c.placed-k.ensures y e) c.if-k-p.true)

pub slice_bounds-packets-count : goal.slice_bounds-packets-count
slice_bounds-packets-count g c =
    let l = shaped-long c.args.s.now c.requires in
    let p = c.wide-p.ensures.0 in
    omega arith

pub slice_bounds-packets-start : goal.slice_bounds-packets-start
slice_bounds-packets-start g c =
    let l = shaped-long c.args.s.now c.requires in
    let p = c.wide-p.ensures.0 in
    omega arith

pub returns-in_err-counts : goal.returns-in_err-counts
unfolding limit
returns-in_err-counts g c y e =
    let t = g.T.WordTests in
    let p = err_from_is_err_and c.from_residual.result c.from_residual.ensures.1 in
    rw (p.1, p.2)
    (packet-refused t.fault t.packet t.word g.met.T.WordTests.laws y c.args.s.now _ c.wide-p.ensures.0 c.requires (omega arith) _
    (c.placed-k.ensures y e) c.if-k-p.false _ c.in_err-counts.ensures)

pub returns-then-counts-p : goal.returns-then-counts-p
unfolding limit
returns-then-counts-p g c y e =
    let t = g.T.WordTests in
    ap Err c.refused-then-counts-p.ensures
    ∙ differ t.fault t.packet t.word g.met.T.WordTests.laws y c.args.s.now _ c.wide-p.ensures.0 c.requires (omega arith) _
    (c.placed-k.ensures y e) c.if-k-p.false _ c.in_ok-counts.ensures c.if-counts-p.true

pub returns : goal.returns
unfolding limit
returns g c y e =
    let t = g.T.WordTests in
    whole t.fault t.packet t.word g.met.T.WordTests.laws y c.args.s.now _ c.wide-p.ensures.0 c.requires (omega arith) _
    (c.placed-k.ensures y e) c.if-k-p.false _ c.in_ok-counts.ensures c.if-counts-p.false

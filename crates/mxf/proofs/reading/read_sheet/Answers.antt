-- 3; 19; 20; what the rest of the tests give. Assumes nothing.
use Rattle.std.proofs.Common.{refl, sym, ◌∙◌, arith}
use Rattle.std.specs.Prelude.{Ok, Err}
use Rattle.rules.specs.Systems.{system}
use Rattle.rules.proofs.Blocks.{known-low}
use Rattle.frame.proofs.Laws.{last-is, found_known, found_is, found_none}
use Rattle.mxf.specs.Judging.{judged_as}
use Rattle.mxf.specs.Parts.{told_judged, told_read}
use Rattle.mxf.proofs.ReadingLaws.{unknown-system, known-system, refused-before, head-there, structs-are, not-allowed, all-allowed}
use Rattle.mxf.proofs.reading.read_sheet.Goals as goal

pub returns-in_default : goal.returns-in_default
returns-in_default g c =
    let a = c.args in
    unknown-system a.system (judged_as g.S.Samples.writer.coding a.system a.fi a.element.now) a.sheet.now _ a.sheet.now
    (found_none a.system (sym c.in_default.is ∙ c.figures_of.ensures)) refl refl

pub returns-in-Err : goal.returns-in-Err
returns-in-Err g c =
    let a = c.args in
    let k = g.S.Samples.writer.coding in
    let f = sym c.in-Some.is ∙ c.figures_of.ensures in
    let is = last-is a.system c.in-Some.figures (found_is a.system _ f) in
    known-system a.system (judged_as k a.system a.fi a.element.now) a.sheet.now _ _ (found_known a.system _ f)
    (refused-before k a.system a.fi a.element.now a.sheet.now (told_judged (Err c.in-Err.place)) (c.in-Err.ensures is a.fi) (λ z. omega arith))

pub slice_bounds-allowed-count : goal.slice_bounds-allowed-count
slice_bounds-allowed-count g c =
    let a = c.args in
    let k = g.S.Samples.writer.coding in
    let f = sym c.in-Some.is ∙ c.figures_of.ensures in
    let is = last-is a.system c.in-Some.figures (found_is a.system _ f) in
    let h = c.in-Ok.ensures is a.fi in
    let l = head-there k a.system a.fi a.element.now a.sheet.now (told_read (Ok c.in-Ok.j)) h refl in
    omega arith

pub slice_bounds-allowed-start : goal.slice_bounds-allowed-start
slice_bounds-allowed-start g c =
    let a = c.args in
    let k = g.S.Samples.writer.coding in
    let f = sym c.in-Some.is ∙ c.figures_of.ensures in
    let is = last-is a.system c.in-Some.figures (found_is a.system _ f) in
    let h = c.in-Ok.ensures is a.fi in
    let l = head-there k a.system a.fi a.element.now a.sheet.now (told_read (Ok c.in-Ok.j)) h refl in
    omega arith

pub allowed-k-requires : goal.allowed-k-requires
allowed-k-requires g c =
    let a = c.args in
    let k = g.S.Samples.writer.coding in
    let f = sym c.in-Some.is ∙ c.figures_of.ensures in
    let is = last-is a.system c.in-Some.figures (found_is a.system _ f) in
    let h = c.in-Ok.ensures is a.fi in
    record { coding = k; sys = a.system; fi = a.fi; judged = structs-are k a.system a.fi a.element.now a.sheet.now (told_read (Ok c.in-Ok.j)) h refl }

pub returns-then-k-j : goal.returns-then-k-j
returns-then-k-j g c =
    let a = c.args in
    let k = g.S.Samples.writer.coding in
    let f = sym c.in-Some.is ∙ c.figures_of.ensures in
    let is = last-is a.system c.in-Some.figures (found_is a.system _ f) in
    let h = c.in-Ok.ensures is a.fi in
    let found = structs-are k a.system a.fi a.element.now a.sheet.now (told_read (Ok c.in-Ok.j)) h refl in
    known-system a.system (judged_as k a.system a.fi a.element.now) a.sheet.now _ _ (found_known a.system _ f)
    (not-allowed k a.system a.fi a.element.now a.sheet.now (told_read (Ok c.in-Ok.j)) h refl c.allowed-k.result
    (c.allowed-k.ensures
    (record { coding = k; sys = a.system; fi = a.fi; judged = found }) (system a.system) (sym is))
    c.if-k-j.true _ refl)

pub written-requires : goal.written-requires
written-requires g c =
    let a = c.args in
    let k = g.S.Samples.writer.coding in
    let f = sym c.in-Some.is ∙ c.figures_of.ensures in
    let is = last-is a.system c.in-Some.figures (found_is a.system _ f) in
    let h = c.in-Ok.ensures is a.fi in
    (known-low a.system (found_known a.system _ f), h)

pub returns-else-k-j : goal.returns-else-k-j
returns-else-k-j g c =
    let a = c.args in
    let k = g.S.Samples.writer.coding in
    let f = sym c.in-Some.is ∙ c.figures_of.ensures in
    let is = last-is a.system c.in-Some.figures (found_is a.system _ f) in
    let h = c.in-Ok.ensures is a.fi in
    let found = structs-are k a.system a.fi a.element.now a.sheet.now (told_read (Ok c.in-Ok.j)) h refl in
    known-system a.system (judged_as k a.system a.fi a.element.now) a.sheet.now _ _ (found_known a.system _ f)
    (all-allowed k a.system a.fi a.element.now a.sheet.now (told_read (Ok c.in-Ok.j)) h refl c.allowed-k.result
    (c.allowed-k.ensures
    (record { coding = k; sys = a.system; fi = a.fi; judged = found }) (system a.system) (sym is))
    c.if-k-j.false _ _ c.written.ensures)

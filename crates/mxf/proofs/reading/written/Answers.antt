-- 5, 17, and then the sheet. Assumes nothing.
use Rattle.std.proofs.Common.{take, refl, arith}
use Rattle.std.specs.Prelude.{Ok}
use mathlib.Core.Logic.{inl, inr}
use Rattle.std.proofs.lemmas.List.{length-take-le}
use Rattle.rules.specs.Sheet.{limit}
use Rattle.mxf.specs.Parts.{told_read}
use Rattle.mxf.proofs.ReadingLaws.{packets-are, numbers-are, head-there, too_many, no_room, sized, all_read}
use Rattle.mxf.proofs.reading.written.Goals as goal
use Rattle.mxf.proofs.reading.written.Goals.{then-j-gt65535-via-then-j-gt65535, then-j-gt65535-via-else-j-gt65535+then-sheet-j}

pub returns-then-j-gt-LIMIT : goal.returns-then-j-gt-LIMIT
unfolding limit
returns-then-j-gt-LIMIT g c =
    let a = c.args in
    let k = g.S.Samples.writer.coding in
    too_many k a.system a.fi a.e.now a.sheet.now (told_read (Ok a.j)) c.requires.1 refl c.if-j-gt-LIMIT.true _ refl

pub overflow_sub-j : goal.overflow_sub-j
overflow_sub-j g c =
    let a = c.args in
    let k = g.S.Samples.writer.coding in
    let p = packets-are k a.system a.fi a.e.now a.sheet.now (told_read (Ok a.j)) c.requires.1 refl in
    let n = numbers-are k a.system a.fi a.e.now a.sheet.now (told_read (Ok a.j)) c.requires.1 refl in
    omega arith

pub overflow_sub-j-2 : goal.overflow_sub-j-2
overflow_sub-j-2 g c =
    let a = c.args in
    let k = g.S.Samples.writer.coding in
    let p = packets-are k a.system a.fi a.e.now a.sheet.now (told_read (Ok a.j)) c.requires.1 refl in
    let n = numbers-are k a.system a.fi a.e.now a.sheet.now (told_read (Ok a.j)) c.requires.1 refl in
    omega arith

pub returns-then-j-gt65535 : goal.returns-then-j-gt65535
unfolding limit
returns-then-j-gt65535 g c =
    let a = c.args in
    let k = g.S.Samples.writer.coding in
    no_room k a.system a.fi a.e.now a.sheet.now (told_read (Ok a.j)) c.requires.1 refl c.if-j-gt-LIMIT.false
    (elim c.then-j-gt65535.branch [
      | then-j-gt65535-via-then-j-gt65535 w ↦ inl w.if-j-gt65535.true
      | then-j-gt65535-via-else-j-gt65535+then-sheet-j w ↦ inr w.if-sheet-j.true
    ])
    _ refl

pub slice_bounds-write_sections-count : goal.slice_bounds-write_sections-count
slice_bounds-write_sections-count g c =
    let a = c.args in
    let k = g.S.Samples.writer.coding in
    let h = head-there k a.system a.fi a.e.now a.sheet.now (told_read (Ok a.j)) c.requires.1 refl in
    omega arith

pub slice_bounds-write_sections-start : goal.slice_bounds-write_sections-start
slice_bounds-write_sections-start g c =
    let a = c.args in
    let k = g.S.Samples.writer.coding in
    let h = head-there k a.system a.fi a.e.now a.sheet.now (told_read (Ok a.j)) c.requires.1 refl in
    omega arith

pub write_sections-requires : goal.write_sections-requires
unfolding limit
write_sections-requires g c =
    let a = c.args in
    let k = g.S.Samples.writer.coding in
    sized k a.system a.fi a.e.now a.sheet.now (told_read (Ok a.j)) c.requires.1 refl c.if-j-gt-LIMIT.false c.if-j-gt65535.false c.if-sheet-j.false
    (take a.j.numbers a.sheet.now) c.requires.0 (length-take-le a.j.numbers a.sheet.now c.if-sheet-j.false)

pub returns : goal.returns
unfolding limit
returns g c =
    let a = c.args in
    let k = g.S.Samples.writer.coding in
    all_read k a.system a.fi a.e.now a.sheet.now (told_read (Ok a.j)) c.requires.1 refl c.if-j-gt-LIMIT.false c.if-j-gt65535.false c.if-sheet-j.false
    c.write_sections.new.out c.write_sections.ensures

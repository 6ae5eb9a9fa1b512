-- The three counts with the system, the locations and the words, each part lent and come back. Assumes nothing.
use Rattle.std.proofs.Common.{rules, arith}
use Rattle.std.proofs.lemmas.List.{length-set}
use Rattle.rules.specs.Sheet.{limit}
use Rattle.mxf.proofs.ReadingLaws.{sections-room, before-long, words-lent, sections-written}
use Rattle.mxf.proofs.reading.write_sections.Goals as goal

pub bounds-out-0 : goal.bounds-out-0
bounds-out-0 g c =
    let a = c.args in
    let r = sections-room g.S.Samples.writer.coding a.system a.fi a.packets a.s.now a.out.now c.requires in
    omega arith

pub bounds-out-1 : goal.bounds-out-1
bounds-out-1 g c =
    let a = c.args in
    let r = sections-room g.S.Samples.writer.coding a.system a.fi a.packets a.s.now a.out.now c.requires in
    simp length-set (omega arith)

pub bounds-out-2 : goal.bounds-out-2
bounds-out-2 g c =
    let a = c.args in
    let r = sections-room g.S.Samples.writer.coding a.system a.fi a.packets a.s.now a.out.now c.requires in
    simp length-set (omega arith)

pub overflow_cast-out-2 : goal.overflow_cast-out-2
unfolding limit
overflow_cast-out-2 g c =
    search rules

pub overflow_mul-mid : goal.overflow_mul-mid
unfolding limit
overflow_mul-mid g c =
    search rules

pub overflow_add-mid : goal.overflow_add-mid
unfolding limit
overflow_add-mid g c =
    search rules

pub slice_bounds-write_locations-end : goal.slice_bounds-write_locations-end
slice_bounds-write_locations-end g c =
    let a = c.args in
    let r = sections-room g.S.Samples.writer.coding a.system a.fi a.packets a.s.now a.out.now c.requires in
    simp length-set (omega arith)

pub overflow_sub-out : goal.overflow_sub-out
overflow_sub-out g c =
    let a = c.args in
    let r = sections-room g.S.Samples.writer.coding a.system a.fi a.packets a.s.now a.out.now c.requires in
    let p = c.write_locations in
    let l = before-long g.S.Samples.writer.coding a.system a.fi a.packets a.s.now a.out.now c.requires p.new.out p.ensures in
    omega arith

pub overflow_sub-out-2 : goal.overflow_sub-out-2
overflow_sub-out-2 g c =
    let a = c.args in
    let r = sections-room g.S.Samples.writer.coding a.system a.fi a.packets a.s.now a.out.now c.requires in
    let p = c.write_locations in
    let l = before-long g.S.Samples.writer.coding a.system a.fi a.packets a.s.now a.out.now c.requires p.new.out p.ensures in
    omega arith

pub bounds-out-mid : goal.bounds-out-mid
bounds-out-mid g c =
    let a = c.args in
    let r = sections-room g.S.Samples.writer.coding a.system a.fi a.packets a.s.now a.out.now c.requires in
    let p = c.write_locations in
    let l = before-long g.S.Samples.writer.coding a.system a.fi a.packets a.s.now a.out.now c.requires p.new.out p.ensures in
    omega arith

pub overflow_cast-out-3 : goal.overflow_cast-out-3
overflow_cast-out-3 g c =
    let a = c.args in
    let r = sections-room g.S.Samples.writer.coding a.system a.fi a.packets a.s.now a.out.now c.requires in
    let p = c.write_locations in
    let l = before-long g.S.Samples.writer.coding a.system a.fi a.packets a.s.now a.out.now c.requires p.new.out p.ensures in
    let w = c.requires.short in
    omega arith

pub slice_bounds-write_packets-count : goal.slice_bounds-write_packets-count
slice_bounds-write_packets-count g c =
    let a = c.args in
    let r = sections-room g.S.Samples.writer.coding a.system a.fi a.packets a.s.now a.out.now c.requires in
    let p = c.write_locations in
    let l = before-long g.S.Samples.writer.coding a.system a.fi a.packets a.s.now a.out.now c.requires p.new.out p.ensures in
    simp length-set (omega arith)

pub slice_bounds-write_packets-start : goal.slice_bounds-write_packets-start
slice_bounds-write_packets-start g c =
    let a = c.args in
    let r = sections-room g.S.Samples.writer.coding a.system a.fi a.packets a.s.now a.out.now c.requires in
    let p = c.write_locations in
    let l = before-long g.S.Samples.writer.coding a.system a.fi a.packets a.s.now a.out.now c.requires p.new.out p.ensures in
    simp length-set (omega arith)

pub overflow_add-mid-2 : goal.overflow_add-mid-2
unfolding limit
overflow_add-mid-2 g c =
    search rules

pub write_packets-requires : goal.write_packets-requires
write_packets-requires g c =
    let a = c.args in
    let p = c.write_locations in
    record {
      sys = a.system;
      fi = a.fi;
      judged = c.requires.judged;
      room = words-lent g.S.Samples.writer.coding a.system a.fi a.packets a.s.now a.out.now c.requires p.new.out p.ensures;
    }

pub returns : goal.returns
returns g c =
    let a = c.args in
    let k = g.S.Samples.writer.coding in
    let p = c.write_locations in
    sections-written k a.system a.fi a.packets a.s.now a.out.now c.requires p.new.out p.ensures c.write_packets.new.out
    (c.write_packets.ensures
    (record {
      sys = a.system;
      fi = a.fi;
      judged = c.requires.judged;
      room = words-lent k a.system a.fi a.packets a.s.now a.out.now c.requires p.new.out p.ensures;
    }))

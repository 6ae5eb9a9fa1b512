-- In a turn the packet at `at` is whole, and its location is written. Assumes nothing.
use Rattle.std.proofs.Common.{◌*◌, arith}
use lib.ListN.{length-set}
use Rattle.sheet.proofs.write.Written.{locating-inside, locating-more}
use Rattle.sheet.proofs.write.write_locations.Goals as goal

pub overflow_add-h1 : goal.overflow_add-h1
overflow_add-h1 c = let h = locating-inside _ _ _ _ c.loop-k.invariant.1 (omega arith) in omega (arith, h)

pub bounds-s-at : goal.bounds-s-at
bounds-s-at c = let h = locating-inside _ _ _ _ c.loop-k.invariant.1 (omega arith) in omega (arith, h)

pub bounds-s-at-in-loop-k : goal.bounds-s-at-in-loop-k
bounds-s-at-in-loop-k c = let h = locating-inside _ _ _ _ c.loop-k.invariant.1 (omega arith) in omega (arith, h)

pub overflow_add-at : goal.overflow_add-at
overflow_add-at c = let h = locating-inside _ _ _ _ c.loop-k.invariant.1 (omega arith) in omega (arith, h)

pub bounds-s-at-in-loop-k-2 : goal.bounds-s-at-in-loop-k-2
bounds-s-at-in-loop-k-2 c = let h = locating-inside _ _ _ _ c.loop-k.invariant.1 (omega arith) in omega (arith, h)

pub overflow_add-at-in-loop-k-2 : goal.overflow_add-at-in-loop-k-2
overflow_add-at-in-loop-k-2 c =
    let h = locating-inside _ _ _ _ c.loop-k.invariant.1 (omega arith) in
    omega (arith, h, c.wide.ensures.0)

pub loop-k-preserved : goal.loop-k-preserved
loop-k-preserved c = (
  simp length-set c.loop-k.invariant.0,
  locating-more c.args.s.now c.loop-k.out c.loop-k.at (2 * c.loop-k.k) c.loop-k.invariant.1 (omega arith) c.wide.result
      c.line_of-line.result c.flags_of-flags.result _ (omega arith) c.wide.ensures.0 c.line_of-line.ensures c.flags_of-flags.ensures,
)

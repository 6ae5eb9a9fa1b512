-- Those before have passed, so the first that is at fault is behind them.
use Prim.Native.Nat.{◌+◌, ◌-◌, ◌*◌, ◌≤◌}
use mathlib.Core.Path.{◌≡◌}
use lib.ListN.{drop}
use Rattle.rules.specs.Systems.{System}
use Rattle.sheet.specs.Standing.{in_front, in_place}
use Rattle.sheet.proofs.placed_in_passes.Given as goal

abbrev pub invariant-loop-from : goal.invariant-loop-from
invariant-loop-from l =
    record {
      within : l.from ≤ l.p;
      behind : (y : System) → y.last ≡ l.last.0 → in_front (in_place y) l.ls ≡ l.from + in_front (in_place y) (drop (2 * l.from) l.ls);
    }

abbrev pub decreases-loop-from : goal.decreases-loop-from
decreases-loop-from l = l.p - l.from

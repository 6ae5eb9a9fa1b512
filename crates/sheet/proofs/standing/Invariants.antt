-- The pairs in front of k stand, so that those that stand in what is left, and k more, stand in the whole.
use Prim.Native.Nat.{◌+◌, ◌*◌}
use mathlib.Core.Path.{◌≡◌}
use lib.ListN.{drop}
use Rattle.rules.specs.Systems.{System}
use Rattle.rules.specs.Laying.{location_stands}
use Rattle.sheet.specs.Standing.{in_front}
use Rattle.sheet.proofs.standing.Given as goal

abbrev pub invariant-loop-k : goal.invariant-loop-k
invariant-loop-k l =
    (y : System) → y.last ≡ l.last.0 → l.k + in_front (location_stands y) (drop (2 * l.k) l.ls) ≡ in_front (location_stands y) l.ls

-- The pairs in front of k are in place, so that those that are in what is left, and k more, are in the whole.
use Prim.Native.Nat.{◌+◌, ◌*◌}
use mathlib.Core.Path.{◌≡◌}
use lib.ListN.{drop}
use Rattle.rules.specs.Systems.{System}
use Rattle.sheet.specs.Standing.{in_front, in_place}
use Rattle.sheet.proofs.in_place.Given as goal

abbrev pub invariant-loop-k : goal.invariant-loop-k
invariant-loop-k l =
    (y : System) → y.last ≡ l.last.0 → l.k + in_front (in_place y) (drop (2 * l.k) l.ls) ≡ in_front (in_place y) l.ls

-- The bytes passed are all FFh exactly when their `&` is, and with the bytes ahead they are the whole.
use Rattle.std.proofs.Common.{◌≡◌, ◌<◌, ◌&&◌, eqb, drop}
use Rattle.rules.specs.Base.{all_is}
use Rattle.danc.proofs.all_fill.Given as goal

abbrev pub invariant-loop-b : goal.invariant-loop-b
invariant-loop-b l = (l.all < 256) × ((eqb l.all 255 && all_is 255 (drop l.b-index l.s)) ≡ all_is 255 l.s)

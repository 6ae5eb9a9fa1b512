-- Where the answer so far is true, the pairs in front of k are in place.
use mathlib.Core.Path.{◌≡◌}
use Rattle.rules.specs.Systems.{System}
use Rattle.sheet.proofs.Laws.{Passed}
use Rattle.sheet.proofs.all_in.Given as goal

abbrev pub invariant-loop-k : goal.invariant-loop-k
invariant-loop-k g l = (y : System) → y.last ≡ g.R.Raster.last → Passed y l.ls l.k l.all

-- What is found so far, joined with what the words from here on give, is what all of them give.
use mathlib.Core.Path.{◌≡◌}
use mathlib.Core.Bool.{◌&&◌}
use lib.ListN.{drop}
use Rattle.rules.specs.Found.{are_ten}
use Rattle.found.proofs.are_ten.Given as goal

abbrev pub invariant-loop-w : goal.invariant-loop-w
invariant-loop-w l = (l.ok && are_ten (drop l.w-index l.ws)) ≡ are_ten l.ws

-- `walker::kth`: after so many turns the walker has made its step from the rules' place of that number.
use Rattle.std.proofs.Common.{◌≡◌}
use Rattle.rules.specs.Walker.{place_of}
use Rattle.walker.specs.Moved.{walked_on}
use Rattle.walker.proofs.kth.Given as goal

abbrev pub invariant-loop : goal.invariant-loop
invariant-loop l = l.walked ≡ walked_on l.system l.string (place_of l.system l.string l.counter)

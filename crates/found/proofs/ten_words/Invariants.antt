-- No word before the one here is over 3FFh, so that the first that is is the first from here on.
use Prim.Native.Nat.{◌+◌}
use mathlib.Core.Path.{◌≡◌}
use lib.ListN.{drop}
use Rattle.rules.specs.Found.{ten_before}
use Rattle.found.proofs.ten_words.Given as goal

abbrev pub invariant-loop-i : goal.invariant-loop-i
invariant-loop-i l = l.i + ten_before (drop l.i l.ws) ≡ ten_before l.ws

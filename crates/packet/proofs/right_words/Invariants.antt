-- The words before the one here are right, so that the first wrong one is the first from here on.
use Prim.Native.Nat.{◌+◌}
use mathlib.Core.Path.{◌≡◌}
use lib.ListN.{drop}
use Rattle.rules.specs.Laying.{words_before}
use Rattle.packet.proofs.right_words.Given as goal

abbrev pub invariant-loop-i : goal.invariant-loop-i
invariant-loop-i l = l.i + words_before (drop l.i l.ws) ≡ words_before l.ws

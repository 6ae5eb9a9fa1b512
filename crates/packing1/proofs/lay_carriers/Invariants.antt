-- The first i carriers are laid.
use Rattle.std.proofs.Common.{◌≡◌, map}
use Rattle.std.proofs.lemmas.List.Edits.{sets}
use Rattle.rules.specs.Laying.{low}
use Rattle.rules.specs.Packing1.{flat, carriers}
use Rattle.packing1.proofs.lay_carriers.Given as goal

abbrev pub invariant-loop-i : goal.invariant-loop-i
invariant-loop-i l = l.us ≡ sets l.initial.us l.at (flat (carriers l.i (map low l.ws)))

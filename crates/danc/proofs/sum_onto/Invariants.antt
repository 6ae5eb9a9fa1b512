-- The sum so far is at most what was begun and 255 for each byte, and with that of the bytes ahead it is the whole's onto what was begun.
use Rattle.std.proofs.Common.{◌≡◌, ◌+◌, ◌*◌, ◌≤◌, drop}
use Rattle.rules.specs.Base.{sum as total}
use Rattle.danc.proofs.sum_onto.Given as goal

abbrev pub invariant-loop-b : goal.invariant-loop-b
invariant-loop-b l = (l.sum ≤ l.begun + 255 * l.b-index) × (l.sum + total (drop l.b-index l.s) ≡ l.begun + total l.s)

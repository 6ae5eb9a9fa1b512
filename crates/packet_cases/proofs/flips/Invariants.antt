-- `packet_cases::flips`: no more flips are good than have been tried.
use Rattle.std.proofs.Common.{◌≤◌}
use Rattle.packet_cases.proofs.flips.Given as goal

abbrev pub invariant-loop : goal.invariant-loop
invariant-loop l = l.good ≤ l.counter

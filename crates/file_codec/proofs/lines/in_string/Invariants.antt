-- `file_codec::lines::in_string`: a packet starts within the user bytes.
use Rattle.std.proofs.Common.{◌≤◌}
use Rattle.file_codec.proofs.lines.in_string.Given as goal

abbrev pub invariant-loop : goal.invariant-loop
invariant-loop l = l.at ≤ 9353

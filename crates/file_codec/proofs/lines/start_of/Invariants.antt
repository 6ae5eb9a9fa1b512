-- `file_codec::lines::start_of`: a structure starts within the element.
use Rattle.std.proofs.Common.{◌≤◌, length}
use Rattle.file_codec.proofs.lines.start_of.Given as goal

abbrev pub invariant-loop : goal.invariant-loop
invariant-loop l = l.at ≤ length l.e

-- `file_codec::lines::in_packs_of_5`: a starter is one of the packs.
use Rattle.std.proofs.Common.{◌<◌}
use Rattle.file_codec.proofs.lines.in_packs_of_5.Given as goal

abbrev pub invariant-loop : goal.invariant-loop
invariant-loop l = l.pack < 1872

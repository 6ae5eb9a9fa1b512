-- `sheet_file::is_whole` meets its contract: a file that is not too long, by its parity. Assumes nothing.
use Rattle.std.proofs.Common.{arith}
use Rattle.std.proofs.lemmas.Bool.Decides.{nat_tests}
use Rattle.sheet_file.specs.Files.{is_whole}
use Rattle.sheet_file.proofs.is_whole.Goals as goal

pub returns-then-file-le-LONGEST : goal.returns-then-file-le-LONGEST
unfolding is_whole
returns-then-file-le-LONGEST c = grind (arith, nat_tests)

pub returns-else-file-le-LONGEST : goal.returns-else-file-le-LONGEST
unfolding is_whole
returns-else-file-le-LONGEST c = grind (arith, nat_tests)

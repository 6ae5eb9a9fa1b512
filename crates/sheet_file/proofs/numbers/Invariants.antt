-- `sheet_file::numbers`: the numbers decoded so far are the first of the file's.
use Rattle.std.proofs.Common.{◌≡◌, take}
use Rattle.rules.specs.Lister.{numbers_of}
use Rattle.sheet_file.proofs.numbers.Given as goal

abbrev pub invariant-loop-i : goal.invariant-loop-i
invariant-loop-i l = take l.i l.s ≡ take l.i (numbers_of l.file)

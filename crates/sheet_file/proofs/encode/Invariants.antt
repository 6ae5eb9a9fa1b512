-- `sheet_file::encode`: the bytes encoded so far are the first of the file's.
use Rattle.std.proofs.Common.{◌≡◌, ◌*◌, take}
use Rattle.rules.specs.Lister.{file_of}
use Rattle.sheet_file.proofs.encode.Given as goal

abbrev pub invariant-loop-i : goal.invariant-loop-i
invariant-loop-i l = take (2 * l.i) l.file ≡ take (2 * l.i) (file_of l.s)

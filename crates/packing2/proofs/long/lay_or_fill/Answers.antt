-- Behind the string's end a row is fill. Assumes nothing.
use Rattle.std.proofs.Common.{arith}
use Rattle.packing2.proofs.LongLaws.{fill-at}
use Rattle.packing2.proofs.long.lay_or_fill.Goals as goal

pub returns-then-at-len : goal.returns-then-at-len
returns-then-at-len c = fill-at c.args.s.now c.args.len c.args.at (omega arith) c.fill_row.ensures

-- `sheet_file::numbers` meets its contract: a turn decodes one number. Assumes nothing.
use Rattle.std.proofs.Common.{arith}
use Rattle.sheet_file.proofs.Laws.{numbers-turn, numbers-end}
use Rattle.sheet_file.proofs.numbers.Goals as goal

pub loop-i-preserved : goal.loop-i-preserved
loop-i-preserved c =
    numbers-turn c.args.file.now c.loop-i.s c.loop-i.i c.number.result (omega arith) (omega arith) c.loop-i.invariant c.number.ensures

pub returns : goal.returns
returns c = numbers-end c.args.file.now c.loop-i.s c.loop-i.i (omega arith) c.loop-i.invariant

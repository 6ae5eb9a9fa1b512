-- `sheet_file::encode` meets its contract: a turn encodes one number. Assumes nothing.
use Rattle.std.proofs.Common.{arith}
use Rattle.sheet_file.proofs.Laws.{file-turn, file-end, file-none}
use Rattle.sheet_file.proofs.encode.Goals as goal

pub returns-then-file-s : goal.returns-then-file-s
returns-then-file-s c = file-none c.args.s.now c.args.file.now c.if-file-s.true

pub loop-i-preserved : goal.loop-i-preserved
loop-i-preserved c =
    rw (c.high.ensures, c.low.ensures) (file-turn c.args.s.now c.loop-i.file c.loop-i.i c.loop-i-test.true (omega arith) c.loop-i.invariant)

pub returns : goal.returns
returns c =
    rw (← c.loop-i.auto.file) (file-end c.args.s.now c.loop-i.file c.loop-i.i (omega arith) (omega arith) c.loop-i.invariant)

-- The table has each byte's word. Assumes nothing.
use Rattle.std.proofs.Common.{arith}
use Rattle.sheet.proofs.write.Written.{looked-up}
use Rattle.sheet.proofs.write.look_up.Goals as goal

pub returns : goal.returns
returns c = looked-up c.args.table.now c.args.b c.wide.result c.requires c.wide.ensures.0 (omega arith)

use Rattle.std.proofs.Common.{rules}
use Rattle.unpacking1.proofs.Order.{passed-more}
use Rattle.unpacking1.proofs.carriers_end.Goals as goal

pub loop-end-preserved : goal.loop-end-preserved
loop-end-preserved c = search (rules, passed-more)

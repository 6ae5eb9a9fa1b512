-- A carrier more. Assumes nothing.
use Rattle.std.proofs.Common.{arith}
use Rattle.packing1.proofs.Laws.{carriers-turn}
use Rattle.packing1.proofs.lay_carriers.Goals as goal

pub loop-i-preserved : goal.loop-i-preserved
loop-i-preserved c =
    carriers-turn c.args.ws.now c.args.us.now c.loop-i.us c.put_five.new.us c.args.at c.loop-i.i c.loop-i.invariant (omega arith) c.low.ensures
    c.low-in-loop-i.ensures c.low-in-loop-i-2.ensures c.low-in-loop-i-3.ensures c.put_five.ensures

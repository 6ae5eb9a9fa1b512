-- A byte more, and all bytes. Assumes nothing.
use Rattle.std.proofs.Common.{refl, arith}
use Rattle.sections.proofs.Laws.{low_turn, low_end}
use Rattle.sections.proofs.low_bytes.Goals as goal

pub loop-i-init : goal.loop-i-init
loop-i-init c = refl

pub loop-i-preserved : goal.loop-i-preserved
loop-i-preserved c = low_turn c.args.ws.now c.loop-i.s _ c.loop-i.i (omega arith) c.low.ensures c.loop-i.invariant

pub returns : goal.returns
returns c = low_end c.args.ws.now c.loop-i.s _ c.loop-i.i (omega arith) c.loop-i.invariant

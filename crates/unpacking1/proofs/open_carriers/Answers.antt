use Rattle.unpacking1.proofs.Packet.{carry-more, carry-wrong, carry-done}
use Rattle.unpacking1.proofs.open_carriers.Goals as goal

-- one carrier more
pub loop-read-preserved : goal.loop-read-preserved
loop-read-preserved c = carry-more c.loop-read.invariant c.loop-read-test.true c.copy_from_slice.ensures.after c.if-us-read.true

-- no carrier
pub returns-else-us-read : goal.returns-else-us-read
returns-else-us-read c = carry-wrong c.loop-read.invariant c.loop-read-test.true c.if-us-read.false

-- all of them
pub returns-after-loop-read : goal.returns-after-loop-read
returns-after-loop-read c = carry-done c.loop-read.invariant c.loop-read-test.false

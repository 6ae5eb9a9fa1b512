-- The stores of a packet, one run after the other. Assumes nothing.
use Rattle.std.proofs.Common.{arith}
use Rattle.packing1.proofs.Laws.{packet-laid}
use Rattle.packing1.proofs.lay_packet.Goals as goal

pub returns : goal.returns
returns c = (
  packet-laid c.args.words.now c.requires.0 c.args.us.now c.args.to c.args.h0 c.args.h1 c.put_five.ensures c.lay_carriers.ensures
      c.lay_rest.ensures.0,
  omega (arith, c.lay_rest.ensures.1),
)

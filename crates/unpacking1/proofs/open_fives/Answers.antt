-- Bytes that are not whole packs (13); whole packs, which `open_packets` opens.
use Rattle.std.proofs.Common.{refl}
use Rattle.unpacking1.proofs.Laws.{refused-opens, refused-whole, whole-packs, opens-all}
use Rattle.unpacking1.proofs.open_fives.Goals as goal

-- 13: no whole packs
pub returns-then-not-whole : goal.returns-then-not-whole
returns-then-not-whole c = λ y e. refused-opens (refused-whole _ _ c.whole.ensures c.if-not-whole.true y) refl

pub open_packets-requires : goal.open_packets-requires
open_packets-requires c = whole-packs _ _ c.whole.ensures c.if-not-whole.false

-- packet by packet
pub returns : goal.returns
returns c = λ y e. opens-all _ _ c.whole.ensures c.if-not-whole.false (c.open_packets.ensures y e)

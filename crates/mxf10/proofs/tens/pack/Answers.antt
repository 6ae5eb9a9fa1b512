-- Three words to four bytes, and what is left. Assumes nothing.
use Rattle.std.proofs.Common.{◌+◌, ◌*◌, ◌/◌, length, arith}
use Rattle.mxf10.proofs.TensLaws.{ten-at, pack-all, pack-at, pack-turn}
use Rattle.mxf10.proofs.tens.pack.Goals as goal

pub loop-k-init : goal.loop-k-init
loop-k-init c = pack-all c.args.ws.now c.args.out.now c.requires.1

pub put_three-requires : goal.put_three-requires
put_three-requires c =
    let ws = c.args.ws.now in
    let i = 3 * c.loop-k.k in
    let room = c.requires.1 in
    (ten-at ws c.requires.0 i, ten-at ws c.requires.0 (i + 1), ten-at ws c.requires.0 (i + 2), omega arith)

pub loop-k-preserved : goal.loop-k-preserved
loop-k-preserved c =
    let i = 3 * c.loop-k.k in
    let o = 4 * c.loop-k.k in
    pack-at _ _ _ (i + 3) (o + 4) _ _ (omega arith) (omega arith)
    (pack-turn _ c.loop-k.out _ i o c.loop-k.invariant _ c.put_three.ensures (omega arith))

pub put_three-requires-in-2 : goal.put_three-requires-in-2
put_three-requires-in-2 c =
    let ws = c.args.ws.now in
    let i = 3 * (length ws / 3) in
    let room = c.requires.1 in
    (ten-at ws c.requires.0 i, ten-at ws c.requires.0 (i + 1), omega arith, omega arith)

pub put_three-requires-in-1 : goal.put_three-requires-in-1
put_three-requires-in-1 c =
    let ws = c.args.ws.now in
    let i = 3 * (length ws / 3) in
    let room = c.requires.1 in
    (ten-at ws c.requires.0 i, omega arith, omega arith, omega arith)

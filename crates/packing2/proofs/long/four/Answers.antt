-- Four packs, each with the string's rest behind the one before. Assumes nothing.
use Rattle.std.proofs.Common.{arith}
use Rattle.packing2.proofs.LongLaws.{block-at, four-at}
use Rattle.packing2.proofs.long.four.Goals as goal

pub returns : goal.returns
returns g c =
    four-at g.row.N c.args.step (omega arith)
    (block-at c.pack.ensures c.put.ensures)
    (block-at c.pack-2.ensures c.put-2.ensures)
    (block-at c.pack-3.ensures c.put-3.ensures)
    (block-at c.pack-4.ensures c.put-4.ensures)
    (omega arith) (omega arith) (omega arith)

-- By where the string's rest ends in its row. Assumes nothing.
use Rattle.std.proofs.Common.{◌%◌, arith}
use Rattle.packing2.proofs.LongLaws.{count_low, count-middle, count-high, count-rows}
use Rattle.packing2.proofs.long.long_count.Goals as goal

pub returns-then-rest-le576 : goal.returns-then-rest-le576
returns-then-rest-le576 c =
    let len = c.args.len in
    let e = count_low (len % 1488) (omega arith) in
    count-rows len _ (omega arith)

pub returns-then-rest-le912 : goal.returns-then-rest-le912
returns-then-rest-le912 c =
    let len = c.args.len in
    let e = count-middle (len % 1488) (omega arith) (omega arith) in
    count-rows len _ (omega arith)

pub returns : goal.returns
returns c =
    let len = c.args.len in
    let e = count-high (len % 1488) (omega arith) (omega arith) in
    count-rows len _ (omega arith)

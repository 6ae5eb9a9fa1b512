-- The blocks of a row, each four with the string's rest behind those before. Assumes nothing.
use Rattle.packing2.proofs.LongLaws.{row_at}
use Rattle.packing2.proofs.long.lay_row.Goals as goal

pub returns : goal.returns
returns c =
    row_at c.args.to c.args.step
    c.four.ensures c.four-2.ensures c.four-3.ensures c.four-4.ensures c.four-5.ensures c.four-6.ensures

-- The blocks of a row, one after the other. Assumes nothing.
use Rattle.std.proofs.Common.{refl}
use Rattle.packing2.proofs.LongLaws.{row_laid}
use Rattle.packing2.proofs.long.fill_row.Goals as goal

pub returns : goal.returns
returns c =
    row_laid c.args.to c.args.step refl refl refl refl refl
    c.fill.ensures c.fill-2.ensures c.fill-3.ensures c.fill-4.ensures c.fill-5.ensures c.fill-6.ensures

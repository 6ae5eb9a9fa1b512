-- No number but 1 to 3 has rows. Assumes nothing.
use Rattle.std.proofs.Common.{refl, arith}
use Rattle.rules.specs.Systems.{known, system}
use Rattle.packing2.specs.Long.{rows_of, rows_found}
use Rattle.packing2.proofs.LongLaws.{none_found}
use Rattle.packing2.proofs.long.rows_of.Goals as goal

pub returns-in-1 : goal.returns-in-1
unfolding rows_found rows_of known system
returns-in-1 c = rw c.in-1.is refl

pub returns-in-2 : goal.returns-in-2
unfolding rows_found rows_of known system
returns-in-2 c = rw c.in-2.is refl

pub returns-in-3 : goal.returns-in-3
unfolding rows_found rows_of known system
returns-in-3 c = rw c.in-3.is refl

pub returns-in_default : goal.returns-in_default
returns-in_default c = none_found _ (omega arith) (omega arith) (omega arith)

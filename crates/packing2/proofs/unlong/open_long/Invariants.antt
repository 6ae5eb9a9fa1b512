-- The packs still to come, put onto the string so far, are what all user bytes open to. Assumes nothing.
use Rattle.std.proofs.Common.{◌+◌, ◌-◌}
use Rattle.packing2.specs.Long.{rows_sizes}
use Rattle.packing2.specs.Unlong.{opened_from}
use Rattle.packing2.proofs.UnlongLaws.{Opening, row_left}
use Rattle.packing2.proofs.unlong.open_long.Given as goal

abbrev pub invariant-loop : goal.invariant-loop
invariant-loop l = Opening (opened_from l.fn.system l.fn.us) l.total l.us l.at l.len (rows_sizes (l.rows - l.counter))

abbrev pub invariant-loop-k : goal.invariant-loop-k
invariant-loop-k l = Opening (opened_from l.fn.system l.fn.us) l.total l.us l.at l.len (row_left l.k (l.rows - (l.counter + 1)))

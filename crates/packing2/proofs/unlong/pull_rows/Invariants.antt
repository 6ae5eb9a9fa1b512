-- The rows still to come, put onto the string so far, open as all did. Assumes nothing.
use Rattle.std.proofs.Common.{◌≡◌, ◌-◌, ◌*◌}
use Rattle.packing2.specs.Long.{rows_sizes}
use Rattle.packing2.specs.Unlong.{opened_on}
use Rattle.packing2.proofs.unlong.pull_rows.Given as goal

abbrev pub invariant-loop-r : goal.invariant-loop-r
invariant-loop-r l =
    opened_on (rows_sizes (l.rows - l.r)) (1560 * l.rows) l.us (1560 * l.r) (1488 * l.r)
    ≡ opened_on (rows_sizes l.rows) (1560 * l.rows) l.initial.us 0 0

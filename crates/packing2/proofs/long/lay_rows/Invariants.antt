-- What is left of the rows, laid, gives the whole. Assumes nothing.
use Rattle.std.proofs.Common.{◌≡◌, ◌-◌, ◌*◌, List, ℕ, length}
use Rattle.packing2.specs.Long.{rows_runs, LaidAt}
use Rattle.packing2.proofs.long.lay_rows.Given as goal

abbrev pub invariant-loop-row : goal.invariant-loop-row
invariant-loop-row l = record {
  same_length : length l.area ≡ length l.initial.area;
  left : (whole : List ℕ) → LaidAt (rows_runs l.step (480 * l.row) (l.rows - l.row)) l.s l.len (1488 * l.row) l.area whole
      → LaidAt (rows_runs l.step 0 l.rows) l.s l.len 0 l.initial.area whole;
}

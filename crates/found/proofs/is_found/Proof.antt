-- `found::is_found` meets its contract: where the flag stands and all words are there, 8 alone is left. Assumes nothing.
use Prim.Native.Nat.{ℕ, ◌-◌, ◌≤◌}
use mathlib.Core.Path.{◌≡◌, sym, ◌∙◌}
use mathlib.Core.Bool.{false}
use mathlib.Core.List.{List}
use native.Mathlib.Omega.{arith}
use lib.ListN.{length}
use borrow.Author.Rules.{rules}
use borrow.Author.Tests.{not-true, not-false}
use Rattle.packet.proofs.Faults.{unflagged, seven-words, not-fine}
use Rattle.found.proofs.Laws.{fault-flag, not-whole, one-test}
use Rattle.found.proofs.is_found.Statement.{statement}
use Rattle.found.proofs.is_found.Tie as tie

-- the flag stands in front
module _ (c : tie.Else-not-is_flagged) where
  abbrev ws : List ℕ
  ws = c.before.before.before.args.ws.now

  flag : unflagged ws ≡ false
  flag = not-true _ (sym c.before.is_flagged.ensures ∙ not-false _ c.if-not-is_flagged.false-raw)

  long : 7 ≤ length ws
  long = seven-words ws flag

is-flagged-requires : tie.Need-is_flagged-requires
is-flagged-requires c κs = search rules

returns : tie.Need-returns-then-not-is_flagged
returns c = not-fine 7 _ (omega arith) (fault-flag _ (not-false _ (sym c.before.is_flagged.ensures ∙ not-true _ c.if-not-is_flagged.true-raw)))

shared-slice-read-size-by : tie.Need-bounds-ws-5
shared-slice-read-size-by c = let l = long c.before in omega arith

size-by-requires : tie.Need-size_by-end-requires
size-by-requires c κs = search rules

returns-2 : tie.Need-returns-then-ws-end
returns-2 c = let f : tie.Else-not-is_flagged = c.before.before.before in not-whole (ws f) (omega arith)

sub-are-ten : tie.Need-slice_bounds-are_ten-count
sub-are-ten c = search rules

part-are-ten-start : tie.Need-slice_bounds-are_ten-start
part-are-ten-start c = search rules

part-are-ten-end : tie.Need-slice_bounds-are_ten-end
part-are-ten-end c = search rules

are-ten-requires : tie.Need-are_ten-requires
are-ten-requires c κs = search rules

returns-3 : tie.Need-returns
returns-3 c =
    let d : tie.After-size_by-end = c.before.before.before in
    let f : tie.Else-not-is_flagged = d.before.before in
    c.are_ten.ensures ∙ one-test (ws f) (flag f) (omega arith) (d.size_by-end.result - 3) (omega arith)

pub is_found_spec : {M : Type 1} → statement M
is_found_spec =
    tie.close
    (tie.spec
    is-flagged-requires
    returns
    shared-slice-read-size-by
    size-by-requires
    returns-2
    sub-are-ten
    part-are-ten-start
    part-are-ten-end
    are-ten-requires
    returns-3)

-- `packet::check_of` meets its contract: CS is made of the sum that `run_of` ensures, of all words or of those behind the first two.
-- Assumes nothing.
use Prim.Native.Nat.{ℕ, ◌-◌, ◌%◌}
use mathlib.Core.Path.{◌≡◌, ap, ◌∙◌}
use mathlib.Core.List.{List}
use native.Mathlib.Omega.{arith}
use lib.ListN.{length, take, drop}
use borrow.Author.Rules.{rules}
use Rattle.rules.specs.Packet.{sum9}
use Rattle.packet.specs.declared.Run.{Run}
use Rattle.packet.proofs.Laws.{sum9-ids, check-of-sum}
use Rattle.packet.proofs.check_of.Statement.{statement}
use Rattle.packet.proofs.check_of.Tie as tie

-- the sum of all words, and of those behind the first two
sum : (c : tie.After-run_of) → c.run_of.result.sum ≡ sum9 c.before.before.before.args.ws.now % 512
sum c = ap (λ (r : Run). r.sum) c.run_of.ensures

abbrev given : tie.After-run_of-rest → List ℕ
given c = c.before.before.before.before.before.before.before.before.args.ws.now

sum-behind : (c : tie.After-run_of-rest) → c.run_of-rest.result.sum ≡ sum9 (take (length (given c) - 2) (drop 2 (given c))) % 512
sum-behind c = ap (λ (r : Run). r.sum) c.run_of-rest.ensures

run-of-requires : tie.Need-run_of-requires
run-of-requires c κs = search rules

cast-check-sum : tie.Need-overflow_cast-run_of
cast-check-sum c = search rules

check-sum-requires : tie.Need-check_sum-requires
check-sum-requires c κs = search rules

returns : tie.Need-returns-then-ws-lt2
returns c = c.check_sum.ensures ∙ check-of-sum _ _ (let e = sum c.before.before in omega arith)

shared-slice-read-low-nine : tie.Need-bounds-ws-0
shared-slice-read-low-nine c = search rules

low-nine-requires : tie.Need-low_nine-requires
low-nine-requires c κs = search rules

shared-slice-read-low-nine-2 : tie.Need-bounds-ws-1
shared-slice-read-low-nine-2 c = search rules

low-nine-requires-2 : tie.Need-low_nine-requires-2
low-nine-requires-2 c κs = search rules

add-ids : tie.Need-overflow_add-ids
add-ids c = search rules

sub-run-of : tie.Need-slice_bounds-run_of-count
sub-run-of c = search rules

part-run-of-start : tie.Need-slice_bounds-run_of-start
part-run-of-start c = search rules

part-run-of-end : tie.Need-slice_bounds-run_of-end
part-run-of-end c = search rules

run-of-requires-2 : tie.Need-run_of-rest-requires
run-of-requires-2 c κs = search rules

cast-rest : tie.Need-overflow_cast-rest
cast-rest c = search rules

add-check-sum : tie.Need-overflow_add-ids-2
add-check-sum c = search rules

check-sum-requires-2 : tie.Need-check_sum-requires-2
check-sum-requires-2 c κs = search rules

returns-2 : tie.Need-returns
returns-2 c =
    let r : tie.After-run_of-rest = c.before.before in
    let second = r.before.before in
    let first = second.before.before in
    c.check_sum-2.ensures
    ∙ check-of-sum _ (given r)
    (sum9-ids (given r) _ _ _ first.before.before.if-ws-lt2.false first.low_nine.ensures second.low_nine-2.ensures (sum-behind r))

pub check_of_spec : {M : Type 1} → statement M
check_of_spec =
    tie.close
    (tie.spec
    run-of-requires
    cast-check-sum
    check-sum-requires
    returns
    shared-slice-read-low-nine
    low-nine-requires
    shared-slice-read-low-nine-2
    low-nine-requires-2
    add-ids
    sub-run-of
    part-run-of-start
    part-run-of-end
    run-of-requires-2
    cast-rest
    add-check-sum
    check-sum-requires-2
    returns-2)

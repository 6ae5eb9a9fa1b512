-- The frame's packs, row by row and then one by one: each turn is one of `turn_gap`, `turn_last` and `turn_more`. Assumes nothing.
use Rattle.std.proofs.Common.{◌≤◌, ◌*◌, length, refl, ◌∙◌, arith}
use Rattle.packing2.proofs.LongLaws.{found_rows}
use Rattle.packing2.proofs.UnlongLaws.{unknown-answer, opening-start, opening-row, opening-next, opening-end}
use Rattle.packing2.proofs.UnlongLaws.{turn-within, turn_gap, turn_last, turn_more}
use Rattle.packing2.proofs.unlong.open_long.Goals as goal

pub returns-in_err-rows : goal.returns-in_err-rows
returns-in_err-rows c =
    let a = unknown-answer c.args.system c.args.us.now c.in_err-rows.ensures in
    record { value = c.from_residual.ensures ∙ a.0; pulled = a.1 }

pub overflow_mul-total : goal.overflow_mul-total
overflow_mul-total c = let f = found_rows _ _ c.in_ok-rows.ensures in omega arith

pub pull_rows-whole-requires : goal.pull_rows-whole-requires
pull_rows-whole-requires c = (found_rows _ _ c.in_ok-rows.ensures).most

pub overflow_mul-at : goal.overflow_mul-at
overflow_mul-at c = let f = found_rows _ _ c.in_ok-rows.ensures in omega arith

pub overflow_mul-len : goal.overflow_mul-len
overflow_mul-len c = let f = found_rows _ _ c.in_ok-rows.ensures in omega arith

pub loop-init : goal.loop-init
loop-init c =
    let p = c.pull_rows-whole.ensures in
    opening-start c.args.system _ _ c.args.us.now _ (found_rows _ _ c.in_ok-rows.ensures) p.upper_bound p.result_after

pub loop-k-init : goal.loop-k-init
loop-k-init c = opening-row c.in_ok-rows.rows c.loop.counter c.loop-test.true c.loop.invariant

pub bounds-s-at : goal.bounds-s-at
bounds-s-at c =
    let f = found_rows _ _ c.in_ok-rows.ensures in
    let long : 1560 * c.in_ok-rows.rows ≤ length c.loop-k.us = omega arith in
    let w = turn-within _ c.loop-k.invariant c.loop-k-test.true long refl in
    omega arith

pub returns-then-s-at : goal.returns-then-s-at
returns-then-s-at c =
    let f = found_rows _ _ c.in_ok-rows.ensures in
    let long : 1560 * c.in_ok-rows.rows ≤ length c.loop-k.us = omega arith in
    let a = turn_gap _ c.loop-k.invariant c.loop-k-test.true long refl (λ q. omega arith) in
    record { value = a.0; pulled = a.1 }

pub bounds-s-at-in-loop-k : goal.bounds-s-at-in-loop-k
bounds-s-at-in-loop-k c =
    let f = found_rows _ _ c.in_ok-rows.ensures in
    let long : 1560 * c.in_ok-rows.rows ≤ length c.loop-k.us = omega arith in
    let w = turn-within _ c.loop-k.invariant c.loop-k-test.true long refl in
    omega arith

pub pull-room-requires : goal.pull-room-requires
pull-room-requires c =
    let f = found_rows _ _ c.in_ok-rows.ensures in
    let long : 1560 * c.in_ok-rows.rows ≤ length c.loop-k.us = omega arith in
    let w = turn-within _ c.loop-k.invariant c.loop-k-test.true long refl in
    (omega arith, omega arith)

pub last-requires : goal.last-requires
last-requires c =
    let f = found_rows _ _ c.in_ok-rows.ensures in
    let long : 1560 * c.in_ok-rows.rows ≤ length c.loop-k.us = omega arith in
    let w = turn-within _ c.loop-k.invariant c.loop-k-test.true long c.pull-room.ensures.value in
    (omega arith, omega arith)

pub returns-then-end-eq0 : goal.returns-then-end-eq0
returns-then-end-eq0 c =
    let f = found_rows _ _ c.in_ok-rows.ensures in
    let long : 1560 * c.in_ok-rows.rows ≤ length c.loop-k.us = omega arith in
    let p = c.pull-room.ensures in
    let a = turn_last _ c.loop-k.invariant c.loop-k-test.true long p.value (omega arith) p.us_after (omega arith) c.last.ensures in
    record { value = a.0; pulled = a.1 }

pub loop-k-preserved : goal.loop-k-preserved
loop-k-preserved c =
    let f = found_rows _ _ c.in_ok-rows.ensures in
    let long : 1560 * c.in_ok-rows.rows ≤ length c.loop-k.us = omega arith in
    let p = c.pull-room.ensures in
    turn_more _ c.loop-k.invariant c.loop-k-test.true long p.value (omega arith) p.us_after (λ q. omega arith)

pub loop-preserved : goal.loop-preserved
loop-preserved c = opening-next c.loop-k.k _ (omega arith) c.loop-k.invariant

pub returns : goal.returns
returns c =
    let a = opening-end _ (omega arith) c.loop.invariant in
    record { value = a.0; pulled = a.1 }

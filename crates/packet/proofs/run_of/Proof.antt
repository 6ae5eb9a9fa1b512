-- `packet::run_of` meets its contract. The loop's invariant: what is found so far, joined with what the words from `at` on give,
-- is what all of them give, the sum modulo 512. The measure is the number of words left. Assumes nothing.
use Prim.Native.Nat.{ℕ, ◌+◌, ◌-◌, ◌*◌, ◌%◌, ◌≤◌, ◌<◌}
use mathlib.Core.Path.{◌≡◌, refl, ap₂, sym, ◌∙◌}
use mathlib.Core.Bool.{Bool, ◌&&◌}
use mathlib.Core.List.{List}
use native.Mathlib.Omega.{arith}
use native.Mathlib.Nat.{le_refl}
use lib.ListN.{length, take, drop}
use borrow.Author.Rules.{rules}
use Rattle.rules.specs.Packet.{sum9}
use Rattle.rules.specs.Laying.{are_words}
use Rattle.packet.specs.Run.{pass_of}
use Rattle.packet.specs.declared.Pass.{Pass}
use Rattle.packet.proofs.Laws.{words-end, sum9-end, words-part, sum9-part, sum9-most}
use Rattle.packet.proofs.run_of.Statement.{statement}
use Rattle.packet.proofs.run_of.Tie as tie

abbrev invariant-loop : tie.invariant-loop-at
invariant-loop ws at₀ ok₀ sum₀ at ok sum =
    (at ≤ length ws) × (sum < 512) × ((ok && are_words (drop at ws)) ≡ are_words ws) × ((sum + sum9 (drop at ws)) % 512 ≡ sum9 ws % 512)

abbrev decreases-loop : tie.decreases-loop-at
decreases-loop ws at₀ ok₀ sum₀ at ok sum = length ws - at

-- a pass over n words finds 511 for each at most
most-sum : (n : ℕ) (ws : List ℕ) (r : Pass) → r ≡ pass_of (take n ws) → r.sum ≤ 511 * n
most-sum n ws r e = rw e (sum9-most n ws)

loop-holds : tie.Need-loop-at-init invariant-loop decreases-loop
loop-holds c = (search rules, search rules, refl, omega arith)

sub-loop : tie.Need-overflow_sub-ws invariant-loop decreases-loop
sub-loop c = search rules

add-pass-of : tie.Need-overflow_add-at invariant-loop decreases-loop
add-pass-of c = search rules

mul-pass-of : tie.Need-offset_bounds-ws-at invariant-loop decreases-loop
mul-pass-of c = search rules

sub-pass-of : tie.Need-slice_bounds-pass_of-count invariant-loop decreases-loop
sub-pass-of c = search rules

part-pass-of-start : tie.Need-slice_bounds-pass_of-start invariant-loop decreases-loop
part-pass-of-start c = search rules

part-pass-of-end : tie.Need-slice_bounds-pass_of-end invariant-loop decreases-loop
part-pass-of-end c = search rules

pass-of-requires : tie.Need-pass_of-part-requires invariant-loop decreases-loop
pass-of-requires c κs = search rules

add-sum : tie.Need-overflow_add-sum invariant-loop decreases-loop
add-sum c =
    let p = c.before.before in
    let at = p.before.before.before.loop-at.at in
    let most : p.pass_of-part.result.sum ≤ 511 * (at + 258 - at) = most-sum _ _ _ p.pass_of-part.ensures in
    omega arith

add_at : tie.Need-overflow_add-at-in-loop-at invariant-loop decreases-loop
add_at c = search rules

loop-less : tie.Need-loop-at-smaller invariant-loop decreases-loop
loop-less c = search rules

loop-again : tie.Need-loop-at-preserved invariant-loop decreases-loop
loop-again c =
    let p = c.before.before in
    let d = p.before.before.before in
    let f : d.loop-at.at + (d.loop-at.at + 258 - d.loop-at.at) ≡ d.loop-at.at + 258 = omega arith in (
      search rules,
      search rules,
      words-part d.loop-at.ok _ _ _ _ _ p.pass_of-part.ensures f ∙ d.loop-at.invariant.2,
      omega (arith, sum9-part _ _ _ _ _ p.pass_of-part.ensures f),
    )

mul-pass-of-2 : tie.Need-offset_bounds-ws-at-2 invariant-loop decreases-loop
mul-pass-of-2 c = search rules

sub-pass-of-2 : tie.Need-slice_bounds-pass_of-count-2 invariant-loop decreases-loop
sub-pass-of-2 c = search rules

part-pass-of-start-2 : tie.Need-slice_bounds-pass_of-start-2 invariant-loop decreases-loop
part-pass-of-start-2 c = search rules

part-pass-of-end-2 : tie.Need-slice_bounds-pass_of-end-2 invariant-loop decreases-loop
part-pass-of-end-2 c = search rules

pass-of-requires-2 : tie.Need-pass_of-last-requires invariant-loop decreases-loop
pass-of-requires-2 c κs = search rules

add-t21 : tie.Need-overflow_add-result invariant-loop decreases-loop
add-t21 c =
    let p = c.before.before in
    let d = p.before.before.before in
    let left = length d.before.before.args.ws.now - d.loop-at.at in
    let most : p.pass_of-last.result.sum ≤ 511 * left = most-sum _ _ _ p.pass_of-last.ensures in
    omega arith

cast-t23 : tie.Need-overflow_cast-result invariant-loop decreases-loop
cast-t23 c = search rules

returns : tie.Need-returns invariant-loop decreases-loop
returns c =
    let p = c.before.before in
    let d = p.before.before.before in
    let at = d.loop-at.at in
    let ws = d.before.before.args.ws.now in
    let end : at + (length ws - at) ≡ length ws = omega arith in
    let words : (d.loop-at.ok && p.pass_of-last.result.words) ≡ are_words ws =
    sym (words-end _ (length ws) ws (le_refl (length ws))) ∙ words-part d.loop-at.ok _ at _ ws _ p.pass_of-last.ensures end ∙ d.loop-at.invariant.2 in
    let sum : (d.loop-at.sum + p.pass_of-last.result.sum) % 512 ≡ sum9 ws % 512 =
    omega (arith, sum9-part _ at _ ws _ p.pass_of-last.ensures end, sum9-end (length ws) ws (le_refl (length ws))) in
    ap₂ (λ (w : Bool) (n : ℕ). record { words = w; sum = n }) words sum

pub run_of_spec : {M : Type 1} → statement M
run_of_spec =
    tie.close
    (tie.spec
    invariant-loop
    decreases-loop
    loop-holds
    sub-loop
    add-pass-of
    mul-pass-of
    sub-pass-of
    part-pass-of-start
    part-pass-of-end
    pass-of-requires
    add-sum
    add_at
    loop-less
    loop-again
    mul-pass-of-2
    sub-pass-of-2
    part-pass-of-start-2
    part-pass-of-end-2
    pass-of-requires-2
    add-t21
    cast-t23
    returns)

-- `frame::block_start` meets its contract. The one product of two variables has its bound from a law; the rest is linear.
-- Assumes nothing.
use Prim.Native.Nat.{ℕ, ◌≤◌, ◌<◌, ◌*◌}
use native.Mathlib.Nat.{mul-le-mul}
use native.Mathlib.Omega.{arith}
use borrow.Author.Rules.{rules}
use Rattle.rules.specs.Blocks.{block_start}
use Rattle.frame.proofs.block_start.Statement.{statement}
use Rattle.frame.proofs.block_start.Tie as tie

-- a product of two bytes
small : {a b : ℕ} → a < 256 → b < 256 → a * b ≤ 65025
small {a} {b} h k =
    let x : a ≤ 255 = omega arith in
    let y : b ≤ 255 = omega arith in
    mul-le-mul x y

wide-requires : tie.Need-wide-requires
wide-requires c κs = search rules

wide-requires-2 : tie.Need-wide-requires-2
wide-requires-2 c κs = search rules

mul-result : tie.Need-overflow_mul-result
mul-result c = omega (arith, small c.before.wide.ensures.1 c.wide-2.ensures.1)

wide-requires-3 : tie.Need-wide-requires-3
wide-requires-3 c κs = search rules

add-result : tie.Need-overflow_add-result
add-result c = omega (arith, small c.before.before.wide.ensures.1 c.before.wide-2.ensures.1)

mul-result-2 : tie.Need-overflow_mul-result-2
mul-result-2 c = omega (arith, small c.before.before.wide.ensures.1 c.before.wide-2.ensures.1)

wide-requires-4 : tie.Need-wide-requires-4
wide-requires-4 c κs = search rules

add-result-2 : tie.Need-overflow_add-result-2
add-result-2 c = omega (arith, small c.before.before.before.wide.ensures.1 c.before.before.wide-2.ensures.1)

mul-result-3 : tie.Need-overflow_mul-result-3
mul-result-3 c = omega (arith, small c.before.before.before.wide.ensures.1 c.before.before.wide-2.ensures.1)

returns : tie.Need-returns
unfolding block_start
returns c =
    simp (
      c.before.before.before.wide.ensures.0,
      c.before.before.wide-2.ensures.0,
      c.before.wide-3.ensures.0,
      c.wide-4.ensures.0,
    )

pub block_start_spec : {M : Type 1} → statement M
block_start_spec =
    tie.close
    (tie.spec
    wide-requires
    wide-requires-2
    mul-result
    wide-requires-3
    add-result
    mul-result-2
    wide-requires-4
    add-result-2
    mul-result-3
    returns)

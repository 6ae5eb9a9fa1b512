-- The pair here stands, or it is the first that does not, or there is none.
use Prim.Native.Nat.{◌/◌}
use mathlib.Core.Path.{◌≡◌, ◌∙◌}
use native.Mathlib.Omega.{arith}
use lib.ListN.{length}
use Rattle.rules.specs.Laying.{location_stands}
use Rattle.sheet.proofs.Laws.{stand-more, line-past, flags-past, front-end}
use Rattle.sheet.proofs.standing.Goals as goal
use Rattle.sheet.proofs.standing.Goals.{then-ls-k-via-then-ls-k, then-ls-k-via-else-ls-k+then-ls-k-gt3}

pub returns-then-ls-k : goal.returns-then-ls-k
returns-then-ls-k c y e =
    let k = c.loop-k.k in
    elim c.then-ls-k.branch [
      | then-ls-k-via-then-ls-k w ↦ line-past y _ e k c.args.ls.now (omega arith) (omega arith) ∙ c.loop-k.invariant y e
      | then-ls-k-via-else-ls-k+then-ls-k-gt3 w ↦ flags-past y _ e k c.args.ls.now (omega arith) (omega arith) ∙ c.loop-k.invariant y e
    ]

pub loop-k-preserved : goal.loop-k-preserved
loop-k-preserved c y e = stand-more y _ e c.loop-k.k c.args.ls.now (omega arith) (omega arith) (omega arith) ∙ c.loop-k.invariant y e

pub returns : goal.returns
returns c y e =
    let k : length c.args.ls.now / 2 ≡ c.loop-k.k = omega arith in
    k ∙ front-end (location_stands y) c.loop-k.k c.args.ls.now (omega arith) ∙ c.loop-k.invariant y e

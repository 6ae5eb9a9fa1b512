-- The pair here is in place, or it is the first that is not, or there is none.
use Prim.Native.Nat.{◌/◌}
use mathlib.Core.Path.{◌≡◌, sym, ◌∙◌}
use native.Mathlib.Omega.{arith}
use lib.ListN.{length}
use Rattle.sheet.specs.Standing.{in_place}
use Rattle.sheet.proofs.Laws.{place-more, place-flags, place-line, front-end}
use Rattle.sheet.proofs.in_place.Goals as goal
use Rattle.sheet.proofs.in_place.Goals.{then-ls-k-gt3-via-then-ls-k-gt3, then-ls-k-gt3-via-else-ls-k-gt3+then-not-may_stand}

pub returns-then-ls-k-gt3 : goal.returns-then-ls-k-gt3
returns-then-ls-k-gt3 c y e =
    let k = c.loop-k.k in
    elim c.then-ls-k-gt3.branch [
      | then-ls-k-gt3-via-then-ls-k-gt3 w ↦ place-flags y _ e k c.args.ls.now (omega arith) (omega arith) ∙ c.loop-k.invariant y e
      | then-ls-k-gt3-via-else-ls-k-gt3+then-not-may_stand w ↦
          place-line y _ e k c.args.ls.now (omega arith) (sym (w.may_stand.ensures y e) ∙ w.if-not-may_stand.true)
          ∙ c.loop-k.invariant y e
    ]

pub loop-k-preserved : goal.loop-k-preserved
loop-k-preserved c y e =
    place-more y _ e c.loop-k.k c.args.ls.now (omega arith) (omega arith) (sym (c.may_stand.ensures y e) ∙ c.if-not-may_stand.false)
    ∙ c.loop-k.invariant y e

pub returns : goal.returns
returns c y e =
    let k : length c.args.ls.now / 2 ≡ c.loop-k.k = omega arith in
    k ∙ front-end (in_place y) c.loop-k.k c.args.ls.now (omega arith) ∙ c.loop-k.invariant y e

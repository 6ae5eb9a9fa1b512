-- What the pair here adds, and the end.
use native.Mathlib.Omega.{arith}
use Rattle.sheet.proofs.Laws.{pass-more, pass-end}
use Rattle.sheet.proofs.all_in.Goals as goal

pub loop-k-preserved : goal.loop-k-preserved
loop-k-preserved g c y e =
    pass-more y c.args.ls.now c.loop-k.k c.loop-k.all _ (omega arith) (c.is_allowed.ensures y e) (c.loop-k.invariant y e)

pub returns : goal.returns
returns g c y e = pass-end y c.args.ls.now c.loop-k.k c.loop-k.all (omega arith) (omega arith) (c.loop-k.invariant y e)

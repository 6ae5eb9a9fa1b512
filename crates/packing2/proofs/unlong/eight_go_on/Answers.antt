-- A pack more tested. Assumes nothing.
use Rattle.std.proofs.Common.{◌≡◌, ◌+◌, ◌*◌, ◌∙◌, sym, arith}
use Rattle.packing2.proofs.UnlongLaws.{test-turn, test-end}
use Rattle.packing2.proofs.unlong.eight_go_on.Goals as goal

pub loop-i-preserved : goal.loop-i-preserved
loop-i-preserved c =
    let l = c.loop-i in
    let z = c.args in
    let next : z.at + z.size * (l.i + 1) ≡ z.at + z.size * l.i + z.size = grind arith in
    rw next (test-turn l.ok z.us.now (z.at + z.size * l.i) l.i z.size (omega arith) ∙ l.invariant)

pub returns : goal.returns
returns c = let l = c.loop-i in sym (test-end l.ok _ l.i c.args.size (omega arith)) ∙ l.invariant

-- 720/60p; every other system. Assumes nothing.
use borrow.Author.Tests.{eq-eqb, ne_eqb}
use Rattle.mxf.specs.Element.{progressive, wrapping}
use Rattle.mxf.proofs.wrapping.Goals as goal

pub returns-then-system-eq3 : goal.returns-then-system-eq3
unfolding wrapping progressive
returns-then-system-eq3 c = rw (eq-eqb c.args.system 3 c.if-system-eq3.true)

pub returns : goal.returns
unfolding wrapping progressive
returns c = rw (ne_eqb c.args.system 3 c.if-system-eq3.false)

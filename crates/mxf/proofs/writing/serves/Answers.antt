-- Every packet of a 1080 system, of 720/60p those with the call's FI. Assumes nothing.
use borrow.Author.Tests.{eq-eqb, ne_eqb}
use Rattle.mxf.specs.Element.{progressive}
use Rattle.mxf.specs.Served.{serves}
use Rattle.mxf.proofs.writing.serves.Goals as goal

pub returns-then-system-ne3 : goal.returns-then-system-ne3
unfolding progressive serves
returns-then-system-ne3 c = rw (ne_eqb c.args.system 3 c.if-system-ne3.true)

pub returns-then-fi : goal.returns-then-fi
unfolding progressive serves
returns-then-fi c = rw (eq-eqb c.args.system 3 c.if-system-ne3.false, c.if-fi.true)

pub returns : goal.returns
unfolding progressive serves
returns c = rw (eq-eqb c.args.system 3 c.if-system-ne3.false, c.if-fi.false)

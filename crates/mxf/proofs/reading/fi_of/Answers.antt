-- The call's FI where the system is 720/60p, 0 elsewhere. Assumes nothing.
use borrow.Author.Tests.{eq-eqb, ne_eqb}
use Rattle.mxf.specs.Element.{progressive}
use Rattle.mxf.specs.Served.{fi_read}
use Rattle.mxf.proofs.reading.fi_of.Goals as goal
use Rattle.mxf.proofs.reading.fi_of.Goals.{else-system-eq3-via-then-system-eq3+else-fi, else-system-eq3-via-else-system-eq3}

pub returns-then-fi : goal.returns-then-fi
unfolding fi_read progressive
returns-then-fi c = rw (eq-eqb c.args.system 3 c.if-system-eq3.true, c.if-fi.true)

pub returns : goal.returns
unfolding fi_read progressive
returns c =
    elim c.else-system-eq3.branch [
      | else-system-eq3-via-then-system-eq3+else-fi w ↦ rw (eq-eqb c.args.system 3 w.if-system-eq3.true, w.if-fi.false)
      | else-system-eq3-via-else-system-eq3 w ↦ rw (ne_eqb c.args.system 3 w.if-system-eq3.false)
    ]

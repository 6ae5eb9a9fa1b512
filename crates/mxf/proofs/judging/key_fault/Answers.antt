-- The key byte by byte. Assumes nothing.
use Rattle.std.proofs.Common.{◌∙◌, arith}
use Rattle.mxf.specs.Element.{key}
use Rattle.mxf.proofs.JudgingLaws.{key-missing, key-differs, key_more, key-end}
use Rattle.mxf.proofs.judging.key_fault.Goals as goal
use Rattle.mxf.proofs.judging.key_fault.Goals.{then-i-e-via-then-i-e, then-i-e-via-else-i-e+then-e-i}

pub returns-then-i-e : goal.returns-then-i-e
unfolding key
returns-then-i-e c = λ o.
    let i = c.loop-i.i in
    c.loop-i.invariant.1 o
    ∙ elim c.then-i-e.branch [
      | then-i-e-via-then-i-e w ↦ key-missing i _ o (omega arith) w.if-i-e.true
      | then-i-e-via-else-i-e+then-e-i w ↦ key-differs i _ o (omega arith) (omega arith) w.if-e-i.true
    ]

pub loop-i-preserved : goal.loop-i-preserved
unfolding key
loop-i-preserved c =
    (omega arith, λ o. c.loop-i.invariant.1 o ∙ key_more c.loop-i.i _ o (omega arith) (omega arith) c.if-e-i.false)

pub returns : goal.returns
returns c = λ o. c.loop-i.invariant.1 o ∙ key-end c.loop-i.i _ o (omega arith)

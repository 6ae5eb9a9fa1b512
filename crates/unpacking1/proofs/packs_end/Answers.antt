-- A law for each way through: no starter; no carrier; fewer carriers than DC needs; more of them; and exactly as many, before another pack or
-- at the end.
use Rattle.std.proofs.Common.{arith, sym, ◌∙◌}
use borrow.Author.Tests.{eqb-true, eqb-false, ltb-true}
use Rattle.unpacking1.proofs.Packet.{no-starter, no-carrier, too_few, too_many, ends-before, ends_last}
use Rattle.unpacking1.proofs.packs_end.Goals as goal
use Rattle.unpacking1.proofs.packs_end.Goals.{
  then-us-at-via-then-us-at,
  then-us-at-via-else-us-at+then-total-at,
  then-total-stop-via-then-total-stop,
  then-total-stop-via-else-total-stop+then-us-stop,
  then-stop-total,
  else-stop-total,
}

pub returns-then-us-at : goal.returns-then-us-at
returns-then-us-at c =
    let p = c.requires in
    elim c.then-us-at.branch [
      | then-us-at-via-then-us-at w ↦ no-starter p.0 p.1 w.if-us-at.true
      | then-us-at-via-else-us-at+then-total-at w ↦ no-carrier p.0 p.1 w.if-total-at.true
    ]

pub returns-then-total-stop : goal.returns-then-total-stop
returns-then-total-stop c =
    let d = c.wide.ensures.0 in
    elim c.then-total-stop.branch [
      | then-total-stop-via-then-total-stop w ↦ too_few c.requires.0 d c.if-total-at.false w.if-total-stop.true
      | then-total-stop-via-else-total-stop+then-us-stop w ↦
          elim w.if-stop-total.branch [
            | then-stop-total v ↦
                too_many c.requires.0 d c.if-total-at.false w.if-total-stop.false v.if-stop-total.true
                (eqb-true _ 226 (sym v.value-is ∙ w.if-us-stop.true))
            | else-stop-total v ↦ let k = ltb-true _ _ (sym v.value-is ∙ w.if-us-stop.true) in absurd (omega arith)
          ]
    ]

pub returns : goal.returns
returns c =
    let p = c.requires.0 in
    let d = c.wide.ensures.0 in
    elim c.if-stop-total.branch [
      | then-stop-total w ↦ ends-before p d c.if-total-at.false c.if-total-stop.false c.if-us-at.false w.if-stop-total.true
          (eqb-false _ 226 (sym w.value-is ∙ c.if-us-stop.false))
      | else-stop-total w ↦ ends_last p d c.if-total-at.false c.if-total-stop.false c.if-us-at.false w.if-stop-total.false
    ]

-- In order: 14 of a carrier; no carrier, or no pack.
use Rattle.std.proofs.Common.{sym, ap, ◌∙◌}
use Rattle.std.specs.Prelude.{Err}
use borrow.Author.Tests.{ne_eqb}
use Rattle.rules.specs.declared.Refused.{Refused}
use Rattle.unpacking1.proofs.Packs.{packs-none}
use Rattle.unpacking1.proofs.Packet.{lead-none, lead-some}
use Rattle.unpacking1.proofs.ended.Goals as goal
use Rattle.unpacking1.proofs.ended.Goals.{else-at-total-via-then-at-total+else-us-at, else-at-total-via-else-at-total}

pub returns-then-us-at : goal.returns-then-us-at
returns-then-us-at c =
    let o = sym c.starter.ensures ∙ c.if-not-starter.false in
    rw (o, ne_eqb _ 0 (lead-some c.requires c.if-at-total.true c.if-us-at.true)) (ap (λ (e : Refused). Err e) c.placed.ensures)

pub returns : goal.returns
returns c =
    let o = sym c.starter.ensures ∙ c.if-not-starter.false in
    elim c.else-at-total.branch [
      | else-at-total-via-then-at-total+else-us-at w ↦ rw (o, lead-none c.requires w.if-at-total.true w.if-us-at.false)
      | else-at-total-via-else-at-total w ↦ rw (o, packs-none c.args.us.now c.args.at c.args.total w.if-at-total.false)
    ]

-- One law for each way through: no pack is left; a carrier; a starter, where the other reader goes on; neither.
use Rattle.std.proofs.Common.{arith, rules, sym, ◌∙◌, ◌≡◌, get_or}
use Rattle.unpacking1.proofs.Order.{order-end, order-short, order-carrier, order-starter, order-second, order-no-carrier, order-rest}
use Rattle.unpacking1.proofs.+carrier_starter.Goals as goal
use Rattle.unpacking1.proofs.+carrier_starter.Goals.{
  carrier-then-at-total-via-then-at-total,
  carrier-then-at-total-via-else-at-total+then-us-at,
}

pub carrier-returns-then-at-total : goal.carrier-returns-then-at-total
carrier-returns-then-at-total t c =
    let p = c.requires in
    let a = c.args in
    elim c.then-at-total.branch [
      | carrier-then-at-total-via-then-at-total w ↦ sym (order-short a.us.now a.at a.total (omega arith))
      | carrier-then-at-total-via-else-at-total+then-us-at w ↦ sym (order-no-carrier p (omega arith) w.if-us-at.true)
    ]

pub carrier-returns : goal.carrier-returns
carrier-returns t c =
    let p = c.requires in
    c.starter.ensures ∙ c.carriers_end.ensures.same ∙ sym (order-second p (omega arith) c.if-us-at.false)

pub starter-returns-then-at-total : goal.starter-returns-then-at-total
starter-returns-then-at-total t c = let a = c.args in sym (order-end a.us.now a.at a.total (omega arith))

pub starter-returns-in-226 : goal.starter-returns-in-226
starter-returns-in-226 t c = let p = c.requires in c.starter.ensures ∙ sym (order-carrier p (omega arith) c.in-226.is)

pub starter-returns-in-225 : goal.starter-returns-in-225
starter-returns-in-225 t c = let p = c.requires in c.carrier.ensures ∙ sym (order-starter p (omega arith) c.in-225.is)

pub starter-returns-in_default : goal.starter-returns-in_default
starter-returns-in_default t c =
    let p = c.requires in
    let n : get_or c.args.us.now c.args.at 0 ≡ 0xE2 → ⊥ = search rules in
    let m : get_or c.args.us.now c.args.at 0 ≡ 0xE1 → ⊥ = search rules in
    c.all_fill.ensures ∙ sym (order-rest p (omega arith) n m)

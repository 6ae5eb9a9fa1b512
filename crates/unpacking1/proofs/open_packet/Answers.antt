-- 14 by a pack that is no carrier, and by unused bytes that are not FFh, or 13 in their place; and the packet moved down.
use Rattle.std.proofs.Common.{sym, ◌∙◌}
use Rattle.unpacking1.proofs.Packet.{opened-shut, packet-shut, packet-opened}
use Rattle.unpacking1.proofs.open_packet.Goals as goal

pub returns-then-reached-stop : goal.returns-then-reached-stop
returns-then-reached-stop c =
    let p = c.requires in
    opened-shut p.0 c.in-Some.ensures p.2 c.copy_from_slice.ensures.after c.open_carriers-reached.ensures
    c.if-reached-stop.true c.carriers_refusal.ensures

pub returns-then-not-unused_are_fill : goal.returns-then-not-unused_are_fill
returns-then-not-unused_are_fill c =
    let p = c.requires in
    packet-shut p.0 c.in-Some.ensures p.2 c.copy_from_slice.ensures.after c.open_carriers-reached.ensures c.if-reached-stop.false c.wide-dc.ensures.0
    (sym c.unused_are_fill.ensures ∙ c.if-not-unused_are_fill.true) c.order_refusal-then-not-unused_are_fill.ensures

pub returns : goal.returns
returns c =
    let p = c.requires in
    packet-opened p.0 c.in-Some.ensures p.2 c.copy_from_slice.ensures.after c.open_carriers-reached.ensures
    c.if-reached-stop.false c.wide-dc.ensures.0
    (sym c.unused_are_fill.ensures ∙ c.if-not-unused_are_fill.false)

-- The first six words, the user words lent and come back, and CS of their sums. Assumes nothing.
use Rattle.std.proofs.Common.{ℕ, ◌+◌, ◌%◌, List, sym, ap, ◌∙◌}
use Rattle.rules.specs.Packet.{sum9}
use Rattle.sheet.proofs.write.Written.{packet-written}
use Rattle.sheet.proofs.write.write_packet.Goals as goal

pub returns : goal.returns
returns c =
    let users = c.write_looked_up-sum.ensures in
    packet-written c.args.s.now c.args.out.now _ c.requires.in_bounds.0 c.requires.in_bounds.2 c.write_head-ids.ensures.out_after
    _ users.out_after _ _ _ c.write_head-ids.ensures.value.0
    (users.result_value ∙ ap (λ (t : List ℕ). (c.write_head-ids.result + sum9 t) % 512) (sym users.out_after)) c.check_sum.ensures

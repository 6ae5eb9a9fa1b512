-- Fewer than 7 bytes; fewer than DC + 7; the packet whole, with a fault or without.
use Rattle.std.proofs.Common.{sym, ◌∙◌, arith}
use Rattle.std.proofs.lemmas.Result.{err_from_is_err_and}
use Rattle.danc.proofs.Laws.{too_few, too_short, fault-bytes}
use Rattle.danc.proofs.fault.Goals as goal

pub returns-then-s-lt7-clause-number : goal.returns-then-s-lt7-clause-number
returns-then-s-lt7-clause-number c y e = too_few y _ c.if-s-lt7.true

pub returns-then-s-size-clause-number : goal.returns-then-s-size-clause-number
returns-then-s-size-clause-number c y e =
    let d = c.wide-size.ensures.0 in
    let l = c.if-s-size.true in
    too_short y _ c.if-s-lt7.false (omega arith)

pub returns-in_err-packet_fault-clause-number : goal.returns-in_err-packet_fault-clause-number
returns-in_err-packet_fault-clause-number c y e =
    let d = c.wide-size.ensures.0 in
    let l = c.if-s-size.false in
    let p = err_from_is_err_and c.from_residual.result c.from_residual.ensures.1 in
    rw (p.1, p.2) (c.in_err-packet_fault.ensures y e ∙ sym (fault-bytes y _ (omega arith)))

pub returns-clause-number : goal.returns-clause-number
returns-clause-number c y e =
    let d = c.wide-size.ensures.0 in
    let l = c.if-s-size.false in
    c.in_ok-packet_fault.ensures y e ∙ sym (fault-bytes y _ (omega arith))

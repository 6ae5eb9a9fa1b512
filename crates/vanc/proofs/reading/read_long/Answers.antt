-- Nothing opened, or a string that is walked. Assumes nothing.
use Rattle.std.proofs.Common.{ap, arith}
use Rattle.rules.specs.Refusals.{told}
use Rattle.vanc.proofs.ReadLaws.{shows-of, shows-refused, long-shown, long-shut, long-open, long-len, long-string, long-within}
use Rattle.vanc.proofs.reading.read_long.Goals as goal

pub returns-in_default : goal.returns-in_default
returns-in_default c =
    λ y e.
    let w = c.in_default.ensures in
    shows-refused (long-shut y _ _ (w.value, w.pulled)) (ap told c.refused.ensures)

pub returns : goal.returns
returns c =
    λ y e.
    let q = c.requires in
    let p = c.in-Some.opened in
    let us = c.open_long.new.us in
    let w = c.in-Some.ensures in
    let bytes = long-string c.args.system q.0 c.args.us.now q.2 p us (w.value, w.pulled) in
    let walked = c.validate.ensures y e (long-within _ (long-len _ p us (w.value, w.pulled))) in
    shows-of (long-open y _ p us (w.value, w.pulled)) (long-shown y (omega arith) us p.bytes p.room c.validate.result bytes walked)

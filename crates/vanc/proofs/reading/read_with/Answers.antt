-- 3, 4, and what the user bytes say. Assumes nothing.
use Rattle.std.proofs.Common.{ap, Err}
use Rattle.std.proofs.lemmas.Result.{err_from_is_err_and}
use Rattle.rules.specs.declared.Refused.{Refused}
use Rattle.frame.proofs.Laws.{last-is, found_known, found_is}
use Rattle.vanc.specs.Read.{back_of}
use Rattle.vanc.proofs.ReadLaws.{frame-of, unknown-reads, other-reads, own-total, own-reads, found-refused}
use Rattle.vanc.proofs.reading.read_with.Goals as goal

-- 3
pub returns-in_default : goal.returns-in_default
returns-in_default c =
    unknown-reads c.args.system c.args.area.now (λ i. (c.type_inv.area i).fits) c.in_default.ensures
    (ap (λ (x : Refused). back_of (Err x)) c.refused.ensures)

-- 4
pub returns-then-area-figures : goal.returns-then-area-figures
returns-then-area-figures c =
    other-reads c.args.system c.args.area.now (λ i. (c.type_inv.area i).fits) c.in-Some.ensures c.if-area-figures.true
    (ap (λ (x : Refused). back_of (Err x)) c.refused-then-area-figures.ensures)

pub read_users-requires : goal.read_users-requires
read_users-requires c =
    let z = c.args in
    let f = c.in-Some.ensures in (
      found_known z.system _ f,
      own-total z.system z.area.now (λ i. (c.type_inv.area i).fits) f c.if-area-figures.false c.collect-total.ensures.value,
      last-is z.system _ (found_is z.system _ f),
    )

-- the user bytes
pub returns-in_err-found : goal.returns-in_err-found
returns-in_err-found c =
    let z = c.args in
    let p = err_from_is_err_and c.from_residual.result c.from_residual.ensures.1 in
    rw (p.1, p.2)
    (own-reads z.system z.area.now (λ i. (c.type_inv.area i).fits) c.in-Some.ensures c.if-area-figures.false
    c.collect-total.ensures.value z.us.now c.collect-total.ensures.us_after
    (found-refused z.system _ _ _ _ _ c.in_err-found.ensures))

pub written-requires : goal.written-requires
written-requires c = (frame-of c.args.system (found_known c.args.system _ c.in-Some.ensures)).low

pub returns : goal.returns
returns c =
    let z = c.args in
    own-reads z.system z.area.now (λ i. (c.type_inv.area i).fits) c.in-Some.ensures c.if-area-figures.false
    c.collect-total.ensures.value z.us.now c.collect-total.ensures.us_after
    (c.written.ensures _ _ c.in_ok-found.ensures)

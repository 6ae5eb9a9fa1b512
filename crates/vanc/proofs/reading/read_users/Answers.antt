-- A law for each first user byte. Assumes nothing.
use Rattle.std.proofs.Common.{ap, sym, ◌∙◌, arith}
use Rattle.std.proofs.lemmas.Result.{err_from_is_err_and}
use Rattle.rules.specs.Refusals.{told}
use Rattle.rules.specs.Systems.{system}
use Rattle.vanc.proofs.ReadLaws.{frame-of, shows-of, shows-refused, shows-none, finds-err, finds-ok, fives-found}
use Rattle.vanc.proofs.ReadLaws.{users-fives, users-long, users-fill, users-mixed, users-other}
use Rattle.vanc.proofs.reading.read_users.Goals as goal

-- E1h
pub returns-in_err-string-in-225 : goal.returns-in_err-string-in-225
returns-in_err-string-in-225 c =
    let z = c.args in
    let q = c.requires in
    let p = err_from_is_err_and c.from_residual.result c.from_residual.ensures.1 in
    rw (p.1, p.2)
    (finds-err (fives-found z.system z.total z.us.now q.0 q.1 c.told-us c.in-225.is q.2 c.in_err-string-in-225.ensures))

pub returns-in_ok-string-in-225 : goal.returns-in_ok-string-in-225
returns-in_ok-string-in-225 c =
    let z = c.args in
    let q = c.requires in
    finds-ok (users-fives z.system z.total z.us.now q.0 q.1 c.told-us c.in-225.is).0
    (fives-found z.system z.total z.us.now q.0 q.1 c.told-us c.in-225.is q.2 c.in_ok-string-in-225.ensures)

-- E3h
pub read_long-requires : goal.read_long-requires
read_long-requires c =
    let f = frame-of c.args.system c.requires.0 in
    let m = f.last in
    let q = c.requires.2 in
    (c.requires.0, omega arith, c.fits-us)

pub returns-in_err-string-in-227 : goal.returns-in_err-string-in-227
returns-in_err-string-in-227 c =
    let z = c.args in
    let q = c.requires in
    let p = err_from_is_err_and c.from_residual-in_err-string-in-227.result c.from_residual-in_err-string-in-227.ensures.1 in
    let u = users-long z.system z.total z.us.now q.0 q.1 c.told-us c.in-227.is in
    rw (p.1, p.2) (finds-err (shows-of u.1 (c.in_err-string-in-227.ensures (system z.system) (sym q.2))))

pub returns-in_ok-string-in-227 : goal.returns-in_ok-string-in-227
returns-in_ok-string-in-227 c =
    let z = c.args in
    let q = c.requires in
    let u = users-long z.system z.total z.us.now q.0 q.1 c.told-us c.in-227.is in
    finds-ok u.0 (shows-of u.1 (c.in_ok-string-in-227.ensures (system z.system) (sym q.2)))

-- FFh, and so is every other
pub shared_ref_as_front-all_fill : goal.shared_ref_as_front-all_fill
shared_ref_as_front-all_fill c = let f = frame-of c.args.system c.requires.0 in let m = f.most in let q = c.requires.1 in omega arith

pub returns-else-not-all_fill : goal.returns-else-not-all_fill
returns-else-not-all_fill c =
    let z = c.args in
    let q = c.requires in
    let u = users-fill z.system z.total z.us.now q.0 q.1 c.told-us c.in-255.is (sym c.all_fill.ensures ∙ c.if-not-all_fill.false) in
    finds-ok u.0 (shows-none u.1)

-- FFh, and another byte is not
pub returns-then-not-all_fill : goal.returns-then-not-all_fill
returns-then-not-all_fill c =
    let z = c.args in
    let q = c.requires in
    let u = users-mixed z.system z.total z.us.now q.0 q.1 c.told-us c.in-255.is (sym c.if-not-all_fill.ensures) in
    finds-err (shows-refused u (ap told c.refused.ensures))

-- none of the three
pub returns-in_default : goal.returns-in_default
returns-in_default c =
    let z = c.args in
    let q = c.requires in
    let u = users-other z.system z.total z.us.now q.0 q.1 c.told-us (λ e. omega arith) (λ e. omega arith) (λ e. omega arith) in
    finds-err (shows-refused u (ap told c.refused-in_default.ensures))

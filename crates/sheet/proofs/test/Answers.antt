-- The contract follows from its first field.
use Prim.Native.Nat.{ℕ}
use mathlib.Core.Path.{ap, ◌∙◌}
use Rattle.std.proofs.Common.{Ok, Err}
use Rattle.rules.proofs.Lister.{tests}
use Rattle.sheet.proofs.Laws.{tested-is}
use Rattle.sheet.proofs.test.Goals as goal

pub returns-in-Ok : goal.returns-in-Ok
returns-in-Ok c = tests _ _ (tested-is c.args.s.now (Ok c.in-Ok.header) c.in-Ok.ensures)

pub returns-in-Err : goal.returns-in-Err
returns-in-Err c =
    let e = c.in-Err.e in
    tests _ _
    (ap (λ (n : ℕ). record { number = n; place = e.place; word = e.word; system = 0; packets = 0; bytes = 0; packs = 0 }) c.number.ensures
    ∙ tested-is c.args.s.now (Err e) c.in-Err.ensures)

-- `packet::pass_by` meets its contract: either pass says the same, and the one that computes needs no table. Assumes nothing.
use mathlib.Core.Path.{ap}
use borrow.Author.Rules.{rules}
use Rattle.packet.specs.declared.Pass.{Pass}
use Rattle.packet.proofs.pass_by.Statement.{statement}
use Rattle.packet.proofs.pass_by.Tie as tie

looked-up-requires : tie.Need-looked_up-requires
looked-up-requires c κs = search rules

returns : tie.Need-returns-then-ws-lt-MANY
returns c = search rules

pass-of-requires : tie.Need-pass_of-requires
pass-of-requires c κs = search rules

returns-2 : tie.Need-returns
returns-2 c =
    let e = c.pass_of.ensures in
    record { words = λ h. ap (λ (r : Pass). r.words) e; sum = λ h. ap (λ (r : Pass). r.sum) e }

pub pass_by_spec : {M : Type 1} → statement M
pass_by_spec = tie.close (tie.spec looked-up-requires returns pass-of-requires returns-2)

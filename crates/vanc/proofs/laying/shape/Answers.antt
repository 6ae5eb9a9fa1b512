-- Only the refusal of the shape is given. Assumes nothing.
use Rattle.std.proofs.Common.{◌≡◌, ◌∙◌, ap, sym, rules}
use denote.Enum.Bare.{same_true}
use Rattle.rules.specs.contracts.Refusal.{the_type}
use Rattle.rules.specs.declared.Refusal.TheVariants.{Shape}
use Rattle.rules.specs.declared.Refused.{Refused}
use Rattle.vanc.proofs.LayLaws.{is-shaped}
use Rattle.vanc.proofs.laying.shape.Goals as goal

pub returns-then-eq : goal.returns-then-eq
returns-then-eq c = λ s w. (rw c.in-Err.is at w, same_true the_type (search rules) _ _ (sym c.if-eq.ensures))

pub returns-else-eq : goal.returns-else-eq
returns-else-eq c =
    λ s w.
    is-shaped s c.args.tested w
    (λ e q z.
    let x : c.in-Err.e ≡ e = cc in
    let y : c.in-Err.e.refusal ≡ Shape = ap (λ (r : Refused). r.refusal) x ∙ z in
    let h = rw y at c.if-eq.ensures in
    absurd (cc))

pub returns-in_default : goal.returns-in_default
returns-in_default c = λ s w. is-shaped s c.args.tested w (λ e q z. absurd (c.in_default.not-Err e q))

-- What callers use: figures are found exactly where a system is known, which is where they have sequences, and they are the system's.
-- Assumes nothing.
use Prim.Native.Nat.{ℕ}
use Rattle.std.proofs.Common.{Some, None}
use mathlib.Core.Path.{◌≡◌, refl, sym, ap, ◌∙◌}
use mathlib.Core.Bool.{Bool, true, false, cond}
use native.Mathlib.Omega.{arith}
use borrow.Author.Tests.{ne_eqb}
use Rattle.rules.specs.Systems.{System, known, system}
use Rattle.rules.specs.Blocks.{area_size}
use Rattle.rules.proofs.Blocks.{each-system}
use Rattle.frame.specs.Systems.{figures_of, figures_found}
use Rattle.frame.specs.declared.Figures.{Figures}

-- a system with no sequence is not known
pub unknown-figures : (sys : ℕ) → (system sys).sequences ≡ 0 → known sys ≡ false
unknown-figures =
    each-system (λ (y : System) (k : Bool). y.sequences ≡ 0 → k ≡ false)
    (λ e. absurd (omega arith))
    (λ e. absurd (omega arith))
    (λ e. absurd (omega arith))
    (λ e. refl)

-- a system with sequences is known
pub known-figures : (sys : ℕ) → ((system sys).sequences ≡ 0 → ⊥) → known sys ≡ true
known-figures =
    each-system (λ (y : System) (k : Bool). (y.sequences ≡ 0 → ⊥) → k ≡ true)
    (λ e. refl)
    (λ e. refl)
    (λ e. refl)
    (λ e. absurd (e refl))

-- the figures that are found are the system's
module _ (sys : ℕ) (x : Figures) (found : x ≡ figures_of sys) where
  pub sequences-is : x.sequences ≡ (system sys).sequences
  unfolding figures_of
  sequences-is = ap (λ (z : Figures). z.sequences) found

  pub last-is : x.last_line.0 ≡ (system sys).last
  unfolding figures_of
  last-is = ap (λ (z : Figures). z.last_line.0) found

  pub area-is : x.area ≡ area_size (system sys)
  unfolding figures_of
  area-is = ap (λ (z : Figures). z.area) found

  pub is-unknown : x.sequences ≡ 0 → known sys ≡ false
  is-unknown z = unknown-figures sys (sym sequences-is ∙ z)

  pub is_known : (x.sequences ≡ 0 → ⊥) → known sys ≡ true
  is_known z = known-figures sys (λ e. z (sequences-is ∙ e))

-- figures are found exactly where the system is known, and then they are its own
some-of : (k : Bool) (f x : Figures) → Some x ≡ cond k (Some f) None → (k ≡ true) × (x ≡ f)
some-of true f x e = (refl, cc)
some-of false f x e = absurd (cc)

none-of : (k : Bool) (f : Figures) → None ≡ cond k (Some f) None → k ≡ false
none-of true f e = absurd (cc)
none-of false f e = refl

pub found_known : (sys : ℕ) (x : Figures) → Some x ≡ figures_found sys → known sys ≡ true
unfolding figures_found
found_known sys x e = (some-of (known sys) (figures_of sys) x e).0

pub found_is : (sys : ℕ) (x : Figures) → Some x ≡ figures_found sys → x ≡ figures_of sys
unfolding figures_found
found_is sys x e = (some-of (known sys) (figures_of sys) x e).1

pub found_none : (sys : ℕ) → None ≡ figures_found sys → known sys ≡ false
unfolding figures_found
found_none sys e = none-of (known sys) (figures_of sys) e

-- no number but 1 to 3 has figures
pub none_found : (sys : ℕ) → (sys ≡ 1 → ⊥) → (sys ≡ 2 → ⊥) → (sys ≡ 3 → ⊥) → None ≡ figures_found sys
unfolding figures_found known
none_found sys a b c = rw (ne_eqb sys 1 a, ne_eqb sys 2 b, ne_eqb sys 3 c) refl

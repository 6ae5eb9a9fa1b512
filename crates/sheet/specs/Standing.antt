-- The locations of a sheet, tests 6 and 20.
-- Assumes nothing.
use Rattle.std.specs.Prelude.{ℕ, suc, ◌/◌, ◌≡◌, Bool, cond, ◌&&◌, List, [], ◌∷◌, ltb, length}
use Rattle.rules.specs.Systems.{System, allowed}
use Rattle.rules.specs.Numbers.{Outcome}
use Rattle.rules.specs.Laying.{unless_at, location_stands, location_allowed}

-- 6, "after 6 on all locations" 20, then what follows
abbrev pub location_tests : System → List ℕ → Outcome → Outcome
location_tests y ls o = unless_at 6 (location_stands y) 0 ls (unless_at 20 (location_allowed y) 0 ls o)

-- how many pairs stand in front of the first of which a test of line and flags does not hold
abbrev pub in_front : (ℕ → ℕ → Bool) → List ℕ → ℕ
in_front test [] = 0
in_front test (line ∷ []) = 0
in_front test (line ∷ flags ∷ ls) = cond (test line flags) (suc (in_front test ls)) 0

-- neither test is against it: a line that is allowed is in range
abbrev pub in_place : System → ℕ → ℕ → Bool
in_place y line flags = ltb flags 4 && allowed y line

-- each pair is in place
abbrev pub AllInPlace : System → List ℕ → Type 0
AllInPlace y ls = in_front (in_place y) ls ≡ length ls / 2

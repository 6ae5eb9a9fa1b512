-- The few words on lists and tests that the rules are written with. `cond test yes no`, `&&`, `||` and `not` are the library's,
-- and so are the tests `eqb` (equal), `ltb` (less) and `leb` (at most), and `get_or s i d`: the i-th of s, or d where s is shorter.
--
-- In order: every number is v; counting; the sum; rows joined; every item; bytes.
-- Assumes nothing.
use Rattle.std.specs.Prelude.{ℕ, zero, suc, ◌+◌, ◌<◌, Bool, true, ◌&&◌, List, [], ◌∷◌, ◌++◌, eqb, get_or}

-- every number is v
abbrev pub all_is : ℕ → List ℕ → Bool
all_is v [] = true
all_is v (x ∷ xs) = eqb x v && all_is v xs

-- first, first + 1 and so on, n of them
abbrev pub count : ℕ → ℕ → List ℕ
count first zero = []
count first (suc n) = first ∷ count (suc first) n

abbrev pub sum : List ℕ → ℕ
sum [] = 0
sum (n ∷ ns) = n + sum ns

-- what each item gives, back to back
module _ {A X : Type 0} (gives : X → List A) where
  abbrev pub joined : List X → List A
  joined [] = []
  joined (x ∷ xs) = gives x ++ joined xs

-- P holds of every item
pub data All {X : Type 0} (P : X → Type 0) : List X → Type 0 where
  none : All P []
  one : {x : X} {xs : List X} → P x → All P xs → All P (x ∷ xs)

-- every number is a byte
abbrev pub Bytes : List ℕ → Type 0
Bytes s = (i : ℕ) → get_or s i 0 < 256

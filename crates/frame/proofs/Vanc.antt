-- The lines on which a packet may stand as bits: each line that is in them is one that the rules allow, which is computed line by line.
-- Assumes nothing.
use Prim.Native.Nat.{ℕ, zero, suc, ◌≤◌, ◌<◌}
use mathlib.Core.Path.{◌≡◌, refl}
use mathlib.Core.Bool.{Bool, true, false, cond, not, ◌&&◌, ◌||◌}
use mathlib.Core.List.{List}
use native.Mathlib.Omega.{arith}
use lib.Dec.{eqb, leb}
use borrow.Author.Tests.{eqb-true, eqb-false, leb-true, ne_eqb}
use Rattle.rules.specs.Systems.{System, stands, vanc_line, allowed}
use Rattle.rules.proofs.Basics.{never, both}
use Rattle.frame.specs.Lines.{is_in, no_lines, lines1080, lines720, lines_of}

-- a test holds of every number below n
abbrev all_below : ℕ → (ℕ → Bool) → Bool
all_below zero test = true
all_below (suc n) test = test n && all_below n test

each_below : (n : ℕ) (test : ℕ → Bool) → all_below n test ≡ true → (i : ℕ) → i < n → test i ≡ true
each_below zero test e i h = absurd (omega arith)
each_below (suc n) test e i h = go (eqb i n) refl (each_below n test (both (test n) (all_below n test) e).1 i)
  where
    go : (t : Bool) → eqb i n ≡ t → (i < n → test i ≡ true) → test i ≡ true
    go true q ih = rw (eqb-true i n q) (both (test n) (all_below n test) e).0
    go false q ih = let k = eqb-false i n q in ih (omega arith)

-- a line that is in them is a line of the frame, from 1 on, that the table allows
abbrev fits : ℕ → List ℕ → ℕ → Bool
fits last lines line = not (is_in lines line) || (leb 1 line && (leb line last && vanc_line last line))

module _ (y : System) (line : ℕ) (small : line < 2048) where
  -- a line of a frame whose lines fit
  of-fits : (lines : List ℕ) → all_below 2048 (fits y.last lines) ≡ true → is_in lines line ≡ true → (1 ≤ line) × (allowed y line ≡ true)
  unfolding allowed stands
  of-fits lines all e = go (is_in lines line) e (each_below 2048 (fits y.last lines) all line small)
    where
      go : (t : Bool) → t ≡ true → (not t || (leb 1 line && (leb line y.last && vanc_line y.last line))) ≡ true
          → (1 ≤ line) × (allowed y line ≡ true)
      go true q w =
          let v = both (leb 1 line) (leb line y.last && vanc_line y.last line) w in
          let n : 1 ≤ line = leb-true 1 line v.0 in
          (n, rw (ne_eqb line 0 (λ z. omega arith)) v.1)
      go false q w = never (cc)

  pub in_lines : is_in (lines_of y.last) line ≡ true → (1 ≤ line) × (allowed y line ≡ true)
  unfolding lines_of
  in_lines = go (eqb y.last 1125) refl (eqb y.last 750) refl
    where
      go : (a : Bool) → eqb y.last 1125 ≡ a → (b : Bool) → eqb y.last 750 ≡ b → is_in (cond a lines1080 (cond b lines720 no_lines)) line ≡ true
          → (1 ≤ line) × (allowed y line ≡ true)
      go true q b r e = of-fits lines1080 (rw (eqb-true y.last 1125 q)) e
      go false q true r e = of-fits lines720 (rw (eqb-true y.last 750 r)) e
      go false q false r e = of-fits no_lines refl e

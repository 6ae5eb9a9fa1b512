-- Bytes moved from one list into another: moves one after the other, and rows in a loop.
-- Assumes nothing.
use Prim.Native.Nat.{ℕ, suc, ◌+◌, ◌-◌, ◌*◌, ◌≤◌, ◌<◌}
use mathlib.Core.Path.{◌≡◌, refl}
use mathlib.Core.List.{List, [], ◌∷◌, ◌++◌}
use native.Mathlib.Omega.{arith}
use lib.ListN.{drop}
use Rattle.rules.specs.Blocks.{into}
use Rattle.frame.specs.Moves.{Move, moved, rows_of}

-- moves and then others
pub moved-append : (ms ns : List Move) (src dst : List ℕ) → moved (ms ++ ns) src dst ≡ moved ns src (moved ms src dst)
moved-append [] ns src dst = refl
moved-append (m ∷ ms) ns src dst = moved-append ms ns src (into dst m.to m.size (drop m.from src))

-- ---- rows in a loop

-- the rows from h on are still to be moved: that gives the whole
module _ (row : ℕ → ℕ → List Move) (fs ts : ℕ) where
  abbrev pub Rest : ℕ → ℕ → List ℕ → List ℕ → List ℕ → Type 0
  Rest rows h src dst whole = moved (rows_of row fs ts (fs * h) (ts * h) (rows - h)) src dst ≡ whole

  -- where the loop begins
  pub rows_start : (rows : ℕ) (src dst : List ℕ) → Rest rows 0 src dst (moved (rows_of row fs ts 0 0 rows) src dst)
  rows_start rows src dst =
      let e : rows - 0 ≡ rows = omega arith in
      let f : fs * 0 ≡ 0 = omega arith in
      let g : ts * 0 ≡ 0 = omega arith in
      rw (e, f, g)

  -- a turn of it
  pub rows-turn : (rows h : ℕ) (src dst next whole : List ℕ) → h < rows → Rest rows h src dst whole
      → next ≡ moved (row (fs * h) (ts * h)) src dst → Rest rows (h + 1) src next whole
  rows-turn rows h src dst next whole k r e =
      let f : rows - h ≡ suc (rows - (h + 1)) = omega arith in
      let a : fs * (h + 1) ≡ fs * h + fs = omega arith in
      let b : ts * (h + 1) ≡ ts * h + ts = omega arith in
      let g : moved (row (fs * h) (ts * h) ++ rows_of row fs ts (fs * h + fs) (ts * h + ts) (rows - (h + 1))) src dst ≡ whole = rw f at r in
      rw (a, b, e, ← moved-append) g

  -- where it ends
  pub rows_end : (rows h : ℕ) (src dst whole : List ℕ) → rows ≤ h → Rest rows h src dst whole → dst ≡ whole
  rows_end rows h src dst whole k r = let e : rows - h ≡ 0 = omega arith in rw e at r

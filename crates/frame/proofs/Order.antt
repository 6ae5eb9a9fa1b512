-- The order in which the code moves bytes is the rules' laying order, computed for ten and for twelve sequences; so what is moved
-- out of an area are its user bytes, and what is moved into one is laid.
--
-- In order: runs as moves; rows as runs; an area that is not the system's; one that is.
-- Assumes nothing.
use Rattle.std.proofs.Common.{Some, None}
use Prim.Native.Nat.{ℕ, ◌+◌, ◌*◌, ◌/◌, ◌≤◌}
use mathlib.Core.Path.{◌≡◌, refl, sym, ap, ◌∙◌}
use mathlib.Core.Bool.{Bool, true, false}
use mathlib.Core.List.{List, [], ◌∷◌, ◌++◌, append_assoc}
use native.Mathlib.Omega.{arith}
use lib.Dec.{eqb, leb}
use lib.ListN.{length, take, drop, length-append, length-take, length-drop}
use lib.Seq.{take-append_seam, drop-append_seam, drop-drop}
use borrow.Author.Tests.{leb-true, eq-eqb, ne_eqb}
use Rattle.rules.specs.Base.{sum}
use Rattle.rules.specs.Systems.{System, known, system}
use Rattle.rules.specs.Blocks.{Run, block_start, shift, width, runs, sizes, block_sizes, area_size, gather, into, scatter}
use Rattle.rules.proofs.Basics.{never, both, second-false}
use Rattle.rules.proofs.Blocks.{all_within, facts-of, each-system}
use Rattle.frame.specs.Systems.{figures_found}
use Rattle.frame.specs.Bytes.{fits_area, collected, bytes_after, area_with}
use Rattle.frame.specs.Moves.{Move, move, moved, four, row_out, row_in, rows_out, rows_in}
use Rattle.frame.specs.declared.Figures.{Figures}
use Rattle.frame.proofs.Laws.{sequences-is, area-is, found_known, found_is, found_none}

-- ---- runs as moves

-- out of the runs of an area, to a place and on
abbrev pub moves_out : ℕ → List Run → List Move
moves_out at [] = []
moves_out at (r ∷ rs) = move r.size r.start at ∷ moves_out (at + r.size) rs

-- from a place and on, into the runs of an area
abbrev pub moves_in : ℕ → List Run → List Move
moves_in at [] = []
moves_in at (r ∷ rs) = move r.size at r.start ∷ moves_in (at + r.size) rs

-- a run moved to the end of what stands before the place
into-end : (p us xs : List ℕ) (z : ℕ) → into (p ++ us) (length p) z xs ≡ (p ++ take z xs) ++ drop z us
into-end p us xs z = rw (take-append_seam, drop-append_seam) (sym (append_assoc p (take z xs) (drop z us)))

-- what is moved out of runs is what they give, after what stands before the place
out-gathers : (m : ℕ) (rs : List Run) (area p us : List ℕ) → all_within m rs ≡ true → length area ≡ m
    → moved (moves_out (length p) rs) area (p ++ us) ≡ p ++ (gather rs area ++ drop (sum (sizes rs)) us)
out-gathers m [] area p us w l = refl
out-gathers m (r ∷ rs) area p us w l =
    let v = both (leb (r.start + r.size) m) (all_within m rs) w in
    let h = leb-true (r.start + r.size) m v.0 in
    let x : List ℕ = take r.size (drop r.start area) in
    let n : length x ≡ r.size = simp (length-take, length-drop) (omega arith) in
    let f : length p + r.size ≡ length (p ++ x) = sym (length-append p x ∙ ap (λ (k : ℕ). length p + k) n) in
    rw (f, into-end p us (drop r.start area) r.size)
    (out-gathers m rs area (p ++ x) (drop r.size us) v.1 l
    ∙ rw (drop-drop (sum (sizes rs)) r.size us) (simp append_assoc))

-- what is moved into runs is laid
in-scatters : (rs : List Run) (us area : List ℕ) (at : ℕ) → moved (moves_in at rs) us area ≡ scatter rs (drop at us) area
in-scatters [] us area at = refl
in-scatters (r ∷ rs) us area at =
    in-scatters rs us (into area r.start r.size (drop at us)) (at + r.size)
    ∙ rw (drop-drop r.size at us)

-- ---- rows as runs

-- what the code rests on: few sequences, in pairs, and rows that are the rules' runs
pub record Rows (y : System) : Type 0 where
  pub few : y.sequences ≤ 12
  pub pairs : 2 * (y.sequences / 2) ≡ y.sequences
  pub bytes : 780 * y.sequences ≡ sum (block_sizes y)
  pub out : rows_out (240 * y.sequences) 0 0 (y.sequences / 2) ≡ moves_out 0 (runs y)
  pub inward : rows_in (240 * y.sequences) 0 0 (y.sequences / 2) ≡ moves_in 0 (runs y)

-- with ten sequences per channel, computed, whatever the last line
rows10 : (line : ℕ) → Rows (record { sequences = 10; last = line })
unfolding runs block_start shift width four row_out row_in
rows10 line = record { few = omega arith; pairs = refl; bytes = refl; out = refl; inward = refl }

-- with twelve
rows12 : (line : ℕ) → Rows (record { sequences = 12; last = line })
unfolding runs block_start shift width four row_out row_in
rows12 line = record { few = omega arith; pairs = refl; bytes = refl; out = refl; inward = refl }

-- every system that is known is laid in rows
pub rows_of : (sys : ℕ) → known sys ≡ true → Rows (system sys)
rows_of =
    each-system (λ (y : System) (k : Bool). k ≡ true → Rows y)
    (λ e. rows10 1125)
    (λ e. rows12 1125)
    (λ e. rows10 750)
    (λ e. never (cc))

-- ---- an area that is not the system's

-- a system that is not known has no area
pub no-system : (sys : ℕ) (area : List ℕ) → None ≡ figures_found sys → fits_area sys area ≡ false
no-system sys area e = rw (found_none sys e)

-- an area of another length is not the system's
pub other_length : (sys : ℕ) (f : Figures) (area : List ℕ) → Some f ≡ figures_found sys → (length area ≡ f.area → ⊥) → fits_area sys area ≡ false
other_length sys f area e n =
    second-false (known sys) (eqb (length area) (area_size (system sys)))
    (ne_eqb (length area) (area_size (system sys)) (λ q. n (q ∙ sym (area-is sys f (found_is sys f e)))))

-- then nothing is taken out of it, and nothing is laid
pub none_out : (sys : ℕ) (area us : List ℕ) → fits_area sys area ≡ false → (0 ≡ collected sys area) × (us ≡ bytes_after sys area us)
unfolding collected bytes_after
none_out sys area us e = (rw e, rw e)

pub none_in : (sys : ℕ) (us area : List ℕ) → fits_area sys area ≡ false → (false ≡ fits_area sys area) × (area ≡ area_with sys us area)
unfolding area_with
none_in sys us area e = (sym e, rw e)

-- ---- one that is

-- the system is known, n are its sequences, and the area is its own
pub record Own (sys n : ℕ) (area : List ℕ) : Type 0 where
  pub is_known_system : known sys ≡ true
  pub count : n ≡ (system sys).sequences
  pub long : length area ≡ area_size (system sys)

-- past the tests of a call it is so
pub own-area : (sys : ℕ) (f : Figures) (area : List ℕ) → Some f ≡ figures_found sys → length area ≡ f.area → Own sys f.sequences area
own-area sys f area e l =
    let k = found_is sys f e in
    record { is_known_system = found_known sys f e; count = sequences-is sys f k; long = l ∙ area-is sys f k }

module _ (sys n : ℕ) (area : List ℕ) (o : Own sys n area) where
  -- it is laid in rows
  own-rows : Rows (system sys)
  own-rows = rows_of sys o.is_known_system

  -- it passes the test
  pub own-fits : fits_area sys area ≡ true
  own-fits = rw (o.is_known_system, eq-eqb (length area) (area_size (system sys)) o.long)

  -- no product over its sequences wraps
  pub own-few : n ≤ 12
  own-few = let r = own-rows in omega (arith, o.count)

  -- what the loops over the rows ask
  pub own-requires : (480 * (n / 2) ≤ 240 * n) × (length area ≡ 4 * (240 * n)) × (n / 2 ≤ 6)
  own-requires = let r = own-rows in (omega (arith, o.count), omega (arith, o.count, o.long), omega (arith, o.count))

  -- what is taken out of it, and how much
  pub own-count : 780 * n ≡ collected sys area
  unfolding collected
  own-count = rw (own-fits, o.count) own-rows.bytes

  pub own_out : (us after : List ℕ) → after ≡ moved (rows_out (240 * n) 0 0 (n / 2)) area us → after ≡ bytes_after sys area us
  unfolding bytes_after
  own_out us after e =
      let f : after ≡ moved (moves_out 0 (runs (system sys))) area us = rw (o.count, own-rows.out) at e in
      let w = (facts-of sys o.is_known_system).within in
      f ∙ out-gathers (area_size (system sys)) (runs (system sys)) area [] us w o.long ∙ rw own-fits

  -- what is laid into it
  pub own_in : (us after : List ℕ) → after ≡ moved (rows_in (240 * n) 0 0 (n / 2)) us area → after ≡ area_with sys us area
  unfolding area_with
  own_in us after e =
      let f : after ≡ moved (moves_in 0 (runs (system sys))) us area = rw (o.count, own-rows.inward) at e in
      f ∙ in-scatters (runs (system sys)) us area 0 ∙ rw own-fits

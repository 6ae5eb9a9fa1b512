-- User bytes out of an area and into it, for a system by number and an area of any length: what the two calls give back, and what
-- they leave in the lent buffer.
-- Assumes nothing.
use Rattle.std.specs.Prelude.{ℕ, Bool, cond, ◌&&◌, List, ◌++◌, eqb, length, drop}
use Rattle.rules.specs.Base.{sum}
use Rattle.rules.specs.Systems.{known, system}
use Rattle.rules.specs.Blocks.{runs, block_sizes, area_size, user_bytes_in, scatter}

-- the system is known, and the area is as long as its area is
abbrev pub fits_area : ℕ → List ℕ → Bool
fits_area sys area = known sys && eqb (length area) (area_size (system sys))

-- how many user bytes are taken out of an area; 0 of one that is not the system's
unfoldable pub collected : ℕ → List ℕ → ℕ
collected sys area = cond (fits_area sys area) (sum (block_sizes (system sys))) 0

-- a buffer after the area's user bytes were put at its start; no other byte of it changes
unfoldable pub bytes_after : ℕ → List ℕ → List ℕ → List ℕ
bytes_after sys area us =
    cond (fits_area sys area) (user_bytes_in (system sys) area ++ drop (sum (block_sizes (system sys))) us) us

-- an area after the first bytes of us were laid into its blocks
unfoldable pub area_with : ℕ → List ℕ → List ℕ → List ℕ
area_with sys us area = cond (fits_area sys area) (scatter (runs (system sys)) us area) area

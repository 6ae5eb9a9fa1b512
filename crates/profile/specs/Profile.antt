-- The eight-bit profile (document 02, A14; 003, 6.5.1): which packets are within it, and laying with it. Quotations are from A14.
--
-- In order: a packet; the list (29); laying; its answer.
-- Assumes nothing.
use Rattle.std.specs.Prelude.{ℕ, suc, ◌%◌, ◌≡◌, Bool, true, cond, not, ◌&&◌, ◌||◌, List, [], ◌∷◌, eqb, length}
use Rattle.rules.specs.Systems.{known, system}
use Rattle.rules.specs.Packet.{Packet}
use Rattle.rules.specs.Sheet.{system_in, words_in}
use Rattle.rules.specs.Blocks.{block_sizes, area_size}
use Rattle.rules.specs.Packings.{is_packing, fits}
use Rattle.rules.specs.Numbers.{Outcome, listed, refused, unless, and_then}
use Rattle.rules.specs.Laying.{shaped, list_tests, laid_in, area_of}
use Rattle.rules.specs.declared.Laid.{Laid}

-- ---- a packet

-- "DID 04h, 08h or 0Ch only; SDID a multiple of four and not 00h."
abbrev pub eight_ids : ℕ → ℕ → Bool
eight_ids did sdid = ((eqb did 0x04 || eqb did 0x08) || eqb did 0x0C) && (eqb (sdid % 4) 0 && not (eqb sdid 0x00))

abbrev pub eight_bit : Packet → Bool
eight_bit p = eight_ids p.did p.sdid

abbrev pub Eight : Packet → Type 0
Eight p = eight_bit p ≡ true

-- ---- the list

-- "29 with the packet": the first that is outside, where the first of these has number i
abbrev pub profiled : ℕ → List Packet → Outcome → Outcome
profiled i [] o = o
profiled i (p ∷ ps) o = cond (eight_bit p) (profiled (suc i) ps o) (refused 29 i)

-- ---- laying

-- laying's tests, with 29 "after 11 and before 12"
unfoldable pub strict_laying : ℕ → List ℕ → List ℕ → Outcome
strict_laying k s area =
    unless 1 (is_packing k)
    (unless 2 (shaped s)
    (unless 3 (known (system_in s))
    (unless 4 (eqb (length area) (area_size (system (system_in s))))
    (and_then (list_tests (system (system_in s)) s)
    (λ (ps : List Packet). profiled 0 ps (unless 12 (fits k (block_sizes (system (system_in s))) ps) (listed ps)))))))

-- ---- its answer

-- what laying with the profile gives back, and the area afterwards
unfoldable pub lay_strict : ℕ → List ℕ → List ℕ → Laid
lay_strict k s area = laid_in k (system (system_in s)) (words_in s) (strict_laying k s area)

unfoldable pub area_strict : ℕ → List ℕ → List ℕ → List ℕ
area_strict k s area = area_of k (system (system_in s)) area (strict_laying k s area)

-- "The walker": "Each step gives the next packet's place and length, the string's end, or 14, 15 or 16, tested in that order, for
-- that packet", and "after each packet's 16" 20 (document 02, A3). A packet is number 0, its place, its length; the end is number 0, the
-- place, length 0.
-- Assumes nothing.
use Rattle.std.specs.Prelude.{ℕ, zero, suc, ◌+◌, cond, List, eqb, leb, length, get_or, drop}
use Rattle.rules.specs.Systems.{known, system}
use Rattle.rules.specs.Reading.{string_fault}
use Rattle.rules.specs.declared.Step.{Step}

abbrev pub step : ℕ → ℕ → ℕ → Step
step n i l = record { number = n; place = i; length = l }

-- "It takes the string without fill and the system; an unknown system is 3 at place 0, even with nothing to walk." "a place past the
-- string's end answers the end". "a refusal carries the place where that packet starts"
unfoldable pub walk : ℕ → List ℕ → ℕ → Step
walk sys s at =
    cond (known sys)
    (cond (leb (length s) at) (step 0 at 0)
    (cond (eqb (string_fault (system sys) (drop at s)) 0) (step 0 at (get_or (drop at s) 5 0 + 7))
    (step (string_fault (system sys) (drop at s)) at 0)))
    (step 3 0 0)

-- "It starts at place 0". "After the end or a refusal the place stays": only a packet has a length
unfoldable pub place_of : ℕ → List ℕ → ℕ → ℕ
place_of sys s zero = 0
place_of sys s (suc k) = place_of sys s k + (walk sys s (place_of sys s k)).length

-- the k-th answer
unfoldable pub answer : ℕ → List ℕ → ℕ → Step
answer sys s k = walk sys s (place_of sys s k)

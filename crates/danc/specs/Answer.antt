-- The answer of the validation of a string: an outcome, told from a place and a packet on.
-- Assumes nothing.
use Rattle.std.specs.Prelude.{ℕ, ◌+◌, length, Result, Ok, Err}
use Rattle.rules.specs.Danc.{string_byte_count}
use Rattle.rules.specs.Numbers.{Outcome, listed, refused}
use Rattle.rules.specs.Refusals.{Told, tell}
use Rattle.danc.specs.declared.Validated.{Validated}

abbrev pub counted : ℕ → ℕ → Validated
counted n at = record { packets = n; end = at }

-- of a list that is read from place `at` on, behind k packets: how many packets there are in all, and the place where the last of them
-- ends; of a refusal: its number and its packet. `answer_of 0 0` is the answer of an outcome that is read from the start
abbrev pub answer_of : ℕ → ℕ → Outcome → Result Validated Told
answer_of at k (listed ps) = Ok (counted (k + length ps) (at + string_byte_count ps))
answer_of at k (refused n i) = Err (tell n i 0)

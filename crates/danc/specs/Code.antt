-- An outcome as one number, which is what reading a string and opening packs answer.
--
-- In order: the base; where refusals begin; the number of an outcome.
-- Assumes nothing.
use Rattle.std.specs.Prelude.{ℕ, ◌+◌, ◌*◌, length}
use Rattle.rules.specs.Danc.{string_byte_count}
use Rattle.rules.specs.Numbers.{Outcome, listed, refused}

-- two numbers stand in one: the lower is below the base, and the base times the upper. The lower counts packets, so the base is over
-- their limit
abbrev pub base : ℕ
base = 2048

-- past every count and place: no string has so many bytes
abbrev pub refused_from : ℕ
refused_from = 1073741824

-- of a list that is read from place `at` on, behind k packets: how many packets there are in all, and the place where the last of them
-- ends; of a refusal: its packet and its number. `code_of 0 0` is the number of an outcome that is read from the start
abbrev pub code_of : ℕ → ℕ → Outcome → ℕ
code_of at k (listed ps) = k + length ps + base * (at + string_byte_count ps)
code_of at k (refused n i) = refused_from + base * n + i

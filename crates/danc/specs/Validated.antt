-- The answer of the validation of a string, and of one packet.
--
-- In order: the answer of a string; the bounds within which it is promised; up to where packets need fewer tests; the answer of one packet.
-- Assumes nothing.
use Rattle.std.specs.Prelude.{ℕ, ◌+◌, ◌-◌, ◌*◌, ◌≤◌, cond, List, eqb, drop, Result, Ok, Err}
use Rattle.rules.specs.Systems.{System}
use Rattle.rules.specs.Sheet.{limit}
use Rattle.rules.specs.Numbers.{packets_in}
use Rattle.rules.specs.Reading.{bytes_fault, string_row}
use Rattle.rules.specs.Refusals.{Told, tell}
use Rattle.danc.specs.declared.Validated.{Validated}
use Rattle.danc.specs.Answer.{answer_of}

-- "the string bytes of all packs are walked". `room` is how many string bytes the last pack has room for
unfoldable pub validated : System → ℕ → List ℕ → ℕ → ℕ → Result Validated Told
validated y room s at k = answer_of at k (packets_in (string_row y room) (limit - k) k (drop at s))

-- no more bytes than a frame's user bytes, a place of the string, a packet that there may be
pub record Within (end at k : ℕ) : Type 0 where
  pub short : end ≤ 9360
  pub place : at ≤ end
  pub packet : k ≤ limit

-- a packet that begins before `stop` has as many bytes in the string as the longest has, and there may be one more: each has 7 at least
pub record Stop (end at k stop : ℕ) : Type 0 where
  pub inside : stop ≤ end - 261
  pub few : stop ≤ at + 7 * (limit - k)

-- of the bytes of packet k: nothing to tell, or its refusal
unfoldable pub judged_as : System → List ℕ → ℕ → Result Unit Told
judged_as y s k = cond (eqb (bytes_fault y s) 0) (Ok tt) (Err (tell (bytes_fault y s) k 0))

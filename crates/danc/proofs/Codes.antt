-- An outcome as one number: how it is made, and what can be taken out of it again.
--
-- In order: the packet limit; a refusal's number made; a number taken apart; one packet more in front.
-- Assumes nothing.
use Prim.Native.Nat.{ℕ, ◌+◌, ◌-◌, ◌*◌, ◌/◌, ◌%◌, ◌≤◌, ◌<◌}
use mathlib.Core.Path.{◌≡◌, refl}
use mathlib.Core.List.{List}
use native.Mathlib.Omega.{arith}
use lib.ListN.{length}
use Rattle.rules.specs.Packet.{Packet}
use Rattle.rules.specs.Danc.{bytes_of, string_byte_count}
use Rattle.rules.specs.Sheet.{limit}
use Rattle.rules.specs.Numbers.{Outcome, listed, refused, also}
use Rattle.danc.specs.Code.{base, refused_from, code_of}

-- no packet that there may be, nor the first that there may not, reaches the base
pub limit-below : limit < base
unfolding limit
limit-below = omega arith

-- what `refusal` answers is the refusal's number, where both parts have room
pub refusal-code : (r n i : ℕ) → r ≡ code_of 0 0 (refused (n % base) (i % base)) → n < base → i < base → r ≡ code_of 0 0 (refused n i)
refusal-code r n i e h k = omega arith

-- a place and a packet taken apart
pub two-parts : (at k : ℕ) → k < base → ((k + base * at) / base ≡ at) × ((k + base * at) % base ≡ k)
two-parts at k h = (omega arith, omega arith)

-- a number taken apart
module _ (code : ℕ) where
  -- the packet and the number of a refusal
  pub refused-parts : (n i : ℕ) → code ≡ code_of 0 0 (refused n i) → i < base
      → ((code - refused_from) / base ≡ n) × ((code - refused_from) % base ≡ i)
  refused-parts n i e h = (omega arith, omega arith)

  pub refused-above : (n i : ℕ) → code ≡ code_of 0 0 (refused n i) → refused_from ≤ code
  refused-above n i e = omega arith

  -- the packets and the bytes of a list
  module _ (ps : List Packet) (e : code ≡ code_of 0 0 (listed ps)) (few : length ps < base) where
    pub listed-parts : (code / base ≡ string_byte_count ps) × (code % base ≡ length ps)
    listed-parts = (omega arith, omega arith)

    pub listed_below : string_byte_count ps ≤ 9360 → code < refused_from
    listed_below s = omega arith

-- one packet more in front
pub code-also : (at k : ℕ) (p : Packet) (o : Outcome) → code_of at k (also p o) ≡ code_of (at + bytes_of p) (k + 1) o
code-also at k p (listed ps) = omega arith
code-also at k p (refused n i) = refl

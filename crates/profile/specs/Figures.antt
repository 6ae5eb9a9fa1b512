-- The profile worked out from 003's own words, so that the definitions can be compared with them.
-- Assumes nothing.
use Rattle.std.specs.Prelude.{ℕ, ◌*◌, ◌≡◌, Bool, cond, List, [], ◌∷◌, map}
use Rattle.rules.specs.Base.{count}
use Rattle.rules.specs.Packet.{sound, Packet}
use Rattle.rules.specs.Numbers.{Outcome, listed, refused}
use Rattle.profile.specs.Profile.{eight_ids, profiled}

-- the numbers that a test holds of
abbrev pub those : (ℕ → Bool) → List ℕ → List ℕ
those test [] = []
those test (n ∷ ns) = cond (test n) (n ∷ those test ns) (those test ns)

abbrev pub bytes : List ℕ
bytes = count 0 256

-- a packet without user words, on no line
abbrev pub bare : ℕ → ℕ → Packet
bare did sdid = record { did = did; sdid = sdid; user = []; line = 0; flags = 0; mark = sound }

pub record Figures : Type 0 where
  -- "the available DID address space is further limited to values 04h, 08h and 0Ch"
  pub dids : those (λ (did : ℕ). eight_ids did 0x04) bytes ≡ 0x04 ∷ 0x08 ∷ 0x0C ∷ []
  -- "limited to values x0h, x4h, x8h and xCh with the SDID value of 00h is excluded": 04h to FCh, 63 of them
  pub sdids : those (eight_ids 0x08) bytes ≡ map (λ (n : ℕ). 4 * n) (count 1 63)
  -- a packet for each way out of the profile behind one that is within it, and the first of two
  pub high_did : profiled 0 (bare 0x04 0x04 ∷ bare 0x84 0x04 ∷ []) (listed []) ≡ refused 29 1
  pub no_sdid : profiled 0 (bare 0x0C 0xFC ∷ bare 0x08 0x00 ∷ []) (refused 12 0) ≡ refused 29 1
  pub two : profiled 0 (bare 0x04 0x02 ∷ bare 0x0D 0x04 ∷ []) (listed []) ≡ refused 29 0

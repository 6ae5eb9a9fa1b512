-- The contract of laying within the eight-bit profile. Its first two fields say the whole result by one equation each, so no second result fits; the
-- others say what a caller may rely on without knowing the tests.
--
-- In order: demand 2 with the profile; 29; the contract.
-- Assumes nothing.
use Rattle.std.specs.Prelude.{ℕ, ◌≡◌, true, false, List, ◌∷◌, ◌++◌, length}
use Rattle.rules.specs.Base.{All}
use Rattle.rules.specs.Systems.{system}
use Rattle.rules.specs.Packet.{Packet}
use Rattle.rules.specs.Blocks.{block_sizes}
use Rattle.rules.specs.Packings.{fits}
use Rattle.rules.specs.Numbers.{refused}
use Rattle.rules.specs.Laying.{laid_of, lay, area_after}
use Rattle.rules.specs.Demands.{Asked, Success, Unlaid}
use Rattle.rules.specs.declared.Laid.{Laid}
use Rattle.profile.specs.Profile.{eight_bit, Eight, lay_strict, area_strict}

-- ---- demand 2

-- "where the profile is asked for, demand 2 reads "sound" with it": within the packet limit, and with the frame's own area, a list that is sound and
-- within the profile
pub record AskedStrict (k sys : ℕ) (ps : List Packet) (s area : List ℕ) : Type 0 where
  pub asked : Asked k sys ps s area
  pub eight : All Eight ps

-- such a list is laid by the rules, or refused for room exactly when it exceeds the frame's capacity; and number 0 is given for its sheet alone
pub record Demand2Strict (k : ℕ) (s area : List ℕ) (r : Laid) (after : List ℕ) : Type 0 where
  pub laid : (sys : ℕ) (ps : List Packet) → AskedStrict k sys ps s area → fits k (block_sizes (system sys)) ps ≡ true
      → Success k sys ps area r after
  pub full : (sys : ℕ) (ps : List Packet) → AskedStrict k sys ps s area → fits k (block_sizes (system sys)) ps ≡ false
      → r ≡ laid_of k (system sys) (refused 12 0)
  pub only : r.number ≡ 0
      → (sys : ℕ) × (ps : List Packet) × AskedStrict k sys ps s area × (fits k (block_sizes (system sys)) ps ≡ true)

-- ---- 29

-- packet i of the list is outside the profile, and none in front of it is
pub record FirstOutside (ps : List Packet) (i : ℕ) : Type 0 where
  pub front : List Packet
  pub packet : Packet
  pub rest : List Packet
  pub whole : ps ≡ front ++ packet ∷ rest
  pub number : length front ≡ i
  pub within : All Eight front
  pub without : eight_bit packet ≡ false

-- "29 with the packet": for a sound list with a packet outside, room or no room, and for no other sheet
pub record Gives29 (k : ℕ) (s area : List ℕ) (r : Laid) : Type 0 where
  pub outside : (sys : ℕ) (ps : List Packet) (i : ℕ) → Asked k sys ps s area → FirstOutside ps i → r ≡ laid_of k (system sys) (refused 29 i)
  pub only : r.number ≡ 29 → (sys : ℕ) × (ps : List Packet) × Asked k sys ps s area × FirstOutside ps r.place

-- ---- the contract

-- "Lists that pass are laid as before": every answer but 29 is laying's, and so is the area, byte for byte
pub record LaysStrict (k : ℕ) (s area : List ℕ) (r : Laid) (after : List ℕ) : Type 0 where
  pub answer : r ≡ lay_strict k s area
  pub buffer : after ≡ area_strict k s area
  pub demand1 : (r.number ≡ 0 → ⊥) → Unlaid r area after
  pub demand2 : Demand2Strict k s area r after
  pub profile : Gives29 k s area r
  pub before : (r.number ≡ 29 → ⊥) → (r ≡ lay k s area) × (after ≡ area_after k s area)

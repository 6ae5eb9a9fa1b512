-- What the parts of the code promise each other.
-- Assumes nothing.
use Rattle.std.specs.Prelude.{ℕ, ◌≡◌, Bool, true, false, List, length, Option, Some, None}
use Rattle.rules.specs.Base.{All}
use Rattle.rules.specs.Systems.{System}
use Rattle.rules.specs.Packet.{Packet, Sound}
use Rattle.rules.specs.Sheet.{all_words}
use Rattle.rules.specs.Numbers.{Outcome, refused}
use Rattle.rules.specs.Demands.{Asked}
use Rattle.profile.specs.Profile.{profiled}

-- 29 with the packet that is named; where none is, what follows
abbrev pub stopped : Option ℕ → Outcome → Outcome
stopped (Some place) o = refused 29 place
stopped None o = o

-- of the words of a sound list, whatever follows 29: the packet that it names, or none
pub record Seeks (ws : List ℕ) (r : Option ℕ) : Type 0 where
  pub first : (y : System) (ps : List Packet) → All (Sound y) ps → ws ≡ all_words ps
      → (o : Outcome) → profiled 0 ps o ≡ stopped r o

-- whether some sound list is asked for, with an area of so many bytes
pub record Answers (k : ℕ) (s : List ℕ) (bytes : ℕ) (r : Bool) : Type 0 where
  pub yes : r ≡ true → (area : List ℕ) → length area ≡ bytes → (sys : ℕ) × (ps : List Packet) × Asked k sys ps s area
  pub no : r ≡ false → (area : List ℕ) → length area ≡ bytes → (sys : ℕ) (ps : List Packet) → Asked k sys ps s area → ⊥

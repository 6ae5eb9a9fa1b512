-- What the functions of this crate promise each other.
-- Assumes nothing.
use Rattle.std.specs.Prelude.{ℕ, ◌≡◌, List}
use Rattle.rules.specs.Base.{All}
use Rattle.rules.specs.Systems.{System}
use Rattle.rules.specs.Packet.{Packet, Found}
use Rattle.rules.specs.Sheet.{locations, all_words}

-- ls and ws are the sections B and C of a sheet with these packets as found, and have passed its tests
pub record SectionsFound (y : System) (ps : List Packet) (ls ws : List ℕ) : Type 0 where
  pub found : All (Found y) ps
  pub section_b : ls ≡ locations ps
  pub section_c : ws ≡ all_words ps

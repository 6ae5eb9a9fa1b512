-- What the functions on the sections B and C of a sheet take and promise.
--
-- In order: the sections of a list; the string.
-- Assumes nothing.
use Rattle.std.specs.Prelude.{ℕ, ◌<◌, ◌≡◌, List, map}
use Rattle.std.proofs.lemmas.List.Edits.{sets}
use Rattle.rules.specs.Base.{All}
use Rattle.rules.specs.Systems.{System}
use Rattle.rules.specs.Packet.{Packet, Sound}
use Rattle.rules.specs.Danc.{written, string}
use Rattle.rules.specs.Sheet.{locations, all_words}

-- ls and ws are the sections B and C of a sheet with these packets, and have passed its tests
pub record SectionsOf (y : System) (ps : List Packet) (ls ws : List ℕ) : Type 0 where
  pub last : y.last < 2047
  pub sound : All (Sound y) ps
  pub section_b : ls ≡ locations ps
  pub section_c : ws ≡ all_words ps

-- the same of some packets
pub record Sections (ls ws : List ℕ) : Type 0 where
  pub system : System
  pub packets : List Packet
  pub of : SectionsOf system packets ls ws

-- the string, stored from the front on
pub record LaysString (ls ws before after : List ℕ) : Type 0 where
  pub laid : (y : System) (ps : List Packet) → SectionsOf y ps ls ws → after ≡ sets before 0 (string (map written ps))

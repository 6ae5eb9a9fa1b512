-- The definitions give what 003 says, by computation.
-- Assumes nothing.
use mathlib.Core.Path.{refl}
use Rattle.profile.specs.Figures.{Figures}

pub figures-agree : Figures
figures-agree = record { dids = refl; sdids = refl; high_did = refl; no_sdid = refl; two = refl }

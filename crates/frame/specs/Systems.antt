-- The figures of a system as this crate hands them out: each is what the rules compute from the system's blocks.
-- Assumes nothing.
use Rattle.std.specs.Prelude.{ℕ, Option, Some, None, cond}
use Rattle.rules.specs.Systems.{known, system}
use Rattle.rules.specs.Blocks.{block_sizes, area_size}
use Rattle.rules.specs.Packings.{capacity}
use Rattle.frame.specs.declared.Line.{Line}
use Rattle.frame.specs.declared.Figures.{Figures}

-- a line of the frame under its own type
abbrev pub line_of : ℕ → Line
line_of line = record { 0 = line }

-- the figures of a system by number; of an unknown one those of a frame with nothing in it, all 0
unfoldable pub figures_of : ℕ → Figures
figures_of sys =
    record {
      sequences = (system sys).sequences;
      last_line = line_of (system sys).last;
      area = area_size (system sys);
      packs = capacity 1 (block_sizes (system sys));
      string_bytes = capacity 2 (block_sizes (system sys));
    }

-- and those that are found: none of a system that is not known
unfoldable pub figures_found : ℕ → Option Figures
figures_found sys = cond (known sys) (Some (figures_of sys)) None

-- `frame::Raster720`: its lines as bits. Assumes nothing.
use mathlib.Core.Path.{refl}
use Rattle.frame.specs.Lines.{lines_of}
use Rattle.frame.proofs.lines.Raster720Raster.lines.Goals as goal

pub returns : goal.returns
unfolding lines_of
returns c = refl

-- `frame::Raster1080`: its lines as bits. Assumes nothing.
use mathlib.Core.Path.{refl}
use Rattle.frame.specs.Lines.{lines_of}
use Rattle.frame.proofs.lines.Raster1080Raster.lines.Goals as goal

pub returns : goal.returns
unfolding lines_of
returns c = refl

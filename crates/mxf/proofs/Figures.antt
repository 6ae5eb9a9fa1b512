-- The definitions give the elements that were written out by hand.
-- Assumes nothing.
use mathlib.Core.Path.{refl}
use Rattle.rules.specs.Systems.{system, stands}
use Rattle.mxf.specs.Element.{key, progressive, wrapping, coding, structure, value, element}
use Rattle.mxf.specs.Served.{fi_read}
use Rattle.mxf.specs.Judging.{front_then, array_then, head_then, judged_as}
use Rattle.mxf.specs.Figures.{Figures}

pub figures-agree : Figures
unfolding system stands key progressive wrapping coding structure value element fi_read front_then array_then head_then judged_as
figures-agree = record { none = refl; luma = refl; colour = refl; back = refl }

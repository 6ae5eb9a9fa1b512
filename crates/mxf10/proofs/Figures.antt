-- The definitions give the elements that were written out by hand.
-- Assumes nothing.
use mathlib.Core.Path.{refl}
use Rattle.rules.specs.Systems.{system, stands}
use Rattle.rules.specs.Packet.{parity, word, check, coded, check_of}
use Rattle.mxf.specs.Element.{key, progressive, wrapping}
use Rattle.mxf.specs.Served.{fi_read}
use Rattle.mxf.specs.Judging.{front_then, array_then, head_then, judged_as}
use Rattle.mxf10.specs.Element.{structure, value, element}
use Rattle.mxf10.specs.Figures.{Figures}

pub figures-agree : Figures
unfolding system stands parity word check coded check_of key progressive wrapping structure value element fi_read
    front_then array_then head_then judged_as
figures-agree = record { luma = refl; back = refl }

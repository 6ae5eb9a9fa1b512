-- Elements written out by hand from tables 5 to 7 and figure 5 of 004, so that the definitions can be compared with the standard's bytes.
-- Assumes nothing.
use Rattle.std.specs.Prelude.{ℕ, ◌≡◌, true, List, [], ◌∷◌, ◌++◌}
use Rattle.rules.specs.Packet.{found, Packet}
use Rattle.rules.specs.Numbers.{listed}
use Rattle.mxf.specs.Figures.{cue, begun}
use Rattle.mxf10.specs.Element.{element_of}
use Rattle.mxf10.specs.Reading.{judged}

-- DID 45h and SDID 01h with their parity, no user words, DC with both upper bits set, CS 3FFh: as found at line 750 of 720/60p
abbrev pub wreck : Packet
wreck = record { did = 0x45; sdid = 0x01; user = []; line = 750; flags = 1; mark = found (1 ∷ 1 ∷ 3 ∷ []) 0x3FF }

-- its four samples 145h 101h 300h 3FFh, unused bits and samples all ones, and a byte of padding
abbrev pub spoilt : List ℕ
spoilt =
    begun 0x19
    ++ 0x00 ∷ 0x01
    ∷ 0x02 ∷ 0xEE ∷ 0x04 ∷ 0x08 ∷ 0x00 ∷ 0x04
    ∷ 0x00 ∷ 0x00 ∷ 0x00 ∷ 0x09 ∷ 0x00 ∷ 0x00 ∷ 0x00 ∷ 0x01
    ∷ 0x51 ∷ 0x50 ∷ 0x1C ∷ 0x03 ∷ 0xFF ∷ 0xFF ∷ 0xFF ∷ 0xFF ∷ 0x5A ∷ []

pub record Figures : Type 0 where
  -- document 01's packet p at line 9 of 1080, luma: samples 145h 101h 102h 110h 180h 1D8h
  pub luma :
      element_of 1 (cue 9 2 ∷ [])
      ≡ begun 0x18
      ++ 0x00 ∷ 0x01
      ∷ 0x00 ∷ 0x09 ∷ 0x01 ∷ 0x07 ∷ 0x00 ∷ 0x06
      ∷ 0x00 ∷ 0x00 ∷ 0x00 ∷ 0x08 ∷ 0x00 ∷ 0x00 ∷ 0x00 ∷ 0x01
      ∷ 0x51 ∷ 0x50 ∷ 0x14 ∷ 0x08 ∷ 0x44 ∷ 0x18 ∷ 0x07 ∷ 0x60 ∷ []
  -- the packet as found is read
  pub back : judged 3 true spoilt ≡ listed (wreck ∷ [])

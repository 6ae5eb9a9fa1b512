-- Elements written out by hand from tables 5 to 7 of 004, so that the definitions can be compared with the standard's bytes.
-- Assumes nothing.
use Rattle.std.specs.Prelude.{ℕ, ◌≡◌, true, List, [], ◌∷◌, ◌++◌}
use Rattle.rules.specs.Packet.{sound, Packet}
use Rattle.rules.specs.Numbers.{listed}
use Rattle.mxf.specs.Element.{element, element_of}
use Rattle.mxf.specs.Judging.{judged}

-- document 01's packet p: DID 45h, SDID 01h, user bytes 10h 80h
abbrev pub cue : ℕ → ℕ → Packet
cue line flags = record { did = 0x45; sdid = 0x01; user = 0x10 ∷ 0x80 ∷ []; line = line; flags = flags; mark = sound }

-- table 6, and a length of one byte's worth
abbrev pub begun : ℕ → List ℕ
begun length =
    0x06 ∷ 0x0E ∷ 0x2B ∷ 0x34 ∷ 0x01 ∷ 0x02 ∷ 0x01 ∷ 0x01 ∷ 0x0D ∷ 0x01 ∷ 0x03 ∷ 0x01 ∷ 0x17 ∷ 0x01 ∷ 0x02 ∷ 0x01
    ∷ 0x83 ∷ 0x00 ∷ 0x00 ∷ length ∷ []

-- p at line 750 of 720/60p, colour difference samples, FI 1, with its CS byte and a zero as padding
abbrev pub padded : List ℕ
padded =
    begun 0x17
    ++ 0x00 ∷ 0x01
    ∷ 0x02 ∷ 0xEE ∷ 0x04 ∷ 0x05 ∷ 0x00 ∷ 0x05
    ∷ 0x00 ∷ 0x00 ∷ 0x00 ∷ 0x07 ∷ 0x00 ∷ 0x00 ∷ 0x00 ∷ 0x01
    ∷ 0x45 ∷ 0x01 ∷ 0x02 ∷ 0x10 ∷ 0x80 ∷ 0xD8 ∷ 0x00 ∷ []

pub record Figures : Type 0 where
  -- no packet: 22 bytes
  pub none : element_of 1 [] ≡ begun 0x02 ++ 0x00 ∷ 0x00 ∷ []
  -- p at line 9 of 1080, luma
  pub luma :
      element_of 1 (cue 9 2 ∷ [])
      ≡ begun 0x15
      ++ 0x00 ∷ 0x01
      ∷ 0x00 ∷ 0x09 ∷ 0x01 ∷ 0x04 ∷ 0x00 ∷ 0x05
      ∷ 0x00 ∷ 0x00 ∷ 0x00 ∷ 0x05 ∷ 0x00 ∷ 0x00 ∷ 0x00 ∷ 0x01
      ∷ 0x45 ∷ 0x01 ∷ 0x02 ∷ 0x10 ∷ 0x80 ∷ []
  -- with padding it is written and read
  pub colour : element 3 (record { packet = cue 750 1; padding = 0xD8 ∷ 0x00 ∷ [] } ∷ []) ≡ padded
  pub back : judged 3 true padded ≡ listed (cue 750 1 ∷ [])

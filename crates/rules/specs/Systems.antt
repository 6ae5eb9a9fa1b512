-- "Three systems". Each system carries its figures under its own name. What document 01's table counts from the blocks (area,
-- packs of 5, string capacity) is computed from them and compared with the table in Figures.
--
-- In order: the systems; the lines of a frame; the lines on which packets may stand (document 02, A3).
-- Assumes nothing.
use Rattle.std.specs.Prelude.{ℕ, Bool, true, false, cond, not, ◌&&◌, ◌||◌, List, [], ◌∷◌, eqb, leb}

-- ---- the systems

-- "Sequences per channel (n)", "Last line"
pub record System : Type 0 where
  pub sequences : ℕ
  pub last : ℕ

-- "1 | 1080/60i | 10 | 1125"
abbrev pub hd1080-60i : System
hd1080-60i = record { sequences = 10; last = 1125 }

-- "2 | 1080/50i | 12 | 1125"
abbrev pub hd1080-50i : System
hd1080-50i = record { sequences = 12; last = 1125 }

-- "3 | 720/60p | 10 | 750"
abbrev pub hd720-60p : System
hd720-60p = record { sequences = 10; last = 750 }

-- "system not 1 to 3" is not known
unfoldable pub known : ℕ → Bool
known sys = eqb sys 1 || (eqb sys 2 || eqb sys 3)

-- the system of a number; of an unknown one, a frame with nothing in it
unfoldable pub system : ℕ → System
system sys =
    cond (eqb sys 1) hd1080-60i
    (cond (eqb sys 2) hd1080-50i
    (cond (eqb sys 3) hd720-60p
    (record { sequences = 0; last = 0 })))

-- ---- the lines of a frame

-- "line (0 for none, else 1 to the last line)"
unfoldable pub stands : System → ℕ → Bool
stands y line = leb line y.last

-- ---- the lines on which packets may stand: "Picture lines aren't VANC lines"

-- from one line to another, "Line No Inclusive"
pub record Lines : Type 0 where
  pub from : ℕ
  pub to : ℕ

abbrev pub lines : ℕ → ℕ → Lines
lines from to = record { from = from; to = to }

abbrev pub among : List Lines → ℕ → Bool
among [] line = false
among (l ∷ ls) line = (leb l.from line && leb line l.to) || among ls line

-- 003, table 3a: "Vertical lines available on interface", "Vertical lines excluded from use"
pub record Vanc : Type 0 where
  pub available : List Lines
  pub excluded : List Lines

-- "15 .. 50I", "16 .. 60I": "1124 - 1125; 1 - 20; 561 - 583", "7 - 8; 569 - 570"
abbrev pub vanc1080 : Vanc
vanc1080 = record { available = lines 1124 1125 ∷ lines 1 20 ∷ lines 561 583 ∷ []; excluded = lines 7 8 ∷ lines 569 570 ∷ [] }

-- "7 .. 60P": "746 - 750; 1 - 25", "7 - 8"
abbrev pub vanc720 : Vanc
vanc720 = record { available = lines 746 750 ∷ lines 1 25 ∷ []; excluded = lines 7 8 ∷ [] }

abbrev pub is_vanc : Vanc → ℕ → Bool
is_vanc v line = among v.available line && not (among v.excluded line)

-- of a frame by its last line, which tells 1080 from 720
abbrev pub vanc_line : ℕ → ℕ → Bool
vanc_line last line = cond (eqb last 1125) (is_vanc vanc1080 line) (cond (eqb last 750) (is_vanc vanc720 line) true)

-- "561 and no line stay": no line, or a line of the frame that the table allows
unfoldable pub allowed : System → ℕ → Bool
allowed y line = eqb line 0 || (stands y line && vanc_line y.last line)

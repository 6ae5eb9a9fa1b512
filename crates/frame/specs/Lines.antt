-- The lines on which a packet with a line may stand, as bits: line n is bit n % 64 of number n / 64. That every line that is in them is one
-- that the rules allow is computed in proofs/Vanc.
-- Assumes nothing.
use Rattle.std.specs.Prelude.{ℕ, ◌/◌, ◌%◌, ◌^◌, Bool, cond, List, eqb, get_or, set, replicate}

-- whether a line is in them, by its low eleven bits
abbrev pub is_in : List ℕ → ℕ → Bool
is_in lines line = eqb (get_or lines (line / 64 % 32) 0 / 2 ^ (line % 64) % 2) 1

abbrev pub no_lines : List ℕ
no_lines = replicate 32 0

-- "1124 - 1125; 1 - 20; 561 - 583" without "7 - 8; 569 - 570"
abbrev pub lines1080 : List ℕ
lines1080 = set (set (set (set no_lines 0 0x1FFE7E) 8 0xF9FE000000000000) 9 0xFF) 17 0x3000000000

-- "746 - 750; 1 - 25" without "7 - 8"
abbrev pub lines720 : List ℕ
lines720 = set (set no_lines 0 0x3FFFE7E) 11 0x7C0000000000

-- of a frame by its last line; none of one that has no table
unfoldable pub lines_of : ℕ → List ℕ
lines_of last = cond (eqb last 1125) lines1080 (cond (eqb last 750) lines720 no_lines)

-- What is asked of a packet's bytes, from header byte 0 on: whether CS is right; the line that they show, under its own type, and the tests of it.
-- Assumes nothing.
use Rattle.std.specs.Prelude.{ℕ, ◌+◌, ◌%◌, Bool, cond, not, List, eqb, get_or}
use Rattle.rules.specs.Systems.{System, allowed}
use Rattle.rules.specs.Packet.{check_of}
use Rattle.rules.specs.Reading.{packet_of_bytes, line_of, line_fault}
use Rattle.frame.specs.declared.Line.{Line}

-- "stored CS byte is .. the sum's low byte"
abbrev pub cs_right : List ℕ → Bool
cs_right s = eqb (get_or s (get_or s 5 0 + 6) 0) (check_of (packet_of_bytes s) % 256)

-- "a reader disregards line bits when LE is 0"
abbrev pub line_read : ℕ → ℕ → Line
line_read h0 h1 = record { 0 = line_of h0 h1 }

-- 16, then 20, as in the tests of a packet's bytes; 0 for neither
abbrev pub line_number : System → ℕ → ℕ → ℕ
line_number y h0 h1 = cond (line_fault y h0 h1) 16 (cond (not (allowed y (line_of h0 h1))) 20 0)

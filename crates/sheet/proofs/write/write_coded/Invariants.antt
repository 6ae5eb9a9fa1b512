-- The words before `i` are written, and with the words of the bytes from `i` on they are those of all bytes.
use Rattle.std.proofs.Common.{◌≡◌, ◌++◌, map, length, take, drop}
use Rattle.rules.specs.Packet.{word}
use Rattle.sheet.proofs.write.write_coded.Given as goal

abbrev pub invariant-loop-i : goal.invariant-loop-i
invariant-loop-i l = (length l.out ≡ length l.initial.out) × (take l.i l.out ++ map word (drop l.i l.s) ≡ map word l.s)

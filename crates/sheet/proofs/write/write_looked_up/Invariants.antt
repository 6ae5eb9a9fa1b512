-- The words before `i` are written, and with the words of the bytes from `i` on they are those of all bytes; so it is with their sums modulo 512.
use Rattle.std.proofs.Common.{◌≡◌, ◌+◌, ◌*◌, ◌%◌, ◌≤◌, ◌++◌, map, length, take, drop}
use Rattle.rules.specs.Packet.{word, sum9}
use Rattle.sheet.proofs.write.write_looked_up.Given as goal

abbrev pub invariant-loop-i : goal.invariant-loop-i
invariant-loop-i l =
    (length l.out ≡ length l.initial.out)
    × (take l.i l.out ++ map word (drop l.i l.s) ≡ map word l.s)
    × (l.sum ≤ l.begun + 1023 * l.i)
    × ((l.sum + sum9 (map word (drop l.i l.s))) % 512 ≡ (l.begun + sum9 (map word l.s)) % 512)

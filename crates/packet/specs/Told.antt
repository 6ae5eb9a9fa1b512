-- What the test of one packet gives back.
-- Assumes nothing.
use Rattle.std.specs.Prelude.{ℕ, Result, Ok, Err}
use Rattle.rules.specs.Refusals.{number}
use Rattle.rules.specs.declared.Judged.{Judged}
use Rattle.rules.specs.declared.Refused.{Refused}
use Rattle.packet.specs.declared.Kind.{Kind}
use Rattle.packet.specs.declared.Kind.TheVariants.{One, Two}

-- the number of a type
abbrev pub kind_number : Kind → ℕ
kind_number One = 1
kind_number Two = 2

-- the packet's type, or its refusal and the word
abbrev pub judged_of : Result Kind Refused → Judged
judged_of (Ok kind) = record { number = 0; word = 0; kind = kind_number kind }
judged_of (Err e) = record { number = number e.refusal; word = e.word; kind = 0 }

-- Refusals by their numbers ("Numbers given back"; document 02, A1, A3, A14).
-- Assumes nothing.
use Rattle.std.specs.Prelude.{ℕ, Option, None, Some, Result, Ok, Err}
use Rattle.rules.specs.declared.Refusal.{Refusal}
use Rattle.rules.specs.declared.Refused.{Refused}
use Rattle.rules.specs.declared.Refusal.TheVariants.{
  Packing,
  Shape,
  System,
  AreaLength,
  PacketLimit,
  Location,
  Flag,
  Word,
  CutOff,
  Checksum,
  PacketCount,
  Room,
  Packs,
  Length,
  StoredChecksum,
  Line,
  Buffer,
  NoLine,
  Element,
  PictureLine,
  EightBits,
}

-- the number of a refusal
abbrev pub number : Refusal → ℕ
number Packing = 1
number Shape = 2
number System = 3
number AreaLength = 4
number PacketLimit = 5
number Location = 6
number Flag = 7
number Word = 8
number CutOff = 9
number Checksum = 10
number PacketCount = 11
number Room = 12
number Packs = 13
number Length = 14
number StoredChecksum = 15
number Line = 16
number Buffer = 17
number NoLine = 18
number Element = 19
number PictureLine = 20
number EightBits = 29

-- and 0 where nothing is refused
abbrev pub number_of : Option Refusal → ℕ
number_of None = 0
number_of (Some refusal) = number refusal

-- what is told of a refusal: its number, its place and its word
pub record Told : Type 0 where
  pub number : ℕ
  pub place : ℕ
  pub word : ℕ

abbrev pub tell : ℕ → ℕ → ℕ → Told
tell n i w = record { number = n; place = i; word = w }

abbrev pub told : Refused → Told
told e = tell (number e.refusal) e.place e.word

-- and of a result, where it is one
abbrev pub told_of : {A : Type 0} → Result A Refused → Result A Told
told_of (Ok a) = Ok a
told_of (Err e) = Err (told e)

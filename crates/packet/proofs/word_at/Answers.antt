-- Each number of a packet's refusal names its word, and no other number does.
use native.Mathlib.Omega.{arith}
use Rattle.rules.specs.Laying.{word_at}
use Rattle.packet.proofs.word_at.Goals as goal

pub returns-in-7 : goal.returns-in-7
unfolding word_at
returns-in-7 c = rw (c.in-7.is, c.flag_word.ensures)

pub returns-in-8 : goal.returns-in-8
unfolding word_at
returns-in-8 c = rw (c.in-8.is, c.wrong_word.ensures)

pub returns-in-9 : goal.returns-in-9
unfolding word_at
returns-in-9 c = rw c.in-9.is

pub returns-in-10 : goal.returns-in-10
unfolding word_at
returns-in-10 c = rw (c.in-10.is, c.dc_of.ensures)

pub returns-in_default : goal.returns-in_default
unfolding word_at
returns-in_default c = grind arith

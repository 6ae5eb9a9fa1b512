-- The tests of sound packets' words have what both ways of testing have in common.
-- Assumes nothing.
use mathlib.Core.Path.{refl}
use native.Mathlib.Omega.{arith}
use borrow.Author.Tests.{ne_eqb}
use Rattle.rules.specs.Laying.{words_fault, packet_of_words, word_row, word_at}
use Rattle.rules.proofs.Words.{fault-long, words-enough}
use Rattle.packet.specs.Tests.{WordLaws}

pub sound_words : WordLaws words_fault packet_of_words word_at
unfolding word_row word_at
sound_words =
    record {
      long = fault-long;
      enough = words-enough;
      user = λ s. refl;
      early = λ n s h.
          rw (ne_eqb n 7 (λ e. omega arith), ne_eqb n 8 (λ e. omega arith), ne_eqb n 9 (λ e. omega arith), ne_eqb n 10 (λ e. omega arith));
      late = λ n s h.
          rw (ne_eqb n 7 (λ e. omega arith), ne_eqb n 8 (λ e. omega arith), ne_eqb n 9 (λ e. omega arith), ne_eqb n 10 (λ e. omega arith));
    }

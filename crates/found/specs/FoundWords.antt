-- The tests of the words of packets as found have what both ways of testing have in common.
-- Assumes nothing.
use mathlib.Core.Path.{refl}
use native.Mathlib.Omega.{arith}
use borrow.Author.Tests.{ne_eqb}
use Rattle.rules.specs.Laying.{word_at}
use Rattle.rules.specs.Found.{found_fault, found_of_words, found_row, found_word_at}
use Rattle.rules.proofs.Found.{found-long, found-enough}
use Rattle.packet.specs.Tests.{WordLaws}

pub found_words : WordLaws found_fault found_of_words found_word_at
unfolding found_row found_word_at word_at
found_words =
    record {
      long = found-long;
      enough = found-enough;
      user = λ s. refl;
      early = λ n s h.
          rw (ne_eqb n 8 (λ e. omega arith), ne_eqb n 7 (λ e. omega arith), ne_eqb n 9 (λ e. omega arith), ne_eqb n 10 (λ e. omega arith));
      late = λ n s h.
          rw (ne_eqb n 8 (λ e. omega arith), ne_eqb n 7 (λ e. omega arith), ne_eqb n 9 (λ e. omega arith), ne_eqb n 10 (λ e. omega arith));
    }

-- What the word here adds.
use native.Mathlib.Omega.{arith}
use mathlib.Core.Path.{◌∙◌}
use Rattle.rules.specs.Laying.{is_word, are_words, words_before}
use Rattle.packet.proofs.Laws.{each_word, each_next, sum9-next}
use Rattle.packet.proofs.pass_of.Goals as goal

pub loop-w-preserved : goal.loop-w-preserved
loop-w-preserved c =
    let l = c.loop-w in
    let ws = c.args.ws.now in
    record {
      few = omega arith;
      words = rw c.is_right-ok.ensures (each_next is_word are_words words_before each_word l.ok l.w-index ws c.loop-w-test.true ∙ l.invariant.words);
      sum = omega (arith, sum9-next l.w-index ws c.loop-w-test.true);
    }

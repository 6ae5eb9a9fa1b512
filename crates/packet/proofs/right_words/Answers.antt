-- The word here is right, and those before it are.
use mathlib.Core.Path.{sym, ◌∙◌}
use Rattle.rules.specs.Laying.{is_word, are_words, words_before}
use Rattle.packet.proofs.Laws.{each_word, search-next}
use Rattle.packet.proofs.right_words.Goals as goal

pub loop-i-preserved : goal.loop-i-preserved
loop-i-preserved c =
    search-next is_word are_words words_before each_word c.loop-i.i c.args.ws.now c.loop-i-test.true
    (sym c.is_right.ensures ∙ c.if-not-is_right.false)
    ∙ c.loop-i.invariant

-- The word here is not over 3FFh, and those before it are not.
use mathlib.Core.Path.{◌∙◌}
use borrow.Author.Tests.{le-leb}
use Rattle.rules.specs.Found.{is_ten, are_ten, ten_before}
use Rattle.packet.proofs.Laws.{search-next}
use Rattle.found.proofs.Laws.{each-ten}
use Rattle.found.proofs.ten_words.Goals as goal

pub loop-i-preserved : goal.loop-i-preserved
loop-i-preserved c =
    search-next is_ten are_ten ten_before each-ten c.loop-i.i c.args.ws.now c.loop-i-test.true
    (le-leb _ 0x3FF c.if-w-gt1023.false)
    ∙ c.loop-i.invariant

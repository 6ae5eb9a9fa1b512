-- What the word here adds.
use mathlib.Core.Path.{◌∙◌}
use Rattle.rules.specs.Found.{is_ten, are_ten, ten_before}
use Rattle.packet.proofs.Laws.{each_next}
use Rattle.found.proofs.Laws.{each-ten}
use Rattle.found.proofs.are_ten.Goals as goal

pub loop-w-preserved : goal.loop-w-preserved
loop-w-preserved c =
    each_next is_ten are_ten ten_before each-ten c.loop-w.ok c.loop-w.w-index c.args.ws.now c.loop-w-test.true ∙ c.loop-w.invariant

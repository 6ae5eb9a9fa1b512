-- The samples, one after the other. Assumes nothing.
use Rattle.std.proofs.Common.{map, sym, ◌∙◌}
use Rattle.std.proofs.lemmas.List.{length-map}
use Rattle.rules.specs.Laying.{low}
use Rattle.sections.proofs.Laws.{low_turn, low_end}
use Rattle.mxf.proofs.WritingLaws.{over-all}
use Rattle.mxf.proofs.samples.EightSamples.put_samples.Goals as goal

pub loop-i-init : goal.loop-i-init
loop-i-init c = over-all (map low c.args.ws.now) c.args.out.now (c.requires.out_len ∙ sym (length-map c.args.ws.now low))

pub loop-i-preserved : goal.loop-i-preserved
loop-i-preserved c = low_turn _ c.loop-i.out _ c.loop-i.i c.loop-i-test.true c.low.ensures c.loop-i.invariant

pub returns : goal.returns
returns c = low_end _ c.loop-i.out _ c.loop-i.i c.loop-i-test.false c.loop-i.invariant

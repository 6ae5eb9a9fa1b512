-- The tests as found. Assumes nothing.
use Rattle.std.proofs.Common.{◌∙◌}
use Rattle.mxf10.proofs.WritingLaws.{as-tested}
use Rattle.mxf10.proofs.tens.TenSamples.system_of.Goals as goal

pub returns : goal.returns
returns c = c.test.ensures.answer ∙ as-tested c.args.sheet.now

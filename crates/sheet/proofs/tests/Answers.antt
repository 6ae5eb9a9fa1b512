-- The lister's tests are those of sound packets.
use mathlib.Core.Path.{◌∙◌}
use Rattle.sheet.proofs.Laws.{told-tests}
use Rattle.sheet.proofs.tests.Goals as goal

pub returns : goal.returns
returns c = c.tests_by.ensures ∙ told-tests c.args.s.now

-- CS wrong; CS right, and the test of the line.
use Rattle.std.proofs.Common.{sym, ◌∙◌}
use Rattle.danc.proofs.Laws.{cs-wrong, cs-right}
use Rattle.danc.proofs.packet_fault.Goals as goal

pub returns-then-not-is_cs_right : goal.returns-then-not-is_cs_right
returns-then-not-is_cs_right c y e = cs-wrong y _ (sym c.if-not-is_cs_right.ensures)

pub returns : goal.returns
returns c y e = c.line_fault.ensures y e ∙ cs-right y _ (sym c.if-not-is_cs_right.ensures)

-- For every list of the sections: the string as far as it is laid, and low bytes behind it.
use Rattle.std.proofs.Common.{◌*◌, ◌≤◌, length}
use Rattle.sections.proofs.Laws.{HeadsSoFar}
use Rattle.sections.proofs.lay_heads.Given as goal

abbrev pub invariant-loop-k : goal.invariant-loop-k
invariant-loop-k l = (l.at ≤ length l.ws) × HeadsSoFar l.ls l.ws l.initial.s l.s (2 * l.k) l.at

-- Each constant is what the rules compute from the blocks, and no other number names a system.
use mathlib.Core.Path.{refl}
use native.Mathlib.Omega.{arith}
use Rattle.rules.specs.Systems.{known, system}
use Rattle.rules.specs.Blocks.{block_start, shift, width, runs}
use Rattle.rules.specs.Packings.{capacity}
use Rattle.frame.specs.Systems.{figures_of, figures_found}
use Rattle.frame.proofs.Laws.{none_found}
use Rattle.frame.proofs.figures_of.Goals as goal

pub returns-in-1 : goal.returns-in-1
unfolding figures_found figures_of known system block_start shift width runs capacity
returns-in-1 c = rw c.in-1.is refl

pub returns-in-2 : goal.returns-in-2
unfolding figures_found figures_of known system block_start shift width runs capacity
returns-in-2 c = rw c.in-2.is refl

pub returns-in-3 : goal.returns-in-3
unfolding figures_found figures_of known system block_start shift width runs capacity
returns-in-3 c = rw c.in-3.is refl

pub returns-in_default : goal.returns-in_default
returns-in_default c = none_found _ (omega arith) (omega arith) (omega arith)

-- A header more, and all headers. Assumes nothing.
use Rattle.std.proofs.Common.{◌≡◌, ◌+◌, ◌*◌, arith}
use Rattle.sections.proofs.Laws.{heads-begin, heads-inside, heads-turn, heads_done}
use Rattle.sections.proofs.lay_heads.Goals as goal

pub loop-k-init : goal.loop-k-init
loop-k-init c = (omega arith, heads-begin)

pub bounds-s-at : goal.bounds-s-at
bounds-s-at c = let i = heads-inside c.loop-k.invariant.1 (omega arith) c.requires.0 in omega (arith, i.0, c.requires.1)

pub bounds-s-at-in-loop-k : goal.bounds-s-at-in-loop-k
bounds-s-at-in-loop-k c = let i = heads-inside c.loop-k.invariant.1 (omega arith) c.requires.0 in omega (arith, i.0, c.requires.1)

pub bounds-ws-at : goal.bounds-ws-at
bounds-ws-at c = let i = heads-inside c.loop-k.invariant.1 (omega arith) c.requires.0 in omega (arith, i.0)

pub loop-k-preserved : goal.loop-k-preserved
loop-k-preserved c =
    let i = heads-inside c.loop-k.invariant.1 (omega arith) c.requires.0 in
    let e : 2 * (c.loop-k.k + 1) ≡ 2 * c.loop-k.k + 2 = omega arith in
    (omega (arith, i.0, c.low_byte.ensures), rw e (heads-turn c.loop-k.invariant.1 (omega arith) c.low_byte.ensures c.head0.ensures c.head1.ensures))

pub returns : goal.returns
returns c = heads_done c.loop-k.invariant.1 (omega arith)

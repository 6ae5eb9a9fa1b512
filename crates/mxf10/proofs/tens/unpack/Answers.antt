-- Four bytes to three samples, and what is left. Assumes nothing.
use Rattle.std.proofs.Common.{◌+◌, ◌*◌, ◌/◌, ◌-◌, length, refl, arith}
use Rattle.mxf10.proofs.TensLaws.{unpack-all, unpack-at, unpack-turn, unpack-two, unpack-one}
use Rattle.mxf10.proofs.tens.unpack.Goals as goal

pub loop-k-init : goal.loop-k-init
loop-k-init c =
    let n = length c.args.out.now in
    unpack-all c.args.s.now c.args.out.now n (n - 0) refl (omega arith) c.requires

pub loop-k-preserved : goal.loop-k-preserved
loop-k-preserved c =
    let n = length c.args.out.now in
    let i = 3 * c.loop-k.k in
    let o = 4 * c.loop-k.k in
    let room = c.requires in
    unpack-at _ _ _ n (i + 3) (o + 4) _ _ (omega arith) (omega arith)
    (unpack-turn c.args.s.now c.loop-k.out _ n i o (λ b. omega (arith, c.type_inv.s b)) c.loop-k.invariant (omega arith) _ _ _
    c.first.ensures c.second.ensures c.third.ensures (omega arith))

pub returns-in-2 : goal.returns-in-2
returns-in-2 c =
    let n = length c.args.out.now in
    let i = 3 * (n / 3) in
    let o = 4 * (n / 3) in
    let room = c.requires in
    let was = unpack-at c.args.s.now c.loop-k.out _ n (3 * c.loop-k.k) (4 * c.loop-k.k) i o (omega arith) (omega arith) c.loop-k.invariant in
    unpack-two c.args.s.now c.loop-k.out _ n i o (λ b. omega (arith, c.type_inv.s b)) was (omega arith) _ _
    c.first-in-2.ensures c.second-in-2.ensures (omega arith)

pub returns-in-1 : goal.returns-in-1
returns-in-1 c =
    let n = length c.args.out.now in
    let i = 3 * (n / 3) in
    let o = 4 * (n / 3) in
    let room = c.requires in
    let was = unpack-at c.args.s.now c.loop-k.out _ n (3 * c.loop-k.k) (4 * c.loop-k.k) i o (omega arith) (omega arith) c.loop-k.invariant in
    unpack-one c.args.s.now c.loop-k.out _ n i o (λ b. omega (arith, c.type_inv.s b)) was (omega arith) _
    c.first-in-1.ensures (omega arith)

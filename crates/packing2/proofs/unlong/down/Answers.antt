-- The array that they pass through, stored. Assumes nothing.
use Rattle.std.proofs.Common.{ℕ, ◌≡◌, ◌+◌, ◌-◌, ap, ◌∙◌, length, take, drop, length-take-le, length-drop, arith}
use Rattle.packing2.proofs.LongLaws.{part-stored}
use Rattle.packing2.proofs.unlong.down.Goals as goal

pub returns : goal.returns
returns g c =
    let n = g.row.N in
    let us = c.args.us.now in
    let from = c.args.from in
    let to = c.args.to in
    let part : from + n - from ≡ n = omega arith in
    let same = ap (λ (k : ℕ). take k (drop from us)) part in
    let long : length (take n (drop from us)) ≡ to + n - to = length-take-le n (drop from us) (omega (arith, length-drop from us)) ∙ omega arith in
    part-stored us c.copy_from_slice-2.new.self (take n (drop from us)) to (to + n - to)
    (c.copy_from_slice-2.ensures.after ∙ c.copy_from_slice.ensures.after ∙ same) long (omega arith)

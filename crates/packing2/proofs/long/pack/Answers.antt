-- Behind the string's end it is fill; before it, its three bytes and the string's stand in the array. Assumes nothing.
use Rattle.std.proofs.Common.{ℕ, ◌≡◌, ◌+◌, ◌-◌, ap, ◌∙◌, take, drop, length-set, arith}
use Rattle.std.proofs.lemmas.List.{length-replicate}
use Rattle.packing2.proofs.LongLaws.{pack-stored, pack-filled}
use Rattle.packing2.proofs.long.pack.Goals as goal

pub returns : goal.returns
returns g c =
    let n = g.row.N in
    let z = c.args in
    let part : z.at + (n - 3) - z.at ≡ n - 3 = omega arith in
    pack-stored n c.end_byte.result z.s.now c.copy_from_slice.new.self z.len z.at _ (omega arith) (omega arith) (omega arith) (omega arith)
    c.end_byte.ensures (c.copy_from_slice.ensures.after ∙ ap (λ (k : ℕ). take k (drop z.at z.s.now)) part)
    (simp (length-set, length-replicate))

pub returns-then-len-at : goal.returns-then-len-at
returns-then-len-at g c = pack-filled g.row.N c.args.s.now c.args.len c.args.at (omega arith)

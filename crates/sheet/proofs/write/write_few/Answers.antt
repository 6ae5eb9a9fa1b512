-- The flag, the words lent and come back, and CS of their sum. Assumes nothing.
use Rattle.std.proofs.Common.{ℕ, ◌≡◌, ◌+◌, ◌%◌, map, ap, ◌∙◌, arith}
use Rattle.rules.specs.Packet.{word, sum9}
use Rattle.sheet.proofs.write.Written.{few-written}
use Rattle.sheet.proofs.write.write_few.Goals as goal

pub returns : goal.returns
returns c =
    let n : ℕ = sum9 (map word c.args.bytes.now) in
    let e : 0 + n ≡ n = omega arith in
    few-written c.args.bytes.now c.args.out.now _ c.requires.bytes_len_bound.1 c.write_looked_up-sum.ensures.out_after
    c.write_looked_up-sum.result _ (c.write_looked_up-sum.ensures.result_value ∙ ap (λ (t : ℕ). t % 512) e) c.check_sum.ensures

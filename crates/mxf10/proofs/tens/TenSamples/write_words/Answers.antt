-- The flag, and the samples behind it. Assumes nothing.
use Rattle.std.proofs.Common.{ℕ, ◌∷◌, ◌≤◌, ◌-◌, ◌≡◌, length, take, ap, ◌∙◌, arith}
use Rattle.mxf.specs.Element.{ten}
use Rattle.mxf.specs.Judging.{array_for, samples_in}
use Rattle.mxf10.proofs.ReadingLaws.{packet-fits, packet-laid}
use Rattle.mxf10.proofs.tens.TenSamples.write_words.Goals as goal

pub unpack-requires : goal.unpack-requires
unpack-requires c =
    let l = c.requires.out_len in
    let n : length c.args.out.now - 3 ≡ c.args.samples = omega arith in
    let r = c.requires.room in
    let k : array_for ten (length c.args.out.now - 3) ≤ length c.args.s.now = rw n r in
    packet-fits c.args.s.now c.args.out.now (omega arith) k

pub returns : goal.returns
returns c =
    let l = c.requires.out_len in
    let n : length c.args.out.now - 3 ≡ c.args.samples = omega arith in
    let r = c.requires.room in
    let k : array_for ten (length c.args.out.now - 3) ≤ length c.args.s.now = rw n r in
    packet-laid c.args.s.now c.args.out.now (omega arith) k _ c.unpack.ensures
    ∙ ap (λ (m : ℕ). 0x000 ∷ 0x3FF ∷ 0x3FF ∷ take m (samples_in c.args.s.now)) n

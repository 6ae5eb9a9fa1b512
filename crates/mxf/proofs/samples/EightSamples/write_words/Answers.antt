-- The words of as many bytes, one each. Assumes nothing.
use Rattle.std.proofs.Common.{◌∙◌, arith}
use Rattle.std.proofs.lemmas.List.{length-take-le}
use Rattle.sheet.proofs.WriteLaws.{words-after}
use Rattle.mxf.proofs.samples.EightSamples.write_words.Goals as goal

pub returns : goal.returns
returns c =
    let l = length-take-le c.args.samples c.args.s.now c.requires.room in
    let h = c.requires.out_len in
    c.write_words.ensures ∙ words-after _ _ (omega arith)

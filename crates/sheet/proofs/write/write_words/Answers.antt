-- The words of the bytes are written between the flag and CS, by the table or not, or nothing. Assumes nothing.
use Rattle.std.proofs.Common.{sym, ◌∙◌}
use Rattle.sheet.proofs.WriteLaws.{words-after}
use Rattle.sheet.proofs.write.Written.{no_words_lem, one-packet}
use Rattle.sheet.proofs.write.write_words.Goals as goal

pub returns-then-out-bytes : goal.returns-then-out-bytes
returns-then-out-bytes c = no_words_lem c.args.bytes.now c.args.out.now c.if-out-bytes.true

pub returns-then-bytes-lt-FEW : goal.returns-then-bytes-lt-FEW
returns-then-bytes-lt-FEW c = c.write_few.ensures ∙ sym (words-after c.args.bytes.now c.args.out.now c.if-out-bytes.false)

pub returns : goal.returns
returns c =
    one-packet c.args.bytes.now c.args.out.now c.write_coded.new.out c.if-out-bytes.false c.write_coded.ensures
    c.write_flag_and_cs.new.out c.write_flag_and_cs.ensures

-- Where words stand, the flag is put in front and CS behind. Assumes nothing.
use Rattle.sheet.proofs.write.Written.{words-written}
use Rattle.sheet.proofs.write.write_flag_and_cs.Goals as goal

pub returns : goal.returns
returns c = words-written c.args.out.now c.check_of.result c.requires c.check_of.ensures

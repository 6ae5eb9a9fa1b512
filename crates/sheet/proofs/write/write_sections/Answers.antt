-- The three counts with the system, the locations and the words, each part lent and come back. Assumes nothing.
use Rattle.std.proofs.Common.{arith}
use Rattle.sheet.proofs.WriteLaws.{whole_long}
use Rattle.sheet.proofs.write.Written.{sections-written}
use Rattle.sheet.proofs.write.write_sections.Goals as goal

pub overflow_cast-out : goal.overflow_cast-out
overflow_cast-out c = let k = (whole_long c.args.s.now c.requires.whole).few in omega (arith, k, c.requires.count, c.requires.few)

pub write_all_words-requires-clause-few : goal.write_all_words-requires-clause-few
write_all_words-requires-clause-few c =
    let k = (whole_long c.args.s.now c.requires.whole).few in
    omega (arith, k, c.requires.count)

pub returns : goal.returns
returns c =
    sections-written c.args.system c.args.packets c.args.s.now c.args.out.now _ c.requires c.write_locations.ensures
    c.write_all_words.new.out c.write_all_words.ensures

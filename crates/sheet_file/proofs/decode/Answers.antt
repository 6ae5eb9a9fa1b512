-- `sheet_file::decode` meets its contract: the numbers of a file that has a sheet's length, and else none.
-- Assumes nothing.
use Rattle.std.proofs.Common.{refl, sym, ◌∙◌, arith}
use Rattle.sheet_file.proofs.Laws.{whole_length, not-whole, whole}
use Rattle.sheet_file.proofs.decode.Goals as goal

pub numbers-requires : goal.numbers-requires
numbers-requires c = let h = whole_length c.args.file.now (sym c.is_whole.ensures ∙ c.if-is_whole.true) in omega arith

pub returns-then-is_whole : goal.returns-then-is_whole
returns-then-is_whole c = whole _ (sym c.is_whole.ensures ∙ c.if-is_whole.true) _ c.numbers.ensures

pub returns : goal.returns
returns c = rw (not-whole _ (sym c.is_whole.ensures ∙ c.if-is_whole.false)) (refl, refl)

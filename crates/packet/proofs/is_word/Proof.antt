-- `packet::is_word` meets its contract. Assumes nothing.
use borrow.Author.Rules.{rules}
use Rattle.packet.proofs.Laws.{table-word}
use Rattle.packet.proofs.is_word.Statement.{statement}
use Rattle.packet.proofs.is_word.Tie as tie

low-byte-requires : tie.Need-low_byte-requires
low-byte-requires c κs = search rules

mul-result : tie.Need-offset_bounds-table-low_byte
mul-result c = search rules

element-copy-out-result : tie.Need-bounds-table-low_byte
element-copy-out-result c = search rules

returns : tie.Need-returns
returns c = λ h. table-word _ _ _ h c.before.low_byte.ensures

pub is_word_spec : {M : Type 1} → statement M
is_word_spec = tie.close (tie.spec low-byte-requires mul-result element-copy-out-result returns)

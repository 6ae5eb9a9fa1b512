-- `packet::size_of` meets its contract. Assumes nothing.
use borrow.Author.Rules.{rules}
use Rattle.packet.proofs.Laws.{size-short, size-whole}
use Rattle.packet.proofs.size_of.Statement.{statement}
use Rattle.packet.proofs.size_of.Tie as tie

dc-of-requires : tie.Need-dc_of-n-requires
dc-of-requires c κs = search rules

add-n : tie.Need-overflow_add-n
add-n c = search rules

returns : tie.Need-returns-then-ws-n
returns c = size-short _ _ c.before.dc_of-n.ensures c.if-ws-n.true

returns-2 : tie.Need-returns
returns-2 c = size-whole _ _ c.before.dc_of-n.ensures c.if-ws-n.false

pub size_of_spec : {M : Type 1} → statement M
size_of_spec = tie.close (tie.spec dc-of-requires add-n returns returns-2)

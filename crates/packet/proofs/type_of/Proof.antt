-- `packet::type_of` meets its contract. Assumes nothing.
use borrow.Author.Tests.{le-leb, lt-leb}
use Rattle.packet.proofs.type_of.Statement.{statement}
use Rattle.packet.proofs.type_of.Tie as tie

returns : tie.Need-returns-then-did-lt128
returns c = rw (lt-leb 0x80 _ c.if-did-lt128.true)

returns-2 : tie.Need-returns
returns-2 c = rw (le-leb 0x80 _ c.if-did-lt128.false)

pub type_of_spec : {M : Type 1} → statement M
type_of_spec = tie.close (tie.spec returns returns-2)

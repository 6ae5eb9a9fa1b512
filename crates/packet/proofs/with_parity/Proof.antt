-- `packet::with_parity` meets its contract: the folded bits are the parity, by one test of all bytes (`folded-parity`).
-- Assumes nothing.
use native.Mathlib.Omega.{arith}
use borrow.Author.Rules.{rules}
use Rattle.rules.specs.Packet.{word}
use Rattle.packet.proofs.Laws.{folded-parity}
use Rattle.packet.proofs.with_parity.Statement.{statement}
use Rattle.packet.proofs.with_parity.Tie as tie

add-result : tie.Need-overflow_add-result
add-result c = search rules

mul-result : tie.Need-overflow_mul-result
mul-result c = search rules

sub-result : tie.Need-overflow_sub-result
sub-result c = search rules

returns : tie.Need-returns
unfolding word
returns c = omega (arith, folded-parity c.args.b c.requires)

pub with_parity_spec : {M : Type 1} → statement M
with_parity_spec = tie.close (tie.spec add-result mul-result sub-result returns)

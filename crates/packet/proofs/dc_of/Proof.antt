-- `packet::dc_of` meets its contract: past the end a list has 0. Assumes nothing.
use Prim.Native.Nat.{ℕ, ◌%◌}
use mathlib.Core.Path.{sym, ap}
use native.Mathlib.Omega.{arith}
use lib.ListN.{get_or-eq_default}
use borrow.Author.Rules.{rules}
use Rattle.packet.proofs.dc_of.Statement.{statement}
use Rattle.packet.proofs.dc_of.Tie as tie

returns : tie.Need-returns-then-ws-lt6
returns c = sym (ap (λ (n : ℕ). n % 256) (get_or-eq_default c.before.before.args.ws.now 0 (omega (arith, c.if-ws-lt6.true))))

shared-slice-read-low-byte : tie.Need-bounds-ws-5
shared-slice-read-low-byte c = search rules

low-byte-requires : tie.Need-low_byte-requires
low-byte-requires c κs = search rules

returns-2 : tie.Need-returns
returns-2 c = search rules

pub dc_of_spec : {M : Type 1} → statement M
dc_of_spec = tie.close (tie.spec returns shared-slice-read-low-byte low-byte-requires returns-2)

-- `packet::words` meets its contract: the constant is the table, by computation. Assumes nothing.
use mathlib.Core.Path.{refl}
use Rattle.rules.specs.Packet.{parity, word}
use Rattle.packet.specs.Run.{word_table}
use Rattle.packet.proofs.words.Statement.{statement}
use Rattle.packet.proofs.words.Tie as tie

returns : tie.Need-returns
unfolding word_table word parity
returns c = refl

pub words_spec : {M : Type 1} → statement M
words_spec = tie.close (tie.spec returns)

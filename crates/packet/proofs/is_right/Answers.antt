use Rattle.rules.specs.Laying.{is_word}
use Rattle.packet.proofs.is_right.Goals as goal

pub returns : goal.returns
unfolding is_word
returns c = rw c.with_parity.ensures

-- Room for no byte more: the bytes are looked at; else the string goes on.
use borrow.Author.Tests.{lt-ltb, le-ltb}
use Rattle.rules.specs.Reading.{string_ends}
use Rattle.danc.proofs.ends.Goals as goal

pub returns-then-s-room : goal.returns-then-s-room
unfolding string_ends
returns-then-s-room c = rw (lt-ltb _ _ c.if-s-room.true) c.all_fill.ensures

pub returns-else-s-room : goal.returns-else-s-room
unfolding string_ends
returns-else-s-room c = rw (le-ltb _ _ c.if-s-room.false)

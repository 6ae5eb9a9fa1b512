-- Runs of stores, one behind the other. Assumes nothing.
use Rattle.std.proofs.Common.{◌-◌, length, refl}
use Rattle.mxf.proofs.WritingLaws.{head-put}
use Rattle.mxf.proofs.writing.put_head.Goals as goal

pub returns : goal.returns
returns c =
    let a = c.args in
    head-put a.packets (length a.out.now - 20) a.out.now c.requires.0 c.requires.1 refl c.put_key.ensures c.put_two.ensures c.put_two-2.ensures

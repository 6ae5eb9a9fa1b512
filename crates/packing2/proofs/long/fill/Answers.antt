-- Four blocks of fill, one after the other. Assumes nothing.
use Rattle.std.proofs.Common.{◌-◌, sym, append-nil, arith}
use Rattle.std.proofs.Math.Seq.{drop-nil}
use Rattle.rules.specs.Packing2.{fill}
use Rattle.packing2.proofs.LongLaws.{block-laid, four-laid}
use Rattle.packing2.proofs.long.fill.Goals as goal

pub returns : goal.returns
returns g c =
    let n = g.row.N in
    let none = sym (drop-nil (n - 3)) in
    four-laid n c.args.step (omega arith) none none none
    (block-laid n (fill n) (sym (append-nil (fill n))) c.put.ensures)
    (block-laid n (fill n) (sym (append-nil (fill n))) c.put-2.ensures)
    (block-laid n (fill n) (sym (append-nil (fill n))) c.put-3.ensures)
    (block-laid n (fill n) (sym (append-nil (fill n))) c.put-4.ensures)

-- The sheet is written, or there is no room for it. Assumes nothing.
use Rattle.std.proofs.Common.{refl}
use Rattle.vanc.proofs.ReadLaws.{found-over, found-written}
use Rattle.vanc.proofs.reading.written.Goals as goal

pub returns-in_default : goal.returns-in_default
returns-in_default c =
    λ o k w.
    let v = c.in_default.ensures in
    found-over c.args.system k c.args.found c.args.us.now c.args.sheet.now _ o w c.told-us _ refl _ v.value v.sheet_after
    c.refused.result refl c.refused.ensures

pub returns : goal.returns
returns c =
    λ o k w.
    let v = c.in-Some.ensures in
    found-written c.args.system k c.args.found c.args.us.now c.args.sheet.now _ o w c.told-us _ refl _ v.value v.sheet_after
    c.in-Some.numbers refl

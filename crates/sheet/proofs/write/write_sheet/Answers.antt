-- `write::write_sheet` meets its contract: a law for each return, of what is known once the string is measured. Assumes nothing.
use Rattle.std.proofs.Common.{◌∙◌, arith}
use Rattle.sheet.proofs.write.Written.{known, none-written, no-room-written, sheet-written}
use Rattle.sheet.proofs.write.write_sheet.Goals as goal

pub returns-in_err-packets : goal.returns-in_err-packets
returns-in_err-packets c =
    let e = none-written _ _ _ _ c.told-us c.within-bytes.ensures c.measure.ensures c.args.system c.args.sheet.now c.in_err-packets.was in
    record { value = c.from_residual.ensures ∙ e.0; sheet_after = e.1 }

pub overflow_mul-n : goal.overflow_mul-n
overflow_mul-n c =
    let k = known _ _ _ _ c.told-us c.within-bytes.ensures c.measure.ensures _ c.in_ok-packets.was in
    omega (arith, k.few)

pub overflow_add-n : goal.overflow_add-n
overflow_add-n c =
    let k = known _ _ _ _ c.told-us c.within-bytes.ensures c.measure.ensures _ c.in_ok-packets.was in
    omega (arith, k.few)

pub overflow_add-n-2 : goal.overflow_add-n-2
overflow_add-n-2 c =
    let k = known _ _ _ _ c.told-us c.within-bytes.ensures c.measure.ensures _ c.in_ok-packets.was in
    omega (arith, k.few)

pub returns-then-sheet-n : goal.returns-then-sheet-n
returns-then-sheet-n c =
    let k = known _ _ _ _ c.told-us c.within-bytes.ensures c.measure.ensures _ c.in_ok-packets.was in
    let e = no-room-written c.args.system c.args.sheet.now k c.if-sheet-n.true in
    record { value = e.0; sheet_after = e.1 }

pub returns : goal.returns
returns c =
    let k = known _ _ _ _ c.told-us c.within-bytes.ensures c.measure.ensures _ c.in_ok-packets.was in
    let e = sheet-written c.args.system c.args.sheet.now k c.if-sheet-n.false c.write_sections.new.out c.write_sections.ensures in
    record { value = e.0; sheet_after = e.1 }

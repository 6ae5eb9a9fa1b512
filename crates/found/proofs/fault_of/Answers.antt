-- A test at a time: the first word over 3FFh says whether DID, SDID and DC are right.
use mathlib.Core.Path.{◌≡◌, sym, ◌∙◌}
use mathlib.Core.Bool.{false}
use native.Mathlib.Omega.{arith}
use borrow.Author.Tests.{not-true, not-false}
use Rattle.packet.proofs.Faults.{unflagged, seven-words}
use Rattle.found.proofs.Laws.{fault-flag, fault-head, fault-size, eight-left, over-head, ten-head}
use Rattle.found.proofs.fault_of.Goals as goal

pub returns-then-not-is_flagged : goal.returns-then-not-is_flagged
returns-then-not-is_flagged c = fault-flag c.args.ws.now (not-false _ (sym c.is_flagged.ensures ∙ c.if-not-is_flagged.true))

pub returns-then-over_word-lt6 : goal.returns-then-over_word-lt6
returns-then-over_word-lt6 c =
    let s = c.args.ws.now in
    let f : unflagged s ≡ false = not-true _ (sym c.is_flagged.ensures ∙ c.if-not-is_flagged.false) in
    fault-head s f (over-head s _ c.over_word.ensures (seven-words s f) c.if-over_word-lt6.true)

pub bounds-ws-5 : goal.bounds-ws-5
bounds-ws-5 c =
    let s = c.args.ws.now in
    let l = seven-words s (not-true _ (sym c.is_flagged.ensures ∙ c.if-not-is_flagged.false)) in
    omega arith

pub returns-then-ws-size_by : goal.returns-then-ws-size_by
returns-then-ws-size_by c =
    let s = c.args.ws.now in
    let f : unflagged s ≡ false = not-true _ (sym c.is_flagged.ensures ∙ c.if-not-is_flagged.false) in
    fault-size s f (ten-head s _ c.over_word.ensures (seven-words s f) c.if-over_word-lt6.false) (omega arith)

pub returns : goal.returns
returns c =
    let s = c.args.ws.now in
    let f : unflagged s ≡ false = not-true _ (sym c.is_flagged.ensures ∙ c.if-not-is_flagged.false) in
    eight-left s f (omega arith) c.requires

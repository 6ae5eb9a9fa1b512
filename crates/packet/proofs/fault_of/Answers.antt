-- The place of the first wrong word says both times whether there is one before the place that is tested.
use Prim.Native.Nat.{ℕ, ◌+◌}
use mathlib.Core.Path.{◌≡◌, sym, ap, ◌∙◌}
use mathlib.Core.Bool.{false}
use mathlib.Core.List.{List}
use native.Mathlib.Omega.{arith}
use borrow.Author.Tests.{not-true, not-false}
use lib.ListN.{take, drop}
use Rattle.rules.specs.Laying.{dc_in, words_before}
use Rattle.packet.specs.Run.{SizeOf}
use Rattle.packet.proofs.Faults.{unflagged, fault-flag, seven-words, fault-head, fault-size, fault-user, fault-check}
use Rattle.packet.proofs.Faults.{wrong-head, right-head, wrong-user, right-user}
use Rattle.packet.proofs.fault_of.Goals as goal

-- the first wrong word is looked for in the packet's own words
wrong-is : (s : List ℕ) (n w : ℕ) → SizeOf s n → w ≡ 3 + words_before (drop 3 (take n s)) → w ≡ 3 + words_before (drop 3 (take (dc_in s + 7) s))
wrong-is s n w z e = e ∙ ap (λ (t : List ℕ). 3 + words_before (drop 3 t)) z.front

pub returns-then-not-is_flagged : goal.returns-then-not-is_flagged
returns-then-not-is_flagged c = fault-flag _ (not-false _ (sym c.is_flagged.ensures ∙ c.if-not-is_flagged.true))

pub returns-then-wrong-lt6 : goal.returns-then-wrong-lt6
returns-then-wrong-lt6 c =
    let s : List ℕ = c.args.ws.now in
    let f : unflagged s ≡ false = not-true _ (sym c.is_flagged.ensures ∙ c.if-not-is_flagged.false) in
    let w = wrong-is s _ _ c.size_of-n.ensures c.wrong_word-wrong.ensures in
    fault-head s f (wrong-head s _ w (seven-words s f) c.if-wrong-lt6.true)

pub returns-then-ws-cs : goal.returns-then-ws-cs
returns-then-ws-cs c =
    let s : List ℕ = c.args.ws.now in
    let f : unflagged s ≡ false = not-true _ (sym c.is_flagged.ensures ∙ c.if-not-is_flagged.false) in
    let w = wrong-is s _ _ c.size_of-n.ensures c.wrong_word-wrong.ensures in
    fault-size s f (right-head s _ w (seven-words s f) c.if-wrong-lt6.false) (omega arith)

pub returns-then-wrong-cs : goal.returns-then-wrong-cs
returns-then-wrong-cs c =
    let s : List ℕ = c.args.ws.now in
    let f : unflagged s ≡ false = not-true _ (sym c.is_flagged.ensures ∙ c.if-not-is_flagged.false) in
    let w = wrong-is s _ _ c.size_of-n.ensures c.wrong_word-wrong.ensures in
    let h = right-head s _ w (seven-words s f) c.if-wrong-lt6.false in
    fault-user s f h (omega arith) (wrong-user s _ w (seven-words s f) h (omega arith) (omega arith))

pub returns : goal.returns
returns c =
    let s : List ℕ = c.args.ws.now in
    let f : unflagged s ≡ false = not-true _ (sym c.is_flagged.ensures ∙ c.if-not-is_flagged.false) in
    let w = wrong-is s _ _ c.size_of-n.ensures c.wrong_word-wrong.ensures in
    let h = right-head s _ w (seven-words s f) c.if-wrong-lt6.false in
    fault-check s f h (omega arith) (right-user s _ w (seven-words s f) h (omega arith)) c.requires

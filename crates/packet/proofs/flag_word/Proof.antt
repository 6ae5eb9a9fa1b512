-- `packet::flag_word` meets its contract, a word of the flag at a time. Assumes nothing.
use Prim.Native.Nat.{◌<◌}
use mathlib.Core.Path.{◌≡◌}
use mathlib.Core.Logic.{⊎_elim}
use native.Mathlib.Omega.{arith}
use lib.ListN.{length, get_or}
use borrow.Author.Rules.{rules}
use borrow.Author.Tests.{eqb-true, eqb-false, not-true, not-false}
use Rattle.packet.proofs.Laws.{flag-0, flag-1, flag-2, flag-right}
use Rattle.packet.proofs.flag_word.Statement.{statement}
use Rattle.packet.proofs.flag_word.Tie as tie

-- past the first word, and past the second
first : (c : tie.Else-ws-ne0) → (0 < length c.before.before.before.args.ws.now) × (get_or c.before.before.before.args.ws.now 0 0 ≡ 0x000)
first c = (omega (arith, c.before.before.if-ws-eq0.false), eqb-true _ 0x000 (not-false _ c.if-ws-ne0.false-raw))

second : (c : tie.Else-ws-ne1023)
    → let ws = c.before.before.before.before.before.before.args.ws.now in
    (1 < length ws) × (get_or ws 1 0 ≡ 0x3FF)
second c =
    (omega (arith, (first c.before.before.before).0, c.before.before.if-ws-eq1.false), eqb-true _ 0x3FF (not-false _ c.if-ws-ne1023.false-raw))

shared-slice-read-if2 : tie.Need-bounds-ws-0
shared-slice-read-if2 c = search rules

returns : tie.Need-returns-then-ws-eq0
returns c =
    ⊎_elim
    (λ w. flag-0 _ (λ l e. absurd (omega (arith, w.if-ws-eq0.true))))
    (λ w. flag-0 _ (λ l. eqb-false _ 0x000 (not-true _ w.if-ws-ne0.true-raw)))
    c.then-ws-eq0.branch-raw

shared-slice-read-if4 : tie.Need-bounds-ws-1
shared-slice-read-if4 c = let l = (first c.before.before).0 in omega arith

returns-2 : tie.Need-returns-then-ws-eq1
returns-2 c =
    let ws = c.before.before.before.before.args.ws.now in
    let f = first c.before in
    ⊎_elim
    (λ w. flag-1 ws f.0 f.1 (λ l e. absurd (omega (arith, w.if-ws-eq1.true))))
    (λ w. flag-1 ws f.0 f.1 (λ l. eqb-false _ 0x3FF (not-true _ w.if-ws-ne1023.true-raw)))
    c.then-ws-eq1.branch-raw

shared-slice-read-if6 : tie.Need-bounds-ws-2
shared-slice-read-if6 c = let l = (second c.before.before).0 in omega arith

returns-3 : tie.Need-returns-then-ws-eq2
returns-3 c =
    let s = second c.before in
    let f = first c.before.before.before.before in
    ⊎_elim
    (λ w. flag-2 _ s.0 f.1 s.1 (λ l e. absurd (omega (arith, w.if-ws-eq2.true))))
    (λ w. flag-2 _ s.0 f.1 s.1 (λ l. eqb-false _ 0x3FF (not-true _ w.if-ws-ne1023-2.true-raw)))
    c.then-ws-eq2.branch-raw

returns-4 : tie.Need-returns
returns-4 c =
    let s = second c.before.before.before in
    let f = first c.before.before.before.before.before.before in
    flag-right _ (omega (arith, s.0, c.before.before.if-ws-eq2.false)) f.1 s.1 (eqb-true _ 0x3FF (not-false _ c.if-ws-ne1023-2.false-raw))

pub flag_word_spec : {M : Type 1} → statement M
flag_word_spec =
    tie.close
    (tie.spec
    shared-slice-read-if2
    returns
    shared-slice-read-if4
    returns-2
    shared-slice-read-if6
    returns-3
    returns-4)

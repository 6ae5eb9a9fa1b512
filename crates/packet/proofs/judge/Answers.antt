-- The packet's own words, as far as they are there, tested as packets back to back, have its refusal.
use Prim.Native.Nat.{ℕ}
use mathlib.Core.Path.{ap, ◌∙◌}
use mathlib.Core.List.{List}
use native.Mathlib.Omega.{arith}
use borrow.Author.Rules.{rules}
use Rattle.std.proofs.lemmas.Result.{err_from_is_err_and}
use Rattle.rules.specs.Laying.{words_fault, word_at}
use Rattle.rules.specs.Refusals.{Told}
use Rattle.packet.specs.Tests.{counts_of}
use Rattle.packet.proofs.Laws.{one_none, one-refused, one-sound, one-long}
use Rattle.packet.proofs.Row.{one_refused, one_listed, cut-word}
use Rattle.packet.proofs.judge.Goals as goal

pub returns-then-ws-eq0 : goal.returns-then-ws-eq0
returns-then-ws-eq0 c = one_none c.args.ws.now c.if-ws-eq0.true

pub returns-in_err-packets : goal.returns-in_err-packets
returns-in_err-packets c =
    let s : List ℕ = c.args.ws.now in
    let p = err_from_is_err_and c.from_residual.result c.from_residual.ensures.1 in
    let front = c.size_of-n.ensures.front in
    let r = one_refused s _ (omega arith) front counts_of _ c.in_err-packets.ensures in
    rw (p.1, p.2)
    (ap (λ (t : Told). record { number = t.number; word = t.word; kind = 0 }) r.1
    ∙ ap (λ (w : ℕ). record { number = words_fault s; word = w; kind = 0 }) (ap (word_at (words_fault s)) front ∙ cut-word s)
    ∙ one-refused s r.0)

pub bounds-ws-3 : goal.bounds-ws-3
bounds-ws-3 c =
    let s : List ℕ = c.args.ws.now in
    let n = one-long s (one_listed s _ (omega arith) c.size_of-n.ensures.front counts_of _ c.in_ok-packets.ensures) in
    search rules

pub returns : goal.returns
returns c =
    let s : List ℕ = c.args.ws.now in
    let z = one_listed s _ (omega arith) c.size_of-n.ensures.front counts_of _ c.in_ok-packets.ensures in
    one-sound s _ z c.type_of.ensures

-- A structure that passes every test has no fault; of others nothing is said. Assumes nothing.
use Rattle.std.proofs.Common.{◌+◌, ◌≤◌, ◌≡◌, length, get_or, sym, ap, ◌∙◌, arith}
use mathlib.Core.Logic.{◌⊎◌, inl, inr}
use borrow.Author.Tests.{eqb-true}
use Rattle.mxf.specs.Element.{luma, colour}
use Rattle.mxf.specs.Judging.{two_in, four_in, others, array_for, dc_in}
use Rattle.mxf.specs.Parts.{Whole}
use Rattle.mxf.proofs.JudgingLaws.{passes}
use Rattle.mxf.proofs.judging.is_structure.Goals as goal
use Rattle.mxf.proofs.judging.is_structure.Goals.{else-s-LUMA-via-then-s-LUMA+else-s-COLOUR, else-s-LUMA-via-else-s-LUMA}

pub returns-clause-passes : goal.returns-clause-passes
returns-clause-passes g c = λ q system w e.
    let k = g.S.Samples.writer.coding in
    let s = c.args.s.now in
    let named = g.met.S.Samples.named in
    let line = c.two-line.ensures.0 in
    let samples = c.two-samples.ensures.0 in
    let count = c.four-count.ensures.0 in
    let dc = c.dc.ensures in
    let n = named.2 in
    let room : array_for k (two_in s 4) ≤ four_in s 6 = let x = c.array_bytes.ensures ∙ ap (array_for k) samples in omega arith in
    let shown : dc_in k s + others k ≡ two_in s 4 = let x = c.if-samples-dc.false in omega arith in
    let there : 14 + four_in s 6 ≤ length s = let x = c.if-s-count.false in omega arith in
    let coded : (get_or s 3 0 ≡ luma k) ⊎ (get_or s 3 0 ≡ colour k) =
    elim c.else-s-LUMA.branch [
      | else-s-LUMA-via-then-s-LUMA+else-s-COLOUR v ↦ inr (v.if-s-COLOUR.false ∙ v.COLOUR.ensures ∙ named.1)
      | else-s-LUMA-via-else-s-LUMA v ↦ inl (v.if-s-LUMA.false ∙ c.LUMA.ensures ∙ named.0)
    ] in
    let whole : Whole k s = record { there = there; room = room; dc = shown } in
    passes k system _ s e (λ z. let x = c.if-line-eq0.false in omega arith) (let x = c.if-last-line.false in omega arith)
    (c.if-s-wrapping.false ∙ w) coded whole (omega arith) (sym c.four.ensures.0 ∙ eqb-true _ _ q)

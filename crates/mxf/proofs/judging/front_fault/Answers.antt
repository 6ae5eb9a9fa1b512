-- Line, wrapping and coding, each missing, wrong or right. Assumes nothing.
use Rattle.std.proofs.Common.{◌∙◌, sym, arith}
use Rattle.mxf.proofs.JudgingLaws.{line-missing, line-none, line-past, wrapping-missing, wrapping-wrong, coding-missing, coding-wrong, luma, colour}
use Rattle.mxf.proofs.judging.front_fault.Goals as goal
use Rattle.mxf.proofs.judging.front_fault.Goals.{
  then-line-eq0-via-then-line-eq0,
  then-line-eq0-via-else-line-eq0+then-last-line,
  else-s-LUMA-via-then-s-LUMA+else-s-COLOUR,
  else-s-LUMA-via-else-s-LUMA,
}

pub returns-then-s-lt2 : goal.returns-then-s-lt2
returns-then-s-lt2 g c = λ e o. line-missing g.S.Samples.writer.coding _ _ _ _ e o c.if-s-lt2.true

pub returns-then-line-eq0 : goal.returns-then-line-eq0
returns-then-line-eq0 g c = λ e o.
    let k = g.S.Samples.writer.coding in
    let t = c.two-line.ensures.0 in
    elim c.then-line-eq0.branch [
      | then-line-eq0-via-then-line-eq0 w ↦ line-none k _ _ _ _ e o c.if-s-lt2.false (let m = w.if-line-eq0.true in omega arith)
      | then-line-eq0-via-else-line-eq0+then-last-line w ↦
          line-past k _ _ _ _ e o c.if-s-lt2.false (let m = w.if-last-line.true in omega arith)
    ]

pub returns-then-s-lt3 : goal.returns-then-s-lt3
returns-then-s-lt3 g c = λ e o.
    let t = c.two-line.ensures.0 in
    let l = c.if-last-line.false in
    let m = c.if-line-eq0.false in
    wrapping-missing g.S.Samples.writer.coding _ _ _ _ e o c.if-s-lt2.false (λ z. omega arith) (omega arith) c.if-s-lt3.true

pub returns-then-s-wrapping : goal.returns-then-s-wrapping
returns-then-s-wrapping g c = λ e o.
    let t = c.two-line.ensures.0 in
    let l = c.if-last-line.false in
    let m = c.if-line-eq0.false in
    wrapping-wrong g.S.Samples.writer.coding _ _ _ _ e o c.if-s-lt2.false (λ z. omega arith) (omega arith) c.if-s-lt3.false _
    c.wrapping.ensures c.if-s-wrapping.true

pub returns-then-s-lt4 : goal.returns-then-s-lt4
returns-then-s-lt4 g c = λ e o.
    let t = c.two-line.ensures.0 in
    let l = c.if-last-line.false in
    let m = c.if-line-eq0.false in
    coding-missing g.S.Samples.writer.coding _ _ _ _ e o c.if-s-lt2.false (λ z. omega arith) (omega arith) c.if-s-lt3.false _
    c.wrapping.ensures c.if-s-wrapping.false c.if-s-lt4.true

pub returns-then-s-COLOUR : goal.returns-then-s-COLOUR
returns-then-s-COLOUR g c = λ e o.
    let t = c.two-line.ensures.0 in
    let l = c.if-last-line.false in
    let m = c.if-line-eq0.false in
    coding-wrong g.S.Samples.writer.coding _ _ _ _ e o c.if-s-lt2.false (λ z. omega arith) (omega arith) c.if-s-lt3.false _
    c.wrapping.ensures c.if-s-wrapping.false c.if-s-lt4.false
    (λ z. c.if-s-LUMA.true (z ∙ sym (c.LUMA.ensures ∙ g.met.S.Samples.named.0)))
    (λ z. c.if-s-COLOUR.true (z ∙ sym (c.COLOUR.ensures ∙ g.met.S.Samples.named.1)))

pub returns : goal.returns
returns g c = λ e o.
    let k = g.S.Samples.writer.coding in
    let t = c.two-line.ensures.0 in
    let l = c.if-last-line.false in
    let m = c.if-line-eq0.false in
    elim c.else-s-LUMA.branch [
      | else-s-LUMA-via-then-s-LUMA+else-s-COLOUR w ↦
          colour k _ _ _ _ e o c.if-s-lt2.false (λ z. omega arith) (omega arith) c.if-s-lt3.false _ c.wrapping.ensures c.if-s-wrapping.false
          c.if-s-lt4.false (w.if-s-COLOUR.false ∙ w.COLOUR.ensures ∙ g.met.S.Samples.named.1)
      | else-s-LUMA-via-else-s-LUMA w ↦
          luma k _ _ _ _ e o c.if-s-lt2.false (λ z. omega arith) (omega arith) c.if-s-lt3.false _ c.wrapping.ensures c.if-s-wrapping.false
          c.if-s-lt4.false (w.if-s-LUMA.false ∙ c.LUMA.ensures ∙ g.met.S.Samples.named.0)
    ]

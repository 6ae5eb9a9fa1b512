-- LE 0; LE 1, with a line that is among the frame's or not.
use Rattle.std.proofs.Common.{refl, sym, ◌∙◌}
use Rattle.danc.proofs.Laws.{no_line, line-found, cs-right}
use Rattle.danc.proofs.is_sound.Goals as goal

pub returns-then-h0-lt128 : goal.returns-then-h0-lt128
returns-then-h0-lt128 c y l q = sym (no_line y _ refl _ _ c.if-h0-lt128.true ∙ cs-right y _ (sym c.if-not-is_cs_right.ensures))

pub returns : goal.returns
returns c y l q =
    let found = rw (c.line_of.ensures, l) at (sym c.is_in.ensures ∙ q) in
    sym (line-found y _ _ c.if-h0-lt128.false found ∙ cs-right y _ (sym c.if-not-is_cs_right.ensures))

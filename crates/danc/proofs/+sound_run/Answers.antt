-- One packet without a fault, and the run behind it.
use Rattle.std.proofs.Common.{refl, ◌∙◌, arith}
use Rattle.rules.specs.Sheet.{limit}
use Rattle.danc.proofs.Validation.{run-next}
use Rattle.danc.proofs.+sound_run.Goals as goal

pub one_more-requires : goal.one_more-requires
unfolding limit
one_more-requires t c =
    let w = c.requires.0 in
    (omega (arith, w.packet), omega (arith, w.short))

pub sound_run-requires : goal.sound_run-requires
unfolding limit
sound_run-requires t c =
    let w = c.requires.0 in
    let b = c.requires.1 in
    let s = c.wide-size.ensures in
    let m = c.one_more.ensures in
    (omega arith, (record { short = w.short; place = omega arith; packet = omega arith }, record { inside = b.inside; few = omega arith }))

pub returns-then-is_sound : goal.returns-then-is_sound
unfolding limit
returns-then-is_sound t c = record {
  within = c.sound_run.ensures.within;
  same = λ y l room.
      rw (c.one_more.ensures.0, c.one_more.ensures.1) at (c.sound_run.ensures.same y l room)
      ∙ run-next y room c.args.us.now c.args.end c.args.run.end _ _ (omega arith) (omega arith) (omega arith)
      c.wide-size.ensures.0 c.wide-size.ensures.1 (c.if-is_sound.ensures y l refl);
}

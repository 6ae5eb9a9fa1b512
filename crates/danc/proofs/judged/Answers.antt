-- No fault; a packet that `is_sound` does not tell has none; a refusal.
use Rattle.std.proofs.Common.{refl, sym, ap, ◌∙◌, arith}
use Rattle.std.proofs.lemmas.Result.{err_from_is_err_and}
use Rattle.frame.specs.Lines.{lines_of}
use Rattle.danc.specs.Validated.{Within}
use Rattle.danc.proofs.Validation.{judged-sound, judged-ok, judged-err}
use Rattle.danc.proofs.judged.Goals as goal

pub returns-then-is_sound : goal.returns-then-is_sound
returns-then-is_sound c y e l few =
    judged-sound y c.args.us.now c.args.end c.args.at c.args.k c.requires.0 c.requires.1 c.told-us
    (c.if-is_sound.ensures y (l ∙ ap lines_of (sym e)) refl)

pub returns-in_err-validate : goal.returns-in_err-validate
returns-in_err-validate c y e l few =
    let within : Within c.args.end c.args.at c.args.k = record { short = c.requires.1; place = omega arith; packet = omega arith } in
    let p = err_from_is_err_and c.from_residual.result c.from_residual.ensures.1 in
    rw (p.1, p.2)
    (judged-err y c.args.us.now c.args.end c.args.at c.args.k c.requires.0 c.requires.1 c.told-us few _
    (c.in_err-validate.ensures y e within))

pub returns : goal.returns
returns c y e l few =
    let within : Within c.args.end c.args.at c.args.k = record { short = c.requires.1; place = omega arith; packet = omega arith } in
    judged-ok y c.args.us.now c.args.end c.args.at c.args.k c.requires.0 c.requires.1 c.told-us few c.in_ok-validate.field-0
    (c.in_ok-validate.ensures y e within)

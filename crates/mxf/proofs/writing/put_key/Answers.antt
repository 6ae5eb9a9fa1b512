-- The key, over the front. Assumes nothing.
use Rattle.std.proofs.Common.{List, ℕ, ◌++◌, drop, ap, sym, ◌∙◌, arith}
use lib.Seq.{sets-eq}
use Rattle.mxf.specs.Element.{key}
use Rattle.mxf.proofs.writing.put_key.Goals as goal

pub returns : goal.returns
unfolding key
returns c =
    let out = c.args.out.now in
    let h = c.requires in
    ap (λ (t : List ℕ). t ++ drop 16 out) c.copy_from_slice.ensures.after ∙ sym (sets-eq key out 0 (omega arith))

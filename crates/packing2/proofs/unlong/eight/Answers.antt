-- A pack more pulled down. Assumes nothing.
use Rattle.std.proofs.Common.{ℕ, ◌≡◌, ◌+◌, ◌-◌, ◌*◌, ◌∙◌, sym, ap, take, drop, arith}
use Rattle.std.proofs.lemmas.List.Edits.{sets}
use Rattle.packing2.proofs.UnlongLaws.{down_turn, down-end}
use Rattle.packing2.proofs.unlong.eight.Goals as goal

pub loop-i-preserved : goal.loop-i-preserved
loop-i-preserved g c =
    let n = g.row.N in
    let l = c.loop-i in
    let from : ℕ = c.args.from + (n + 3) * l.i in
    let to : ℕ = c.args.to + n * l.i in
    let room : n ≡ n + 3 - 3 = omega arith in
    let same = ap (λ (k : ℕ). sets l.us to (take k (drop (from + 3) l.us))) room in
    down_turn (n + 3) l.i l.us from to (omega arith) (c.down.ensures ∙ same) (grind arith) (grind arith) ∙ l.invariant

pub returns : goal.returns
returns g c = let l = c.loop-i in sym (down-end (g.row.N + 3) l.i l.us _ _ (omega arith)) ∙ l.invariant

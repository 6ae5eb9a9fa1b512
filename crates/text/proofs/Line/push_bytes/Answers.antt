use Rattle.std.proofs.Common.{◌≡◌, ℕ, ◌-◌, ◌≤◌, List, ◌++◌, length, take, min, ap, ◌∙◌, arith}
use Rattle.std.proofs.Math.Seq.{take-append-add}
use Rattle.std.proofs.lemmas.List.{take_all, length-take-le}
use Rattle.std.proofs.lemmas.Slice.{take-put_mid}
use Rattle.text.proofs.Line.push_bytes.Goals as goal

-- what there is room for of the second text, behind the first
append_within : (N n : ℕ) (xs ys : List ℕ) → length xs ≤ N → n ≡ min (length ys) (N - length xs) → xs ++ take n ys ≡ take N (xs ++ ys)
append_within N n xs ys within is = grind (arith, take-append-add xs ys (N - length xs), take_all (N - length xs) ys, take_all n ys)

-- the part of the buffer that is written begins where the text so far ends
pub returns : goal.returns
returns g c =
    let so_far = c.self.inside in
    let text = c.args.text.now in
    let within : so_far.len ≤ g.row.N = c.self.invariant in
    let length_so_far = length-take-le so_far.len so_far.bytes (omega (arith, c.self.told)) in
    let written = c.copy_from_slice.ensures.after in
    let length_written = ap length written ∙ length-take-le c.min-n.result text (omega (arith, c.min-n.ensures)) in
    take-put_mid so_far.len _ so_far.bytes _ _ (omega (arith, length_written)) (omega (arith, c.self.told))
    ∙ ap (λ (xs : List ℕ). take so_far.len so_far.bytes ++ xs) written
    ∙ append_within g.row.N c.min-n.result (take so_far.len so_far.bytes) text (omega (arith, length_so_far)) (rw length_so_far c.min-n.ensures)
    ∙ ap (λ (xs : List ℕ). take g.row.N (xs ++ text)) c.self.view_is

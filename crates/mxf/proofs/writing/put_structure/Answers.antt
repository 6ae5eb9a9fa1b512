-- The fields, and the samples behind them. Assumes nothing.
use Rattle.std.proofs.Common.{ℕ, List, ◌∷◌, ◌++◌, length, refl, sym, ◌∙◌, arith}
use Rattle.std.proofs.Math.Path.{ap₂}
use Rattle.mxf.specs.Element.{two, four}
use Rattle.mxf.proofs.Writers.{behind-front}
use Rattle.mxf.proofs.writing.put_structure.Goals as goal

pub returns : goal.returns
returns g c =
    let w = g.S.Samples.writer in
    let a = c.args in
    let n = length a.ws.now in
    let s = w.array a.ws.now in
    let room = c.requires.out_len in
    let fields : List ℕ = two a.line.0 ++ a.wrapping ∷ c.coding_of.result ∷ two n ++ four c.array_bytes-array.result ++ four 1 in
    behind-front fields s _ a.out.now _ 14 refl (omega arith) c.put_fields.ensures c.put_samples.ensures
    ∙ ap₂ (λ (m k : ℕ). two a.line.0 ++ a.wrapping ∷ m ∷ two n ++ four k ++ four 1 ++ s) c.coding_of.ensures
    (c.array_bytes-array.ensures ∙ sym (w.array_long a.ws.now))

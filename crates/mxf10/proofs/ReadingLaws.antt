-- Reading an element that has been found right: the words of its packets.
--
-- In order: the words of a packet; the words of packets; the answer.
-- Assumes nothing.
use Prim.Native.Nat.{ℕ, ◌-◌, ◌≤◌}
use mathlib.Core.Path.{◌≡◌, refl, sym, ap, ap₂, ◌∙◌, subst}
use mathlib.Core.Bool.{Bool}
use mathlib.Core.List.{List, [], ◌∷◌, ◌++◌, append-nil}
use native.Mathlib.Omega.{arith}
use lib.ListN.{length, take, drop, length-drop, length-set, drop_of_length-le}
use lib.Seq.{length-take-le}
use Rattle.rules.specs.Base.{Bytes}
use Rattle.sheet.proofs.Filling.{part-kept, three_of}
use Rattle.mxf.specs.Element.{ten}
use Rattle.mxf.specs.Judging.{samples_in, array_for}
use Rattle.mxf.specs.Reading.{reading_of}
use Rattle.mxf.specs.Parts.{Answers}
use Rattle.mxf.specs.declared.ElementRead.{ElementRead}
use Rattle.mxf10.specs.Reading.{judged, reading, read, sheet_after}
use Rattle.mxf10.specs.Demands.{ReadsTen}
use Rattle.mxf.proofs.Tens.{samples-length}
use Rattle.mxf10.proofs.Accepting.{reads}

-- ---- the words of a packet

-- the flag and the samples, as they are written
module _ (s out : List ℕ) (h : 3 ≤ length out) (k : array_for ten (length out - 3) ≤ length s) where
  abbrev three : List ℕ
  three = three_of out 0x000 0x3FF 0x3FF

  abbrev behind : List ℕ
  behind = take (length three - 3) (drop 3 three)

  three-long : length three ≡ length out
  three-long = simp length-set

  room-is : length behind ≡ length out - 3
  room-is =
      let l = three-long in
      let d = length-drop 3 three in
      length-take-le (length three - 3) (drop 3 three) (omega arith) ∙ (omega arith)

  pub packet-fits : array_for ten (length behind) ≤ length s
  packet-fits = subst (λ (m : ℕ). array_for ten m ≤ length s) (sym room-is) k

  module _ (ys : List ℕ) (q : ys ≡ take (length behind) (samples_in s)) where
    pub packet-kept : length (take 3 three ++ (ys ++ drop (length three - 3) (drop 3 three))) ≡ length out
    packet-kept =
        let l = length-take-le (length behind) (samples_in s) (samples-length s (length behind) packet-fits) in
        part-kept 3 (length three - 3) three ys (ap length q ∙ l) ∙ three-long

    pub packet-laid :
        take 3 three ++ (ys ++ drop (length three - 3) (drop 3 three)) ≡ 0x000 ∷ 0x3FF ∷ 0x3FF ∷ take (length out - 3) (samples_in s)
    packet-laid =
        let l = three-long in
        let d = length-drop 3 three in
        let all : length (drop 3 three) ≤ length three - 3 = omega arith in
        let none : drop (length three - 3) (drop 3 three) ≡ [] = drop_of_length-le (drop 3 three) all in
        ap₂ (λ (a b : List ℕ). a ++ (ys ++ b)) (head out h) none
        ∙ ap (λ (r : List ℕ). 0x000 ∷ 0x3FF ∷ 0x3FF ∷ r) (append-nil ys ∙ q ∙ ap (λ (m : ℕ). take m (samples_in s)) room-is)
      where
        head : (out : List ℕ) → 3 ≤ length out → take 3 (three_of out 0x000 0x3FF 0x3FF) ≡ 0x000 ∷ 0x3FF ∷ 0x3FF ∷ []
        head [] h = absurd (omega arith)
        head (a ∷ []) h = absurd (omega arith)
        head (a ∷ b ∷ []) h = absurd (omega arith)
        head (a ∷ b ∷ c ∷ out) h = refl

-- ---- the answer as the definitions have it

-- the contract, over an element of bytes
pub answered : (sys : ℕ) (fi : Bool) (e sheet : List ℕ) (r : ElementRead) (after : List ℕ) → Bytes e
    → Answers sys sheet (reading_of sys (judged sys fi e) (length sheet)) r after → ReadsTen sys fi e sheet r after
unfolding reading read sheet_after
answered sys fi e sheet r after b a = reads sys fi e sheet r after b a.answer a.buffer

-- Filling a buffer from its front, number by number and part by part, and the sheet of a list so filled.
--
-- In order: what stands before a place; three numbers, a part and a number; the sheet.
-- Assumes nothing.
use Prim.Native.Nat.{ℕ, ◌+◌, ◌-◌, ◌*◌, ◌≤◌, ◌<◌}
use mathlib.Core.Path.{◌≡◌, refl, sym, ap, ap₂, ◌∙◌}
use mathlib.Core.List.{List, [], ◌∷◌, ◌++◌, append_assoc, append-nil}
use native.Mathlib.Omega.{arith}
use native.Mathlib.Numerals.{add-one}
use lib.ListN.{length, take, drop, set, length-append, length-drop, length-set, drop_of_length-le, take-append-drop}
use lib.Seq.{length-take-le, length_front, take-suc-set, take_at, drop_at, take_all, append_snoc}
use Rattle.rules.specs.Packet.{Packet}
use Rattle.rules.specs.Sheet.{locations, all_words, sheet_of}
use Rattle.rules.proofs.Sheets.{locations-length}

-- ---- what stands before a place, and then r

-- one number more
pub one_more : (out : List ℕ) (i a : ℕ) (r : List ℕ) → i < length out → take (i + 1) (set out i a) ++ r ≡ take i out ++ a ∷ r
one_more out i a r h = rw (add-one i, take-suc-set out i a h) (append_snoc (take i out) a r)

-- two numbers more
pub two-more : (out : List ℕ) (i a b : ℕ) (r : List ℕ) → i + 1 < length out
    → take (i + 2) (set (set out i a) (i + 1) b) ++ r ≡ take i out ++ a ∷ b ∷ r
two-more out i a b r h =
    let e : i + 2 ≡ i + 1 + 1 = omega arith in
    let l = length-set out i a in
    rw e (one_more (set out i a) (i + 1) b r (omega arith) ∙ one_more out i a (b ∷ r) (omega arith))

-- with a part that was lent and came back, a list is as long as it was
pub part-kept : (a n : ℕ) (l ys : List ℕ) → length ys ≡ length (take n (drop a l)) → length (take a l ++ (ys ++ drop n (drop a l))) ≡ length l
part-kept a n l ys e =
    length-append (take a l) (ys ++ drop n (drop a l))
    ∙ ap (λ (m : ℕ). length (take a l) + m) (length_front (drop a l) ys n e)
    ∙ sym (length-append (take a l) (drop a l))
    ∙ ap length (take-append-drop a l)

-- and what stands up to the part's end
pub part-front : (a n end : ℕ) (l ys : List ℕ) → a ≤ length l → end ≡ a + length ys
    → take end (take a l ++ (ys ++ drop n (drop a l))) ≡ take a l ++ ys
part-front a n end l ys h e =
    let m = length-take-le a l h in
    let k = length-append (take a l) ys in
    ap (take end) (sym (append_assoc (take a l) ys (drop n (drop a l))))
    ∙ take_at (take a l ++ ys) (drop n (drop a l)) end (omega arith)

-- a part more, which was lent and came back
module _ (out ys : List ℕ) (at end : ℕ) (h : at ≤ end) (k : end ≤ length out) (l : length ys ≡ end - at) where
  abbrev after : List ℕ
  after = drop (end - at) (drop at out)

  front_long : length (take at out ++ ys) ≡ end
  front_long = length-append (take at out) ys ∙ (let m = length-take-le at out (omega arith) in omega arith)

  pub part-long : length (take at out ++ (ys ++ after)) ≡ length out
  part-long =
      let c = length-drop at out in
      part-kept at (end - at) out ys (l ∙ sym (length-take-le (end - at) (drop at out) (omega arith)))

  pub part-behind : drop end (take at out ++ (ys ++ after)) ≡ after
  part-behind = ap (drop end) (sym (append_assoc (take at out) ys after)) ∙ drop_at (take at out ++ ys) after end front_long

  pub part-more : (r : List ℕ) → take end (take at out ++ (ys ++ after)) ++ r ≡ take at out ++ (ys ++ r)
  part-more r = rw (part-front at (end - at) end out ys (omega arith) (omega arith)) (append_assoc (take at out) ys r)

-- all is written
pub all-written : (out r goal : List ℕ) (i : ℕ) → length out ≤ i → r ≡ [] → take i out ++ r ≡ goal → out ≡ goal
all-written out r goal i h e inv = sym (ap (λ (t : List ℕ). take i out ++ t) e ∙ append-nil (take i out) ∙ take_all i out h) ∙ inv

-- ---- three numbers, a part that was lent, and a number after it

abbrev pub three_of : List ℕ → ℕ → ℕ → ℕ → List ℕ
three_of out x y z = set (set (set out 0 x) 1 y) 2 z

abbrev pub back_of : List ℕ → List ℕ → ℕ → List ℕ
back_of three ys mid = take 3 three ++ (ys ++ drop (mid - 3) (drop 3 three))

-- behind the three all is as it was
pub three-tail : (out : List ℕ) (x y z : ℕ) → drop 3 (three_of out x y z) ≡ drop 3 out
three-tail [] x y z = refl
three-tail (a ∷ []) x y z = refl
three-tail (a ∷ b ∷ []) x y z = refl
three-tail (a ∷ b ∷ c ∷ out) x y z = refl

module _ (out ys : List ℕ) (x y z mid v : ℕ) (h : 3 ≤ mid) (k : mid < length out) (l : length ys ≡ mid - 3) where
  abbrev three : List ℕ
  three = three_of out x y z

  abbrev back : List ℕ
  back = back_of three ys mid

  three-head : take 3 three ≡ x ∷ y ∷ z ∷ []
  three-head = go out (omega arith)
    where
      go : (out : List ℕ) → 3 ≤ length out → take 3 (set (set (set out 0 x) 1 y) 2 z) ≡ x ∷ y ∷ z ∷ []
      go [] h = absurd (omega arith)
      go (a ∷ []) h = absurd (omega arith)
      go (a ∷ b ∷ []) h = absurd (omega arith)
      go (a ∷ b ∷ c ∷ out) h = refl

  back_is : back ≡ (x ∷ y ∷ z ∷ ys) ++ drop (mid - 3) (drop 3 three)
  back_is = ap (λ (t : List ℕ). t ++ (ys ++ drop (mid - 3) (drop 3 three))) three-head

  pub back_long : length back ≡ length out
  back_long =
      let d : length three ≡ length out = simp length-set in
      part-long three ys 3 mid h (omega arith) l ∙ d

  pub back-set : take (mid + 1) (set back mid v) ≡ (x ∷ y ∷ z ∷ ys) ++ v ∷ []
  back-set =
      let b = back_long in
      let f : take mid back ≡ x ∷ y ∷ z ∷ ys = rw back_is (take_at (x ∷ y ∷ z ∷ ys) (drop (mid - 3) (drop 3 three)) mid (omega arith)) in
      rw (add-one mid) (take-suc-set back mid v (omega arith) ∙ ap (λ (t : List ℕ). t ++ v ∷ []) f)

-- ---- the sheet of a list

-- the counts with the system, the locations, and then the words: w of them, in `out`, which is as long as the sheet
module _ (sys packets w : ℕ) (ps : List Packet) (out ls : List ℕ) (hp : packets ≡ length ps) (hw : w ≡ length (all_words ps))
    (room : length out ≡ 4 + 2 * packets + w) (hl : ls ≡ locations ps) where
  abbrev mid : ℕ
  mid = 3 + 2 * packets

  abbrev before : List ℕ
  before = back_of (three_of out 1 sys packets) ls mid

  abbrev counted : List ℕ
  counted = set before mid w

  ls-long : length ls ≡ mid - 3
  ls-long = ap length hl ∙ locations-length ps ∙ (omega arith)

  pub sheet-before : length before ≡ length out
  sheet-before = back_long out ls 1 sys packets mid w (omega arith) (omega arith) ls-long

  counted-long : length counted ≡ length out
  counted-long = length-set before mid w ∙ sheet-before

  module _ (ws : List ℕ) (e : ws ≡ all_words ps) where
    ws-long : length ws ≡ length counted - (mid + 1)
    ws-long = let c = counted-long in ap length e ∙ (omega arith)

    pub sheet-filled : take (mid + 1) counted ++ (ws ++ drop (length counted - (mid + 1)) (drop (mid + 1) counted)) ≡ sheet_of sys ps
    unfolding sheet_of
    sheet-filled =
        let d = length-drop (mid + 1) counted in
        let head : take (mid + 1) counted ≡ (1 ∷ sys ∷ packets ∷ ls) ++ w ∷ [] =
        back-set out ls 1 sys packets mid w (omega arith) (omega arith) ls-long in
        let l : length (drop (mid + 1) counted) ≤ length counted - (mid + 1) = omega arith in
        let none : drop (length counted - (mid + 1)) (drop (mid + 1) counted) ≡ [] = drop_of_length-le (drop (mid + 1) counted) l in
        let all : ws ++ [] ≡ all_words ps = append-nil ws ∙ e in
        ap₂ (λ (a b : List ℕ). a ++ (ws ++ b)) head none
        ∙ append_assoc (1 ∷ sys ∷ packets ∷ ls) (w ∷ []) (ws ++ [])
        ∙ (λ i. (1 ∷ sys ∷ hp i ∷ hl i) ++ hw i ∷ all i)

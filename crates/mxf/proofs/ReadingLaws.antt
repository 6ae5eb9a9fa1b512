-- Reading an element that has been found right: its structures one after the other, and what is written of the sheet so far.
--
-- In order: the structures that are left; locations; lines; the words of packets; the sections; the answer.
-- Assumes nothing.
use Prim.Native.Nat.{ℕ, suc, ◌+◌, ◌-◌, ◌*◌, ◌≤◌, ◌<◌}
use mathlib.Core.Path.{◌≡◌, refl, sym, ap, ap₂, ◌∙◌, subst}
use mathlib.Core.Bool.{Bool, true, false, cond}
use mathlib.Core.Logic.{◌⊎◌, inl, inr}
use mathlib.Core.List.{List, [], ◌∷◌, ◌++◌}
use native.Mathlib.Nat.{zero-add, add-zero}
use native.Mathlib.Omega.{arith}
use lib.Dec.{eqb, leb}
use lib.ListN.{length, get_or, take, drop, set, length-append, length-drop, length-set}
use lib.Seq.{length-take-le, get_or-drop, drop-drop, take_all}
use borrow.Author.Tests.{eq-eqb, ne_eqb, le-leb, lt-leb}
use Rattle.rules.specs.Base.{Bytes}
use Rattle.rules.specs.Systems.{System, known, system, allowed}
use Rattle.rules.specs.Packet.{Packet, words}
use Rattle.rules.specs.Sheet.{limit, locations, all_words, sheet_of}
use Rattle.rules.specs.Numbers.{Outcome, listed, refused, unless, and_then}
use Rattle.rules.specs.Laying.{location_allowed}
use Rattle.rules.specs.Reading.{buffer_of}
use Rattle.rules.proofs.Basics.{second-false, rest_part}
use Rattle.rules.proofs.Sheets.{locations-length, sheet-length}
use Rattle.rules.proofs.Words.{packet-words, words-room as words-count}
use Rattle.sheet.specs.Standing.{in_front}
use Rattle.sheet.specs.Write.{has_room, list_in}
use Rattle.sheet.proofs.Laws.{count_at}
use Rattle.sheet.proofs.Filling.{two-more, part-long, part-more, all-written, three_of, back_of}
use Rattle.sheet.proofs.Filling.{sheet-before, sheet-filled}
use Rattle.mxf.specs.Served.{fi_read}
use Rattle.mxf.specs.Element.{Coding, luma}
use Rattle.mxf.specs.Judging.{two_in, four_in, others, array_for, size_in, dc_in, packet_in, structures, judged, judged_as}
use Rattle.mxf.specs.Reading.{last_tests, packet_tests, reading_of, reading, read_of, read, sheet_after}
use Rattle.mxf.specs.Demands.{Reads}
use Rattle.mxf.specs.Parts.{Whole, packets_of_structures, Judged, Sized, beside, words_by, Answers}
use Rattle.mxf.specs.declared.ElementRead.{ElementRead}
use Rattle.mxf.proofs.JudgingLaws.{two-drop, four-drop}
use Rattle.mxf.proofs.Tens.{packet-long, words-shown}
use Rattle.mxf.proofs.Accepting.{reads}
use Rattle.mxf.proofs.Inversion.{structures-listed, structures-none, structures-count, judged-listed, judged-number}

-- ---- the structures that are left

module _ (c : Coding) (sys : ℕ) (fi : Bool) (n : ℕ) (s : List ℕ) where
  -- from place `at` on, where k have been gone through
  abbrev pub left_of : ℕ → ℕ → Outcome
  left_of k at = structures c sys fi (n - k) (22 + at) (drop at s)

  abbrev pub rest_of : ℕ → ℕ → List Packet
  rest_of k at = list_in (left_of k at)

  abbrev pub Left : ℕ → ℕ → Type 0
  Left k at = left_of k at ≡ listed (rest_of k at)

  none-gone : n ≡ n - 0
  none-gone = omega arith

  pub rest_all : rest_of 0 0 ≡ packets_of_structures c sys fi n s
  rest_all = ap (λ (m : ℕ). list_in (structures c sys fi m 22 s)) (sym none-gone)

  pub left-all : Judged c sys fi n s → Left 0 0
  left-all j = subst (λ (m : ℕ). structures c sys fi m 22 s ≡ listed (list_in (structures c sys fi m 22 s))) none-gone j

  pub left-none : (k at : ℕ) → Left k at → n ≤ k → rest_of k at ≡ []
  left-none k at l h =
      let z : n - k ≡ 0 = omega arith in
      let e : structures c sys fi 0 (22 + at) (drop at s) ≡ listed (rest_of k at) =
      ap (λ (m : ℕ). structures c sys fi m (22 + at) (drop at s)) (sym z) ∙ l in
      (structures-none c sys fi (22 + at) (drop at s) (rest_of k at) e).1

  -- one of them: what its fields say, by their places in s
  pub record Turn (k at : ℕ) : Type 0 where
    pub enough : array_for c (two_in s (at + 4)) ≤ four_in s (at + 6)
    pub inside : at + 14 + four_in s (at + 6) ≤ length s
    pub dc : dc_in c (drop at s) + others c ≡ two_in s (at + 4)
    pub front : rest_of k at ≡ packet_in c sys fi (drop at s) ∷ rest_of (k + 1) (at + 14 + four_in s (at + 6))
    pub later : Left (k + 1) (at + 14 + four_in s (at + 6))

  pub turn : (k at : ℕ) → Left k at → k < n → Turn k at
  turn k at l h =
      let t : List ℕ = drop at s in
      let one : n - k ≡ suc (n - (k + 1)) = omega arith in
      let e : structures c sys fi (suc (n - (k + 1))) (22 + at) t ≡ listed (rest_of k at) =
      ap (λ (m : ℕ). structures c sys fi m (22 + at) t) (sym one) ∙ l in
      let m = structures-listed c sys fi (n - (k + 1)) (22 + at) t (rest_of k at) e in
      let st = m.structure in
      let long = length-drop at s in
      let a = two-drop at 4 s in
      let b = four-drop at 6 s in
      let p : 22 + (at + 14 + four_in s (at + 6)) ≡ 22 + at + size_in t = omega arith in
      let q : at + 14 + four_in s (at + 6) ≡ at + size_in t = omega arith in
      let f : left_of (k + 1) (at + 14 + four_in s (at + 6)) ≡ listed m.rest =
      ap₂ (λ (i : ℕ) (r : List ℕ). structures c sys fi (n - (k + 1)) i r) p (ap (λ (i : ℕ). drop i s) q ∙ sym (drop-drop (size_in t) at s))
      ∙ m.later in
      let g : rest_of (k + 1) (at + 14 + four_in s (at + 6)) ≡ m.rest = ap list_in f in
      record {
        enough = subst (λ (m : ℕ). array_for c m ≤ four_in s (at + 6)) a (subst (λ (m : ℕ). array_for c (two_in t 4) ≤ m) b st.enough);
        inside = let x = st.inside in omega arith;
        dc = st.dc ∙ a;
        front = m.front ∙ ap (λ (r : List Packet). packet_in c sys fi t ∷ r) (sym g);
        later = f ∙ ap listed (sym g);
      }

-- ---- locations

-- the locations of the packets before `at` are written
pub record Locating (c : Coding) (sys : ℕ) (fi : Bool) (n : ℕ) (s out : List ℕ) (k at : ℕ) : Type 0 where
  pub left : Left c sys fi n s k at
  pub long : length out ≡ 2 * n
  pub written : take (2 * k) out ++ locations (rest_of c sys fi n s k at) ≡ locations (packets_of_structures c sys fi n s)

module _ (c : Coding) (sys : ℕ) (fi : Bool) (n : ℕ) (s out : List ℕ) where
  pub locating-none : Judged c sys fi n s → length out ≡ 2 * n → Locating c sys fi n s out 0 0
  locating-none j l = record { left = left-all c sys fi n s j; long = l; written = ap locations (rest_all c sys fi n s) }

  pub locating-all : (k at : ℕ) → Locating c sys fi n s out k at → n ≤ k → out ≡ locations (packets_of_structures c sys fi n s)
  locating-all k at was h =
      let none = left-none c sys fi n s k at was.left h in
      let l = was.long in
      all-written out (locations (rest_of c sys fi n s k at)) (locations (packets_of_structures c sys fi n s)) (2 * k) (omega arith)
      (ap locations none) was.written

  -- a turn: line and flags
  pub locating-more : (k at first line flags count : ℕ) → Locating c sys fi n s out k at → k < n → first ≡ fi_read sys fi → line ≡ two_in s at
      → flags ≡ first + 2 * cond (eqb (get_or s (at + 3) 0) (luma c)) 1 0 → count ≡ four_in s (at + 6)
      → Locating c sys fi n s (set (set out (2 * k) line) (2 * k + 1) flags) (k + 1) (at + (14 + count))
  locating-more k at first line flags count was h q e f g =
      let t = turn c sys fi n s k at was.left h in
      let l = was.long in
      let next : at + (14 + count) ≡ at + 14 + four_in s (at + 6) = omega arith in
      let qs : List Packet = rest_of c sys fi n s (k + 1) (at + (14 + count)) in
      let again : rest_of c sys fi n s (k + 1) (at + 14 + four_in s (at + 6)) ≡ qs = ap (rest_of c sys fi n s (k + 1)) (sym next) in
      let a : (packet_in c sys fi (drop at s)).line ≡ line = two-drop at 0 s ∙ ap (two_in s) (add-zero at) ∙ sym e in
      let b : (packet_in c sys fi (drop at s)).flags ≡ flags =
      ap₂ (λ (v x : ℕ). v + 2 * cond (eqb x (luma c)) 1 0) (sym q) (get_or-drop at s 3 0) ∙ sym f in
      let m : locations (rest_of c sys fi n s k at) ≡ line ∷ flags ∷ locations qs =
      ap locations (t.front ∙ ap (λ (r : List Packet). packet_in c sys fi (drop at s) ∷ r) again)
      ∙ ap₂ (λ (x v : ℕ). x ∷ v ∷ locations qs) a b in
      let i : 2 * (k + 1) ≡ 2 * k + 2 = omega arith in
      record {
        left = subst (Left c sys fi n s (k + 1)) (sym next) t.later;
        long = simp length-set l;
        written =
            ap (λ (j : ℕ). take j (set (set out (2 * k) line) (2 * k + 1) flags) ++ locations qs) i
            ∙ two-more out (2 * k) line flags (locations qs) (omega arith)
            ∙ ap (λ (r : List ℕ). take (2 * k) out ++ r) (sym m)
            ∙ was.written;
      }

-- ---- lines

-- of a system, how many packets in front of the first whose line is not allowed
abbrev allowed_of : System → List Packet → ℕ
allowed_of y ps = in_front (location_allowed y) (locations ps)

-- the lines of the packets before `at` are allowed
pub record Allowing (c : Coding) (sys : ℕ) (fi : Bool) (n : ℕ) (s : List ℕ) (last k at : ℕ) : Type 0 where
  pub left : Left c sys fi n s k at
  pub few : k ≤ n
  pub allowed : (y : System) → y.last ≡ last → k + allowed_of y (rest_of c sys fi n s k at) ≡ allowed_of y (packets_of_structures c sys fi n s)

module _ (c : Coding) (sys : ℕ) (fi : Bool) (n : ℕ) (s : List ℕ) (last : ℕ) where
  pub allowing-none : Judged c sys fi n s → Allowing c sys fi n s last 0 0
  allowing-none j =
      record { left = left-all c sys fi n s j; few = omega arith; allowed = λ y e. zero-add _ ∙ ap (allowed_of y) (rest_all c sys fi n s) }

  pub allowing-all : (k at : ℕ) → Allowing c sys fi n s last k at → n ≤ k → (y : System) → y.last ≡ last
      → k ≡ allowed_of y (packets_of_structures c sys fi n s)
  allowing-all k at was h y e =
      let z : allowed_of y (rest_of c sys fi n s k at) ≡ 0 = ap (allowed_of y) (left-none c sys fi n s k at was.left h) in
      sym (add-zero k) ∙ ap (λ (m : ℕ). k + m) (sym z) ∙ was.allowed y e

  -- a turn: the line
  module _ (k at line : ℕ) (was : Allowing c sys fi n s last k at) (h : k < n) (q : line ≡ two_in s at) where
    abbrev behind : List Packet
    behind = rest_of c sys fi n s (k + 1) (at + 14 + four_in s (at + 6))

    front : (y : System) → allowed_of y (rest_of c sys fi n s k at) ≡ cond (allowed y line) (suc (allowed_of y behind)) 0
    front y =
        let a : (packet_in c sys fi (drop at s)).line ≡ line = two-drop at 0 s ∙ ap (two_in s) (add-zero at) ∙ sym q in
        ap (allowed_of y) (turn c sys fi n s k at was.left h).front ∙ ap (λ (m : ℕ). cond (allowed y m) (suc (allowed_of y behind)) 0) a

    pub allowing-stop : (y : System) → y.last ≡ last → allowed y line ≡ false → k ≡ allowed_of y (packets_of_structures c sys fi n s)
    allowing-stop y e f = let z : allowed_of y (rest_of c sys fi n s k at) ≡ 0 = front y ∙ rw f in let w = was.allowed y e in omega arith

    pub allowing-more : ((y : System) → y.last ≡ last → allowed y line ≡ true) → (count : ℕ) → count ≡ four_in s (at + 6)
        → Allowing c sys fi n s last (k + 1) (at + (14 + count))
    allowing-more f count g =
        let next : at + (14 + count) ≡ at + 14 + four_in s (at + 6) = omega arith in
        record {
          left = subst (Left c sys fi n s (k + 1)) (sym next) (turn c sys fi n s k at was.left h).later;
          few = omega arith;
          allowed = λ y e.
              let z : allowed_of y (rest_of c sys fi n s k at) ≡ suc (allowed_of y behind) = front y ∙ rw (f y e) in
              let w = was.allowed y e in
              ap (λ (i : ℕ). k + 1 + allowed_of y (rest_of c sys fi n s (k + 1) i)) next ∙ (omega arith);
        }

-- ---- the words of packets

-- the words of the packets before `at` are written, o of them
pub record Wording (c : Coding) (sys : ℕ) (fi : Bool) (n : ℕ) (s out : List ℕ) (k at o : ℕ) : Type 0 where
  pub left : Left c sys fi n s k at
  pub room : o + length (all_words (rest_of c sys fi n s k at)) ≡ length out
  pub written : take o out ++ all_words (rest_of c sys fi n s k at) ≡ all_words (packets_of_structures c sys fi n s)

module _ (c : Coding) (sys : ℕ) (fi : Bool) (n : ℕ) (s out : List ℕ) where
  pub wording-none : Judged c sys fi n s → length out ≡ length (all_words (packets_of_structures c sys fi n s)) → Wording c sys fi n s out 0 0 0
  wording-none j l =
      let e : all_words (rest_of c sys fi n s 0 0) ≡ all_words (packets_of_structures c sys fi n s) = ap all_words (rest_all c sys fi n s) in
      let z : length (all_words (rest_of c sys fi n s 0 0)) ≡ length out = ap length e ∙ sym l in
      record { left = left-all c sys fi n s j; room = omega arith; written = e }

  pub wording-all : (k at o : ℕ) → Wording c sys fi n s out k at o → n ≤ k → out ≡ all_words (packets_of_structures c sys fi n s)
  wording-all k at o was h =
      let none = left-none c sys fi n s k at was.left h in
      let z : length (all_words (rest_of c sys fi n s k at)) ≡ 0 = ap (λ (r : List Packet). length (all_words r)) none in
      let l = was.room in
      all-written out (all_words (rest_of c sys fi n s k at)) (all_words (packets_of_structures c sys fi n s)) o (omega arith) (ap all_words none)
      was.written

  -- how many there are to write does not change
  pub wording-long : (k at o : ℕ) → Wording c sys fi n s out k at o → length out ≡ length (all_words (packets_of_structures c sys fi n s))
  wording-long k at o was =
      let r = was.room in
      let l = length-take-le o out (omega arith) in
      let a = length-append (take o out) (all_words (rest_of c sys fi n s k at)) in
      (omega arith) ∙ sym a ∙ ap length was.written

  -- a turn: the words of one packet, `long` of them
  module _ (k at o : ℕ) (was : Wording c sys fi n s out k at o) (h : k < n) (long : ℕ)
      (is : length (words (packet_in c sys fi (drop at s))) ≡ long) where
    abbrev packet : List ℕ
    packet = words (packet_in c sys fi (drop at s))

    abbrev count : ℕ
    count = four_in s (at + 6)

    step : Turn c sys fi n s k at
    step = turn c sys fi n s k at was.left h

    pub wording-room : o + long ≤ length out
    wording-room =
        let l = was.room in
        let qs : List Packet = rest_of c sys fi n s (k + 1) (at + 14 + count) in
        let a : length (all_words (rest_of c sys fi n s k at)) ≡ length (packet ++ all_words qs) =
        ap (λ (r : List Packet). length (all_words r)) step.front in
        let b = length-append packet (all_words qs) in
        omega arith

    module _ (next : ℕ) (en : next ≡ o + long) where
      -- what is lent for them
      pub wording-lent : length (take (next - o) (drop o out)) ≡ long
      wording-lent =
          let r = wording-room in
          length-take-le (next - o) (drop o out) (let x = length-drop o out in omega arith) ∙ (omega arith)

      -- what comes back; the next structure starts behind this one's array
      module _ (ys : List ℕ) (q : ys ≡ packet) (from : ℕ) (ef : from ≡ at + 14 + count) where
        abbrev later : List Packet
        later = rest_of c sys fi n s (k + 1) from

        pub wording-more : Wording c sys fi n s (take o out ++ (ys ++ drop (next - o) (drop o out))) (k + 1) from next
        wording-more =
            let r = wording-room in
            let w = was.room in
            let l : length ys ≡ next - o = ap length q ∙ is ∙ (omega arith) in
            let rest : all_words (rest_of c sys fi n s k at) ≡ ys ++ all_words later =
            ap all_words step.front ∙ ap₂ (λ (v : List ℕ) (i : ℕ). v ++ all_words (rest_of c sys fi n s (k + 1) i)) (sym q) (sym ef) in
            let both : length (all_words (rest_of c sys fi n s k at)) ≡ length (ys ++ all_words later) = ap length rest in
            let sum = length-append ys (all_words later) in
            record {
              left = subst (Left c sys fi n s (k + 1)) (sym ef) step.later;
              room = sym (part-long out ys o next (omega arith) (omega arith) l ∙ (omega arith));
              written =
                  part-more out ys o next (omega arith) (omega arith) l (all_words later)
                  ∙ ap (λ (v : List ℕ). take o out ++ v) (sym rest)
                  ∙ was.written;
            }

-- a turn
module _ (c : Coding) (sys : ℕ) (fi : Bool) (n : ℕ) (s out : List ℕ) (k at o : ℕ) (was : Wording c sys fi n s out k at o) (h : k < n) where
  turned : Turn c sys fi n s k at
  turned = turn c sys fi n s k at was.left h

  turned-whole : Whole c (drop at s)
  turned-whole =
      let a : array_for c (two_in (drop at s) 4) ≡ array_for c (two_in s (at + 4)) = ap (array_for c) (two-drop at 4 s) in
      let b = four-drop at 6 s in
      let l = length-drop at s in
      let x = turned.inside in
      let y = turned.enough in
      record { there = omega arith; room = omega arith; dc = turned.dc ∙ sym (two-drop at 4 s) }

  turned-long : length (words (packet_in c sys fi (drop at s))) ≡ two_in s (at + 4) + beside c
  turned-long =
      packet-words (packet_in c sys fi (drop at s))
      ∙ packet-long c sys fi (drop at s) turned-whole
      ∙ ap (λ (m : ℕ). m + beside c) (two-drop at 4 s)

  pub words-room : o + (two_in s (at + 4) + beside c) ≤ length out
  words-room = wording-room c sys fi n s out k at o was h (two_in s (at + 4) + beside c) turned-long

  module _ (samples next : ℕ) (es : samples ≡ two_in s (at + 4)) (en : next ≡ o + (samples + beside c)) where
    next-is : next ≡ o + (two_in s (at + 4) + beside c)
    next-is = en ∙ ap (λ (m : ℕ). o + (m + beside c)) es

    pub words-lent-long : length (take (next - o) (drop o out)) ≡ samples + beside c
    words-lent-long =
        wording-lent c sys fi n s out k at o was h (two_in s (at + 4) + beside c) turned-long next next-is
        ∙ ap (λ (m : ℕ). m + beside c) (sym es)

    pub words-more : (from cr : ℕ) (ys : List ℕ) → from ≡ at + 14 → cr ≡ four_in s (at + 6)
        → ys ≡ words_by c samples (take (length s - from) (drop from s))
        → Wording c sys fi n s (take o out ++ (ys ++ drop (next - o) (drop o out))) (k + 1) (from + cr) next
    words-more from cr ys ef ec q =
        let a : take (length s - from) (drop from s) ≡ drop 14 (drop at s) =
        rest_part from s ∙ ap (λ (i : ℕ). drop i s) ef ∙ sym (drop-drop 14 at s) in
        let p : ys ≡ words (packet_in c sys fi (drop at s)) =
        q
        ∙ ap₂ (λ (m : ℕ) (t : List ℕ). words_by c m t) (es ∙ sym (two-drop at 4 s)) a
        ∙ sym (words-shown c sys fi (drop at s) turned-whole) in
        wording-more c sys fi n s out k at o was h (two_in s (at + 4) + beside c) turned-long next next-is ys p (from + cr)
        (ap₂ (λ (x y : ℕ). x + y) ef ec)

-- ---- the sections

module _ (c : Coding) (sys : ℕ) (fi : Bool) (packets : ℕ) (s out : List ℕ) (m : Sized c sys fi packets s out) where
  abbrev ps : List Packet
  ps = packets_of_structures c sys fi packets s

  abbrev mid : ℕ
  mid = 3 + 2 * packets

  count-is : packets ≡ length ps
  count-is = sym (structures-count c sys fi packets 22 s ps m.judged)

  pub sections-room : length out ≡ 4 + 2 * packets + length (all_words ps)
  sections-room =
      let a = m.room in
      let b = sheet-length sys ps in
      let c = words-count ps in
      let d = count-is in
      omega arith

  module _ (ls : List ℕ) (hl : ls ≡ locations ps) where
    abbrev before : List ℕ
    before = back_of (three_of out 1 sys packets) ls mid

    -- W, as what is left of `out` says it
    abbrev w : ℕ
    w = length before - mid - 1

    abbrev counted : List ℕ
    counted = set before mid w

    pub before-long : length before ≡ length out
    before-long = sheet-before sys packets (length (all_words ps)) ps out ls count-is refl sections-room hl

    w-is : w ≡ length (all_words ps)
    w-is = let a = before-long in let b = sections-room in omega arith

    room-is : length out ≡ 4 + 2 * packets + w
    room-is = let a = before-long in let b = sections-room in omega arith

    -- what is lent for the words
    pub words-lent : length (take (length counted - (mid + 1)) (drop (mid + 1) counted)) ≡ length (all_words ps)
    words-lent =
        let a = before-long in
        let b = sections-room in
        let n = length-set before mid w in
        let d = length-drop (mid + 1) counted in
        length-take-le (length counted - (mid + 1)) (drop (mid + 1) counted) (omega arith) ∙ (omega arith)

    module _ (ws : List ℕ) (hw : ws ≡ all_words ps) where
      abbrev all : List ℕ
      all = take (mid + 1) counted ++ (ws ++ drop (length counted - (mid + 1)) (drop (mid + 1) counted))

      pub sections-written : all ≡ sheet_of sys ps
      sections-written = sheet-filled sys packets w ps out ls count-is w-is room-is hl ws hw

-- ---- the answer

module _ (c : Coding) (sys : ℕ) (fi : Bool) (e sheet : List ℕ) (j : ElementRead) (h : j ≡ read_of sys (judged_as c sys fi e)) where
  -- 19 is given back as it is
  pub refused-before : (j.number ≡ 0 → ⊥) → Answers sys sheet (and_then (judged_as c sys fi e) (packet_tests sys (length sheet))) j sheet
  refused-before n = go (judged_as c sys fi e) h
    where
      go : (o : Outcome) → j ≡ read_of sys o → Answers sys sheet (and_then o (packet_tests sys (length sheet))) j sheet
      go (listed qs) q = absurd (n (ap (λ (r : ElementRead). r.number) q))
      go (refused m i) q = record { answer = q; buffer = refl }

  module _ (z : j.number ≡ 0) where
    abbrev found : List Packet
    found = list_in (judged_as c sys fi e)

    found-is : judged_as c sys fi e ≡ listed found
    found-is = go (judged_as c sys fi e) refl
      where
        go : (o : Outcome) → judged_as c sys fi e ≡ o → o ≡ listed (list_in o)
        go (listed qs) q = refl
        go (refused m i) q =
            let a : j.number ≡ m = ap (λ (r : ElementRead). r.number) (h ∙ ap (read_of sys) q) in
            let b = judged-number c sys fi e m i q in
            absurd (omega arith)

    -- key, length and N are there
    pub head-there : 22 ≤ length e
    head-there = (judged-listed c sys fi e found found-is).head.counted

    answer-is : j ≡ read_of sys (listed found)
    answer-is = h ∙ ap (read_of sys) found-is

    pub packets-are : j.packets ≡ length found
    packets-are = ap (λ (r : ElementRead). r.packets) answer-is

    pub numbers-are : j.numbers ≡ 4 + 2 * length found + length (all_words found)
    numbers-are =
        ap (λ (r : ElementRead). r.numbers) answer-is
        ∙ (let a = sheet-length sys found in let b = words-count found in omega arith)

    numbers-sheet : length (sheet_of sys found) ≡ j.numbers
    numbers-sheet = sym (ap (λ (r : ElementRead). r.numbers) answer-is)

    -- the structures, lent
    abbrev structs : List ℕ
    structs = take (length e - 22) (drop 22 e)

    structs-judged : structures c sys fi j.packets 22 structs ≡ listed found
    structs-judged =
        let d = (judged-listed c sys fi e found found-is).later in
        let m : j.packets ≡ two_in e 20 = packets-are ∙ structures-count c sys fi (two_in e 20) 22 (drop 22 e) found d in
        let l = length-drop 22 e in
        ap (structures c sys fi j.packets 22) (take_all (length e - 22) (drop 22 e) (omega arith))
        ∙ ap (λ (k : ℕ). structures c sys fi k 22 (drop 22 e)) m
        ∙ d

    pub structs-are : Judged c sys fi j.packets structs
    structs-are = structs-judged ∙ ap listed (sym (ap list_in structs-judged))

    -- how many packets in front of the first whose line is not allowed, by the structures that are lent
    module _ (k : ℕ) (a : k ≡ allowed_of (system sys) (packets_of_structures c sys fi j.packets structs)) where
      in-front : k ≡ allowed_of (system sys) found
      in-front = a ∙ ap (λ (o : Outcome). allowed_of (system sys) (list_in o)) structs-judged

      lines_are : packet_tests sys (length sheet) found ≡ cond (eqb k j.packets) (last_tests sys (length sheet) found) (refused 20 k)
      lines_are =
          count_at 20 (location_allowed (system sys)) 0 j.packets (locations found) _
          (locations-length found ∙ ap (λ (m : ℕ). 2 * m) (sym packets-are))
          ∙ rw (zero-add (allowed_of (system sys) found), ← in-front)

      -- 20
      pub not-allowed : (k ≡ j.packets → ⊥) → (r : ElementRead) → r ≡ read_of 0 (refused 20 k)
          → Answers sys sheet (and_then (judged_as c sys fi e) (packet_tests sys (length sheet))) r sheet
      not-allowed n r q =
          let p : refused 20 k ≡ and_then (judged_as c sys fi e) (packet_tests sys (length sheet)) =
          sym (ap (λ (o : Outcome). and_then o (packet_tests sys (length sheet))) found-is ∙ lines_are ∙ rw (ne_eqb k j.packets n)) in
          record { answer = q ∙ ap (read_of sys) p; buffer = ap (buffer_of sys sheet) p }

      -- every line is allowed
      pub all-allowed : k ≡ j.packets → (r : ElementRead) (after : List ℕ)
          → Answers sys sheet (and_then (judged_as c sys fi e) (last_tests sys (length sheet))) r after
          → Answers sys sheet (and_then (judged_as c sys fi e) (packet_tests sys (length sheet))) r after
      all-allowed n r after w =
          let p : and_then (judged_as c sys fi e) (last_tests sys (length sheet))
          ≡ and_then (judged_as c sys fi e) (packet_tests sys (length sheet)) =
          ap (λ (o : Outcome). and_then o (last_tests sys (length sheet))) found-is
          ∙ sym (ap (λ (o : Outcome). and_then o (packet_tests sys (length sheet))) found-is ∙ lines_are ∙ rw (eq-eqb k j.packets n)) in
          subst (λ (o : Outcome). Answers sys sheet o r after) p w

    tests-are : and_then (judged_as c sys fi e) (last_tests sys (length sheet)) ≡ last_tests sys (length sheet) found
    tests-are = ap (λ (o : Outcome). and_then o (last_tests sys (length sheet))) found-is

    given : (o : Outcome) → last_tests sys (length sheet) found ≡ o → (r : ElementRead) (after : List ℕ) → r ≡ read_of sys o
        → after ≡ buffer_of sys sheet o → Answers sys sheet (and_then (judged_as c sys fi e) (last_tests sys (length sheet))) r after
    given o q r after a b =
        let p = sym (tests-are ∙ q) in
        record { answer = a ∙ ap (read_of sys) p; buffer = b ∙ ap (buffer_of sys sheet) p }

    -- 5
    pub too_many : limit < j.packets → (r : ElementRead) → r ≡ read_of 0 (refused 5 limit)
        → Answers sys sheet (and_then (judged_as c sys fi e) (last_tests sys (length sheet))) r sheet
    too_many m r q =
        let a = packets-are in
        given (refused 5 limit) (rw (lt-leb (length found) limit (omega arith))) r sheet q refl

    module _ (few : j.packets ≤ limit) where
      few-found : leb (length found) limit ≡ true
      few-found = let a = packets-are in le-leb (length found) limit (omega arith)

      -- 17
      pub no_room : (65535 < j.numbers - 4 - 2 * j.packets) ⊎ (length sheet < j.numbers) → (r : ElementRead)
          → r ≡ read_of 0 (refused 17 0) → Answers sys sheet (and_then (judged_as c sys fi e) (last_tests sys (length sheet))) r sheet
      no_room m r q = given (refused 17 0) (rw few-found (ap (λ (b : Bool). unless 17 b (listed found)) (full m))) r sheet q refl
        where
          full : (65535 < j.numbers - 4 - 2 * j.packets) ⊎ (length sheet < j.numbers) → has_room sys (length sheet) found ≡ false
          full (inl k) =
              let a = packets-are in
              let b = numbers-are in
              rw (lt-leb (length (all_words found)) 65535 (omega arith))
          full (inr k) =
              let b = numbers-sheet in
              second-false (leb (length (all_words found)) 65535) _ (lt-leb (length (sheet_of sys found)) (length sheet) (omega arith))

      module _ (short : j.numbers - 4 - 2 * j.packets ≤ 65535) (long : j.numbers ≤ length sheet) where
        pub sized : (out : List ℕ) → sys ≤ 3 → length out ≡ j.numbers → Sized c sys fi j.packets structs out
        sized out k l =
            let a = packets-are in
            let b = numbers-are in
            let g : packets_of_structures c sys fi j.packets structs ≡ found = ap list_in structs-judged in
            let n : length (all_words found) < 65536 = omega arith in
            record {
              known = k;
              judged = structs-are;
              few = few;
              short = subst (λ (r : List Packet). length (all_words r) < 65536) (sym g) n;
              room = l ∙ sym (ap (λ (r : List Packet). length (sheet_of sys r)) g ∙ numbers-sheet);
            }

        pub all_read : (ys : List ℕ) → ys ≡ sheet_of sys (packets_of_structures c sys fi j.packets structs)
            → Answers sys sheet (and_then (judged_as c sys fi e) (last_tests sys (length sheet))) j (ys ++ drop j.numbers sheet)
        all_read ys q =
            let a = packets-are in
            let b = numbers-are in
            let s = numbers-sheet in
            let g : packets_of_structures c sys fi j.packets structs ≡ found = ap list_in structs-judged in
            let room : has_room sys (length sheet) found ≡ true =
            rw (le-leb (length (all_words found)) 65535 (omega arith), le-leb (length (sheet_of sys found)) (length sheet) (omega arith)) in
            given (listed found) (rw few-found (ap (λ (b : Bool). unless 17 b (listed found)) room)) j (ys ++ drop j.numbers sheet) answer-is
            (ap₂ (λ (x : List ℕ) (m : ℕ). x ++ drop m sheet) (q ∙ ap (sheet_of sys) g) (sym s))

-- ---- the first test, and the answer as the definitions have it

module _ (sys : ℕ) (o : Outcome) (sheet : List ℕ) (r : ElementRead) (after : List ℕ) where
  -- 3
  pub unknown-system : known sys ≡ false → r ≡ read_of 0 (refused 3 0) → after ≡ sheet → Answers sys sheet (reading_of sys o (length sheet)) r after
  unknown-system k q b = rw k (record { answer = q; buffer = b })

  pub known-system : known sys ≡ true → Answers sys sheet (and_then o (packet_tests sys (length sheet))) r after
      → Answers sys sheet (reading_of sys o (length sheet)) r after
  known-system k a = rw k a

-- the contract, over an element of bytes
pub answered : (sys : ℕ) (fi : Bool) (e sheet : List ℕ) (r : ElementRead) (after : List ℕ) → Bytes e
    → Answers sys sheet (reading_of sys (judged sys fi e) (length sheet)) r after → Reads sys fi e sheet r after
unfolding reading read sheet_after
answered sys fi e sheet r after b a = reads sys fi e sheet r after b a.answer a.buffer

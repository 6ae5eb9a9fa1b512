-- Writing an element, whatever its samples: the laws that every call rests on that writes one, each way through its code at a time. What such a
-- call has of its own is its `Writer`.
--
-- In order: sizes; the packets that are left; the words that are lent; parts of a buffer; which packets are served; the bytes of structures; the
-- measure; the structures; the element; 18 and 17; the tests of a sheet; what is written.
-- Assumes nothing.
use Prim.Native.Nat.{ℕ, suc, ◌+◌, ◌-◌, ◌*◌, ◌≤◌, ◌<◌}
use mathlib.Core.Path.{◌≡◌, refl, sym, ap, ap₂, ◌∙◌, subst}
use mathlib.Core.Bool.{Bool, true, false, cond, ◌&&◌}
use mathlib.Core.List.{List, [], ◌∷◌, ◌++◌, map, append_assoc, append-nil}
use native.Mathlib.Omega.{arith}
use native.Mathlib.Numerals.{add-one}
use lib.Dec.{eqb, leb}
use lib.ListN.{length, get_or, take, drop, length-append, length-drop, length-map, drop_of_length-le}
use lib.Seq.{sets, take_at, take_all, drop-drop, length-take-le}
use Rattle.std.proofs.lemmas.List.{take-append-le}
use borrow.Author.Tests.{le-leb, lt-leb, leb-true, eq-eqb, ne_eqb, eqb-false}
use Rattle.rules.specs.Base.{joined, All, none, one}
use Rattle.rules.specs.Systems.{System, system}
use Rattle.rules.specs.Packet.{Packet, words, coded, check_of}
use Rattle.rules.specs.Danc.{bytes_of}
use Rattle.rules.specs.Sheet.{limit, all_words, system_in, locations_in, words_in}
use Rattle.rules.specs.Numbers.{Outcome, listed, refused, unless, and_then}
use Rattle.rules.specs.Laying.{low}
use Rattle.std.specs.Prelude.{Ok, Err}
use Rattle.rules.specs.Refusals.{number, Told, tell, told}
use Rattle.rules.specs.declared.Refused.{Refused}
use Rattle.rules.specs.declared.Refusal.{Refusal}
use Rattle.rules.specs.declared.Refusal.TheVariants.{
  Packing,
  Shape,
  System as SystemRefused,
  AreaLength,
  PacketLimit,
  Location,
  Flag,
  Word,
  CutOff,
  Checksum,
  PacketCount,
  Room,
  Packs,
  Length,
  StoredChecksum,
  Line,
  Buffer,
  NoLine,
  Element,
  PictureLine,
  EightBits,
}
use Rattle.rules.proofs.Basics.{never, sets-front, rest_part}
use Rattle.rules.proofs.Words.{coded-length}
use Rattle.rules.proofs.Sheets.{system-back}
use Rattle.sheet.proofs.Filling.{part-kept, part-front}
use Rattle.sections.proofs.Laws.{LeftBy, NextBy, next-of-by, next-inside-by}
use Rattle.mxf.specs.Element.{two, three, key, wrapping, Coding, eight, ten}
use Rattle.mxf.specs.Judging.{others, array_for}
use Rattle.mxf.specs.Served.{serves, served}
use Rattle.mxf.specs.Writing.{lined, export, with_room_for, written_by, written_with, laid_by}
use Rattle.mxf.specs.Writer.{source_by, structure_of, size_by, Writer, told_written, tested_by, writing_by, write_by, after_by, Answered}
use Rattle.mxf.specs.Demands.{Lined, Unwritten}
use Rattle.mxf.specs.declared.ElementWritten.{ElementWritten}
use Rattle.mxf.proofs.Exporting.{served-sound, served-few}

-- ---- sizes

-- a packet has 348 bytes of samples at most
pub array-few : (c : Coding) (n : ℕ) → n ≤ 259 → array_for c n ≤ 348
array-few eight n h = omega arith
array-few ten n h = omega arith

slight : (c : Coding) (dc : ℕ) → size_by c dc ≤ 22 + 3 * dc
slight eight dc = omega arith
slight ten dc = omega arith

pub others-few : (c : Coding) → (3 ≤ others c) × (others c ≤ 4)
others-few eight = (omega arith, omega arith)
others-few ten = (omega arith, omega arith)

-- ---- the packets that are left

all-left : (w : Writer) (y : System) (ps : List Packet) (ls ws : List ℕ) → w.Of y ps ls ws → LeftBy (w.Fine y) ls ws 0 0 ps
all-left w y ps ls ws h = record { each = w.each y ps ls ws h; pairs = w.section_b y ps ls ws h; there = w.section_c y ps ls ws h }

-- where there is no further pair
left-none-pair : (P : Packet → Type 0) (ls ws : List ℕ) (k at : ℕ) (left : List Packet) → LeftBy P ls ws k at left → length ls < k + 2 → left ≡ []
left-none-pair P ls ws k at [] l h = refl
left-none-pair P ls ws k at (p ∷ qs) l h = absurd (let d = length-drop k ls in let m = ap length l.pairs in omega arith)

-- ---- the words that are lent

source_by-length : (c : Coding) (p : Packet) → length (source_by c p) ≡ length p.user + others c
unfolding words
source_by-length c p =
    let k = others-few c in
    let l = coded-length p in
    let m = length-append (coded p) (check_of p ∷ []) in
    length-take-le (length p.user + others c) (coded p ++ check_of p ∷ []) (omega arith)

-- for the next packet, and what its structure is
module _ (w : Writer) {y : System} {ls ws : List ℕ} {k at : ℕ} {left : List Packet} (n : NextBy (w.Fine y) ls ws k at left) {dc from end : ℕ}
    (size : dc ≡ low (get_or ws (at + 5) 0)) (ef : from ≡ at + 3) (ee : end ≡ from + (dc + others w.coding)) where
  source-next : take (end - from) (drop from ws) ≡ source_by w.coding n.packet
  unfolding words
  source-next =
      let p : Packet = n.packet in
      let d : dc ≡ length p.user = size ∙ n.dc in
      let m : end - from ≡ length p.user + others w.coding = omega arith in
      let k = others-few w.coding in
      let l = coded-length p in
      let a = length-append (coded p) (check_of p ∷ []) in
      ap₂ (λ (m i : ℕ). take m (drop i ws)) m ef
      ∙ ap (take (length p.user + others w.coding)) (sym (drop-drop 3 at ws) ∙ ap (drop 3) n.there)
      ∙ take-append-le (length p.user + others w.coding) (coded p ++ check_of p ∷ []) (all_words n.rest) (omega arith)

  pub lent-fits : w.fits (take (end - from) (drop from ws))
  lent-fits = rw source-next (w.fitting y n.packet n.fine)

  pub lent-few : length (take (end - from) (drop from ws)) ≤ 259
  lent-few =
      let l = ap length source-next ∙ source_by-length w.coding n.packet in
      let k = others-few w.coding in
      let m = w.many y n.packet n.fine in
      omega arith

  pub lent-array : length (w.array (take (end - from) (drop from ws))) ≡ array_for w.coding (dc + others w.coding)
  lent-array =
      let d : dc ≡ length n.packet.user = size ∙ n.dc in
      w.array_long (take (end - from) (drop from ws))
      ∙ ap (array_for w.coding) (ap length source-next ∙ source_by-length w.coding n.packet ∙ ap (λ (m : ℕ). m + others w.coding) (sym d))

  pub structure-next : (sys : ℕ) {wr : ℕ} {ys : List ℕ} → wr ≡ wrapping sys
      → ys ≡ structure_of w.coding w.array (get_or ls k 0) wr (get_or ls (k + 1) 0) (take (end - from) (drop from ws))
      → ys ≡ w.bytes sys (w.item n.packet)
  structure-next sys ew ey = ey ∙ rw (ew, n.line, n.flags, source-next) (w.laid_as sys y n.packet n.fine)

-- ---- parts of a buffer

pub lent-long : (n : ℕ) (s t : List ℕ) → length s ≡ n + length t → length (take (length s - n) (drop n s)) ≡ length t
lent-long n s t e = ap length (rest_part n s) ∙ length-drop n s ∙ (let m : length s - n ≡ length t = omega arith in m)

-- what was lent comes back behind bytes that are stored from the front
pub behind-front : (front s ys out o : List ℕ) (n : ℕ) → length front ≡ n → n ≤ length out → o ≡ sets out 0 front → ys ≡ s
    → take n o ++ (ys ++ drop (length o - n) (drop n o)) ≡ front ++ s
behind-front front s ys out o n l h e es =
    let k : length (drop n o) ≤ length o - n = let d = length-drop n o in omega arith in
    let z : n ≡ 0 + length front = omega arith in
    let f : take n o ≡ front = ap₂ (λ (m : ℕ) (t : List ℕ). take m t) z e ∙ sets-front out 0 front (omega arith) in
    ap₂ (λ (a b : List ℕ). a ++ (ys ++ b)) f (drop_of_length-le (drop n o) k)
    ∙ ap (λ (t : List ℕ). front ++ t) (append-nil ys ∙ es)

-- ---- which packets are served

module _ (sys : ℕ) (fi : Bool) (p : Packet) (ps : List Packet) where
  served-taken : serves sys fi p.flags ≡ true → served sys fi (p ∷ ps) ≡ p ∷ served sys fi ps
  served-taken e = rw e

  served-left : serves sys fi p.flags ≡ false → served sys fi (p ∷ ps) ≡ served sys fi ps
  served-left e = rw e

  lined-taken : (i : ℕ) (o : Outcome) → (p.line ≡ 0 → ⊥) → lined sys fi i (p ∷ ps) o ≡ lined sys fi (i + 1) ps o
  lined-taken i o n = rw (ne_eqb p.line 0 n, add-one i) (go (serves sys fi p.flags))
    where
      go : (b : Bool) → cond (b && false) (refused 18 i) (lined sys fi (suc i) ps o) ≡ lined sys fi (suc i) ps o
      go true = refl
      go false = refl

  lined-left : (i : ℕ) (o : Outcome) → serves sys fi p.flags ≡ false → lined sys fi i (p ∷ ps) o ≡ lined sys fi (i + 1) ps o
  lined-left i o e = rw (e, add-one i)

  lined-none : (i : ℕ) (o : Outcome) → serves sys fi p.flags ≡ true → p.line ≡ 0 → lined sys fi i (p ∷ ps) o ≡ refused 18 i
  lined-none i o e z = rw (e, eq-eqb p.line 0 z)

module _ (sys : ℕ) (fi : Bool) where
  -- with a line each, none is refused
  lined-read : (ps : List Packet) (i : ℕ) (o : Outcome) → All Lined (served sys fi ps) → lined sys fi i ps o ≡ o
  lined-read [] i o g = refl
  lined-read (p ∷ ps) i o g = go (serves sys fi p.flags) g (lined-read ps (suc i) o)
    where
      go : (t : Bool) → All Lined (cond t (p ∷ served sys fi ps) (served sys fi ps))
          → (All Lined (served sys fi ps) → lined sys fi (suc i) ps o ≡ o)
          → cond (t && eqb p.line 0) (refused 18 i) (lined sys fi (suc i) ps o) ≡ o
      go true (one l ls) later = rw (ne_eqb p.line 0 l) (later ls)
      go false ls later = later ls

  -- what is not refused has a line each
  lined-only : (ps : List Packet) (i : ℕ) (o : Outcome) (qs : List Packet) → lined sys fi i ps o ≡ listed qs
      → All Lined (served sys fi ps) × (o ≡ listed qs)
  lined-only [] i o qs e = (none, e)
  lined-only (p ∷ ps) i o qs e = go (serves sys fi p.flags) (eqb p.line 0) refl e (lined-only ps (suc i) o qs)
    where
      go : (t z : Bool) → eqb p.line 0 ≡ z → cond (t && z) (refused 18 i) (lined sys fi (suc i) ps o) ≡ listed qs
          → (lined sys fi (suc i) ps o ≡ listed qs → All Lined (served sys fi ps) × (o ≡ listed qs))
          → All Lined (cond t (p ∷ served sys fi ps) (served sys fi ps)) × (o ≡ listed qs)
      go true true z e later = never (cc)
      go true false z e later = let w = later e in (one (eqb-false p.line 0 z) w.0, w.1)
      go false z q e later = later e

  lined-refused : (ps : List Packet) (i : ℕ) (o : Outcome) (n k : ℕ) → lined sys fi i ps o ≡ refused n k → (o ≡ refused n k → 1 ≤ n) → 1 ≤ n
  lined-refused [] i o n k e f = f e
  lined-refused (p ∷ ps) i o n k e f = go (serves sys fi p.flags && eqb p.line 0) e (λ z. lined-refused ps (suc i) o n k z f)
    where
      go : (t : Bool) → cond t (refused 18 i) (lined sys fi (suc i) ps o) ≡ refused n k → (lined sys fi (suc i) ps o ≡ refused n k → 1 ≤ n) → 1 ≤ n
      go true e later = let m : n ≡ 18 = cc in omega arith
      go false e later = later e

-- ---- the bytes of structures

abbrev pub structures_by : Writer → ℕ → List Packet → List ℕ
structures_by w sys ps = joined (w.bytes sys) (map w.item ps)

module _ (w : Writer) (sys : ℕ) where
  structures-length : (p : Packet) (ps : List Packet)
      → length (structures_by w sys (p ∷ ps)) ≡ size_by w.coding (length p.user) + length (structures_by w sys ps)
  structures-length p ps =
      let a = length-append (w.bytes sys (w.item p)) (structures_by w sys ps) in
      let b = w.sized sys p in
      omega arith

  element-length : (ps : List Packet) → length (w.make sys ps) ≡ 22 + length (structures_by w sys ps)
  unfolding key
  element-length ps = let e = ap length (w.made sys ps) in omega arith

  -- a packet has 787 bytes of structure at most
  structures-short : (y : System) (ps : List Packet) → All (w.Fine y) ps → length (structures_by w sys ps) ≤ 787 * length ps
  structures-short y [] g = omega arith
  structures-short y (p ∷ ps) (one g gs) =
      let h = structures-short y ps gs in
      let k = structures-length p ps in
      let m = w.many y p g in
      let l = slight w.coding (length p.user) in
      omega arith

-- ---- the measure

-- once the packets that are left are measured with those that are, all are measured
record MeasureLeft (w : Writer) (sys : ℕ) (fi : Bool) (y : System) (ps : List Packet) (ls ws : List ℕ) (k at packets bytes : ℕ) : Type 0 where
  left : List Packet
  is : LeftBy (w.Fine y) ls ws (2 * k) at left
  lines : (o : Outcome) → lined sys fi 0 ps o ≡ lined sys fi k left o
  count : packets + length (served sys fi left) ≡ length (served sys fi ps)
  size : bytes + length (structures_by w sys (served sys fi left)) ≡ 22 + length (structures_by w sys (served sys fi ps))

pub record Measuring (w : Writer) (sys : ℕ) (fi : Bool) (ls ws : List ℕ) (k at packets bytes : ℕ) : Type 0 where
  of : (y : System) (ps : List Packet) → w.Of y ps ls ws → MeasureLeft w sys fi y ps ls ws k at packets bytes
  pub few : packets ≤ k
  pub short : bytes ≤ 22 + 3 * at + k

pub measure-begin : {w : Writer} {sys : ℕ} {fi : Bool} {ls ws : List ℕ} → Measuring w sys fi ls ws 0 0 0 22
measure-begin {w} {sys} {fi} {ls} {ws} = record {
  of = λ y ps h. record { left = ps; is = all-left w y ps ls ws h; lines = λ o. refl; count = omega arith; size = refl };
  few = omega arith;
  short = omega arith;
}

module _ {w : Writer} {sys : ℕ} {fi : Bool} {ls ws : List ℕ} {k at packets bytes : ℕ} (so : Measuring w sys fi ls ws k at packets bytes) where
  abbrev Answer : ElementWritten → Type 0
  Answer r = (y : System) (ps : List Packet) → w.Of y ps ls ws → r ≡ written_by (w.make sys) (export sys fi ps)

  -- all are measured
  pub measure-done : length ls < 2 * k + 2 → Answer (record { number = 0; place = 0; word = 0; packets = packets; bytes = bytes })
  measure-done end y ps h = go (so.of y ps h)
    where
      go : MeasureLeft w sys fi y ps ls ws k at packets bytes
          → record { number = 0; place = 0; word = 0; packets = packets; bytes = bytes } ≡ written_by (w.make sys) (export sys fi ps)
      go f =
          let n : f.left ≡ [] = left-none-pair (w.Fine y) ls ws (2 * k) at f.left f.is (omega arith) in
          let e : export sys fi ps ≡ listed (served sys fi ps) =
          f.lines (listed (served sys fi ps)) ∙ ap (λ (t : List Packet). lined sys fi k t (listed (served sys fi ps))) n in
          let c : packets ≡ length (served sys fi ps) =
          let a = f.count in let b : length (served sys fi f.left) ≡ 0 = ap (λ (t : List Packet). length (served sys fi t)) n in omega arith in
          let d : bytes ≡ length (w.make sys (served sys fi ps)) =
          let a = f.size in
          let b : length (structures_by w sys (served sys fi f.left)) ≡ 0 =
          ap (λ (t : List Packet). length (structures_by w sys (served sys fi t))) n in
          let l = element-length w sys (served sys fi ps) in
          omega arith in
          ap₂ (λ (m n : ℕ). record { number = 0; place = 0; word = 0; packets = m; bytes = n }) c d ∙ ap (written_by (w.make sys)) (sym e)

  module _ (more : 2 * k < length ls) where
    measure-next : (y : System) (ps : List Packet) (h : w.Of y ps ls ws) → NextBy (w.Fine y) ls ws (2 * k) at (so.of y ps h).left
    measure-next y ps h = let f = so.of y ps h in next-of-by (w.Fine y) ls ws (w.many y) (2 * k) at f.left f.is more

    -- the next packet stands in the sections
    pub measure-inside : (y : System) (ps : List Packet) → w.Of y ps ls ws
        → (at + (low (get_or ws (at + 5) 0) + 7) ≤ length ws) × (2 * k + 2 ≤ length ls)
    measure-inside y ps h = next-inside-by (w.Fine y) ls ws (2 * k) at _ (measure-next y ps h)

    module _ {dc : ℕ} {b : Bool} (size : dc ≡ low (get_or ws (at + 5) 0)) (is : b ≡ serves sys fi (get_or ls (2 * k + 1) 0)) where
      -- one that is served without a line
      pub measure-unlined : {r : ElementWritten} → b ≡ true → get_or ls (2 * k) 0 ≡ 0 → r ≡ written_by (w.make 0) (refused 18 k) → Answer r
      measure-unlined {r} t z e y ps h = go (so.of y ps h) (measure-next y ps h)
        where
          go : (f : MeasureLeft w sys fi y ps ls ws k at packets bytes) → NextBy (w.Fine y) ls ws (2 * k) at f.left
              → r ≡ written_by (w.make sys) (export sys fi ps)
          go f n =
              let o : Outcome = listed (served sys fi ps) in
              let s : serves sys fi n.packet.flags ≡ true = ap (serves sys fi) (sym n.flags) ∙ sym is ∙ t in
              let x : export sys fi ps ≡ refused 18 k =
              f.lines o ∙ ap (λ (qs : List Packet). lined sys fi k qs o) n.is
              ∙ lined-none sys fi n.packet n.rest k o s (sym n.line ∙ z) in
              e ∙ ap (written_by (w.make sys)) (sym x)

      -- one that is served, and has a line
      pub measure-taken : {packets₁ bytes₁ : ℕ} → b ≡ true → (get_or ls (2 * k) 0 ≡ 0 → ⊥) → packets₁ ≡ packets + 1
          → bytes₁ ≡ bytes + size_by w.coding dc
          → Measuring w sys fi ls ws (k + 1) (at + (dc + 7)) packets₁ bytes₁
      measure-taken {packets₁} {bytes₁} t z ep eb = record {
        of = λ y ps h. go y ps (so.of y ps h) (measure-next y ps h);
        few = let m = so.few in omega arith;
        short = let m = so.short in let l = slight w.coding dc in omega arith;
      }
        where
          go : (y : System) (ps : List Packet) (f : MeasureLeft w sys fi y ps ls ws k at packets bytes)
              → NextBy (w.Fine y) ls ws (2 * k) at f.left
              → MeasureLeft w sys fi y ps ls ws (k + 1) (at + (dc + 7)) packets₁ bytes₁
          go y ps f n =
              let p : Packet = n.packet in
              let qs : List Packet = n.rest in
              let s : serves sys fi p.flags ≡ true = ap (serves sys fi) (sym n.flags) ∙ sym is ∙ t in
              let v : served sys fi f.left ≡ p ∷ served sys fi qs = ap (served sys fi) n.is ∙ served-taken sys fi p qs s in
              let d : dc ≡ length p.user = size ∙ n.dc in
              let turn : 2 * (k + 1) ≡ 2 * k + 2 = omega arith in
              let c : length (served sys fi f.left) ≡ suc (length (served sys fi qs)) = ap length v in
              let l : length (structures_by w sys (served sys fi f.left)) ≡ size_by w.coding dc + length (structures_by w sys (served sys fi qs)) =
              ap (λ (rs : List Packet). length (structures_by w sys rs)) v
              ∙ structures-length w sys p (served sys fi qs)
              ∙ ap (λ (m : ℕ). size_by w.coding m + length (structures_by w sys (served sys fi qs))) (sym d) in
              record {
                left = qs;
                is = rw (turn, d) n.after;
                lines = λ o.
                    f.lines o
                    ∙ ap (λ (rs : List Packet). lined sys fi k rs o) n.is
                    ∙ lined-taken sys fi p qs k o (λ e. z (n.line ∙ e));
                count = let a = f.count in omega arith;
                size = let a = f.size in omega arith;
              }

      -- one that is passed over
      pub measure-left : {packets₁ bytes₁ : ℕ} → b ≡ false → packets₁ ≡ packets → bytes₁ ≡ bytes
          → Measuring w sys fi ls ws (k + 1) (at + (dc + 7)) packets₁ bytes₁
      measure-left {packets₁} {bytes₁} t ep eb = record {
        of = λ y ps h. go y ps (so.of y ps h) (measure-next y ps h);
        few = let m = so.few in omega arith;
        short = let m = so.short in omega arith;
      }
        where
          go : (y : System) (ps : List Packet) (f : MeasureLeft w sys fi y ps ls ws k at packets bytes)
              → NextBy (w.Fine y) ls ws (2 * k) at f.left
              → MeasureLeft w sys fi y ps ls ws (k + 1) (at + (dc + 7)) packets₁ bytes₁
          go y ps f n =
              let p : Packet = n.packet in
              let qs : List Packet = n.rest in
              let s : serves sys fi p.flags ≡ false = ap (serves sys fi) (sym n.flags) ∙ sym is ∙ t in
              let v : served sys fi f.left ≡ served sys fi qs = ap (served sys fi) n.is ∙ served-left sys fi p qs s in
              let d : dc ≡ length p.user = size ∙ n.dc in
              let turn : 2 * (k + 1) ≡ 2 * k + 2 = omega arith in
              record {
                left = qs;
                is = rw (turn, d) n.after;
                lines = λ o. f.lines o ∙ ap (λ (rs : List Packet). lined sys fi k rs o) n.is ∙ lined-left sys fi p qs k o s;
                count = ap₂ (λ (m : ℕ) (rs : List Packet). m + length rs) ep (sym v) ∙ f.count;
                size = ap₂ (λ (m : ℕ) (rs : List Packet). m + length (structures_by w sys rs)) eb (sym v) ∙ f.size;
              }

-- ---- the structures

-- once the structures that are left are laid behind those that are, all are laid
record StructuresLeft (w : Writer) (sys : ℕ) (fi : Bool) (y : System) (ps : List Packet) (ls ws out : List ℕ) (k at o : ℕ) : Type 0 where
  left : List Packet
  is : LeftBy (w.Fine y) ls ws (2 * k) at left
  room : o + length (structures_by w sys (served sys fi left)) ≡ length out
  laid : take o out ++ structures_by w sys (served sys fi left) ≡ structures_by w sys (served sys fi ps)

pub record Structures (w : Writer) (sys : ℕ) (fi : Bool) (ls ws out : List ℕ) (k at o : ℕ) : Type 0 where
  of : (y : System) (ps : List Packet) → w.Of y ps ls ws → StructuresLeft w sys fi y ps ls ws out k at o

-- the buffer has as many bytes as the structures
abbrev RoomFor : Writer → ℕ → Bool → List ℕ → List ℕ → List ℕ → Type 0
RoomFor w sys fi ls ws out =
    (y : System) (ps : List Packet) → w.Of y ps ls ws → length out ≡ length (structures_by w sys (served sys fi ps))

pub structures-begin : {w : Writer} {sys : ℕ} {fi : Bool} {ls ws out : List ℕ} → RoomFor w sys fi ls ws out
    → Structures w sys fi ls ws out 0 0 0
structures-begin {w} {sys} {fi} {ls} {ws} {out} room = record {
  of = λ y ps h. record { left = ps; is = all-left w y ps ls ws h; room = (let r = room y ps h in omega arith); laid = refl };
}

module _ {w : Writer} {sys : ℕ} {fi : Bool} {ls ws out : List ℕ} {k at o : ℕ} (so : Structures w sys fi ls ws out k at o) where
  -- all are laid
  pub structures-done : length ls < 2 * k + 2 → (y : System) (ps : List Packet) → w.Of y ps ls ws → out ≡ structures_by w sys (served sys fi ps)
  structures-done end y ps h = go (so.of y ps h)
    where
      go : StructuresLeft w sys fi y ps ls ws out k at o → out ≡ structures_by w sys (served sys fi ps)
      go f =
          let n : structures_by w sys (served sys fi f.left) ≡ [] =
          ap (λ (t : List Packet). structures_by w sys (served sys fi t))
          (left-none-pair (w.Fine y) ls ws (2 * k) at f.left f.is (omega arith)) in
          let l : length (structures_by w sys (served sys fi f.left)) ≡ 0 = ap length n in
          let r = f.room in
          sym (take_all o out (omega arith))
          ∙ sym (append-nil (take o out))
          ∙ ap (λ (t : List ℕ). take o out ++ t) (sym n)
          ∙ f.laid

  -- a structure came back to its place
  pub structures-kept : {next o₁ : ℕ} (ys : List ℕ) {out₁ : List ℕ} → out₁ ≡ take o out ++ (ys ++ drop (next - o) (drop o out)) → o₁ ≡ next
      → length ys ≡ length (take (next - o) (drop o out)) → length out₁ ≡ length out
  structures-kept {next} {o₁} ys eo e₁ kept = ap length eo ∙ part-kept o (next - o) out ys kept

  module _ (more : 2 * k < length ls) where
    pub structures-next : (y : System) (ps : List Packet) (h : w.Of y ps ls ws) → NextBy (w.Fine y) ls ws (2 * k) at (so.of y ps h).left
    structures-next y ps h = let f = so.of y ps h in next-of-by (w.Fine y) ls ws (w.many y) (2 * k) at f.left f.is more

    -- the next packet stands in the sections
    pub structures-inside : (y : System) (ps : List Packet) → w.Of y ps ls ws
        → (at + (low (get_or ws (at + 5) 0) + 7) ≤ length ws) × (2 * k + 2 ≤ length ls)
    structures-inside y ps h = next-inside-by (w.Fine y) ls ws (2 * k) at _ (structures-next y ps h)

    module _ {dc : ℕ} {b : Bool} (size : dc ≡ low (get_or ws (at + 5) 0)) (is : b ≡ serves sys fi (get_or ls (2 * k + 1) 0)) where
      module _ (t : b ≡ true) where
        taken_next : (y : System) (ps : List Packet) (f : StructuresLeft w sys fi y ps ls ws out k at o)
            (n : NextBy (w.Fine y) ls ws (2 * k) at f.left)
            → (served sys fi f.left ≡ n.packet ∷ served sys fi n.rest)
            × (o + size_by w.coding dc + length (structures_by w sys (served sys fi n.rest)) ≡ length out)
        taken_next y ps f n =
            let p : Packet = n.packet in
            let qs : List Packet = n.rest in
            let s : serves sys fi p.flags ≡ true = ap (serves sys fi) (sym n.flags) ∙ sym is ∙ t in
            let v : served sys fi f.left ≡ p ∷ served sys fi qs = ap (served sys fi) n.is ∙ served-taken sys fi p qs s in
            let d : dc ≡ length p.user = size ∙ n.dc in
            let l : length (structures_by w sys (served sys fi f.left)) ≡ size_by w.coding dc + length (structures_by w sys (served sys fi qs)) =
            ap (λ (rs : List Packet). length (structures_by w sys rs)) v
            ∙ structures-length w sys p (served sys fi qs)
            ∙ ap (λ (m : ℕ). size_by w.coding m + length (structures_by w sys (served sys fi qs))) (sym d) in
            let r = f.room in
            (v, omega arith)

        -- there is room for its structure
        pub structures-room : (y : System) (ps : List Packet) → w.Of y ps ls ws → o + size_by w.coding dc ≤ length out
        structures-room y ps h = let e = (taken_next y ps (so.of y ps h) (structures-next y ps h)).1 in omega arith

        -- one structure more: what was laid is that of the next packet
        pub structures-taken : {at₁ next o₁ : ℕ} {ys out₁ : List ℕ} → at₁ ≡ at + (dc + 7)
            → ((y : System) (left : List Packet) (n : NextBy (w.Fine y) ls ws (2 * k) at left) → ys ≡ w.bytes sys (w.item n.packet))
            → out₁ ≡ take o out ++ (ys ++ drop (next - o) (drop o out)) → o₁ ≡ next → next ≡ o + size_by w.coding dc
            → length ys ≡ length (take (next - o) (drop o out))
            → Structures w sys fi ls ws out₁ (k + 1) at₁ o₁
        structures-taken {at₁} {next} {o₁} {ys} {out₁} ea ey eo e₁ en kept = record {
          of = λ y ps h. go y ps (so.of y ps h) (structures-next y ps h);
        }
          where
            go : (y : System) (ps : List Packet) (f : StructuresLeft w sys fi y ps ls ws out k at o)
                → NextBy (w.Fine y) ls ws (2 * k) at f.left
                → StructuresLeft w sys fi y ps ls ws out₁ (k + 1) at₁ o₁
            go y ps f n =
                let p : Packet = n.packet in
                let qs : List Packet = n.rest in
                let v = taken_next y ps f n in
                let d : dc ≡ length p.user = size ∙ n.dc in
                let e : at₁ ≡ at + bytes_of p = omega arith in
                let turn : 2 * (k + 1) ≡ 2 * k + 2 = omega arith in
                let z : ys ≡ w.bytes sys (w.item p) = ey y f.left n in
                let l : length ys ≡ size_by w.coding dc = ap length z ∙ w.sized sys p ∙ ap (size_by w.coding) (sym d) in
                let r = v.1 in
                let q = f.room in
                let m = structures-kept ys eo e₁ kept in
                let x : take o₁ out₁ ≡ take o out ++ ys =
                ap₂ (λ (m : ℕ) (u : List ℕ). take m u) e₁ eo ∙ part-front o (next - o) next out ys (omega arith) (omega arith) in
                record {
                  left = qs;
                  is = rw (turn, e) n.after;
                  room = omega arith;
                  laid =
                      ap (λ (u : List ℕ). u ++ structures_by w sys (served sys fi qs)) x
                      ∙ append_assoc (take o out) ys (structures_by w sys (served sys fi qs))
                      ∙ ap (λ (u : List ℕ). take o out ++ (u ++ structures_by w sys (served sys fi qs))) z
                      ∙ ap (λ (rs : List Packet). take o out ++ structures_by w sys rs) (sym v.0)
                      ∙ f.laid;
                }

      -- one that is passed over
      pub structures-left : {at₁ o₁ : ℕ} {out₁ : List ℕ} → b ≡ false → at₁ ≡ at + (dc + 7) → out₁ ≡ out → o₁ ≡ o
          → Structures w sys fi ls ws out₁ (k + 1) at₁ o₁
      structures-left {at₁} {o₁} {out₁} t ea eo e₁ = record { of = λ y ps h. go y ps (so.of y ps h) (structures-next y ps h) }
        where
          go : (y : System) (ps : List Packet) (f : StructuresLeft w sys fi y ps ls ws out k at o)
              → NextBy (w.Fine y) ls ws (2 * k) at f.left
              → StructuresLeft w sys fi y ps ls ws out₁ (k + 1) at₁ o₁
          go y ps f n =
              let p : Packet = n.packet in
              let qs : List Packet = n.rest in
              let s : serves sys fi p.flags ≡ false = ap (serves sys fi) (sym n.flags) ∙ sym is ∙ t in
              let v : served sys fi f.left ≡ served sys fi qs = ap (served sys fi) n.is ∙ served-left sys fi p qs s in
              let d : dc ≡ length p.user = size ∙ n.dc in
              let e : at₁ ≡ at + bytes_of p = omega arith in
              let turn : 2 * (k + 1) ≡ 2 * k + 2 = omega arith in
              record {
                left = qs;
                is = rw (turn, e) n.after;
                room = rw (e₁, eo, ← v) f.room;
                laid = rw (e₁, eo, ← v) f.laid;
              }

-- ---- the element

module _ (w : Writer) (sys : ℕ) where
  pub element-room : (ps : List Packet) (n : ℕ) → n ≡ length (w.make sys ps) → n ≡ 22 + length (structures_by w sys ps)
  element-room ps n e = e ∙ element-length w sys ps

  pub element-put : (packets : ℕ) (ps : List Packet) (out o1 ys : List ℕ) → packets ≡ length ps → length out ≡ length (w.make sys ps)
      → ((n : ℕ) → length out ≡ 20 + n → o1 ≡ (key ++ 0x83 ∷ three n ++ two packets) ++ drop 22 out) → ys ≡ structures_by w sys ps
      → take 22 o1 ++ (ys ++ drop (length o1 - 22) (drop 22 o1)) ≡ w.make sys ps
  unfolding key
  element-put packets ps out o1 ys ep long head ey =
      let n : ℕ = length (two (length (map w.item ps)) ++ structures_by w sys ps) in
      let h : length out ≡ 20 + n = long ∙ element-length w sys ps ∙ (let e : 22 + length (structures_by w sys ps) ≡ 20 + n = omega arith in e) in
      let f : take 22 o1 ≡ key ++ 0x83 ∷ three n ++ two packets =
      ap (take 22) (head n h) ∙ take_at (key ++ 0x83 ∷ three n ++ two packets) (drop 22 out) 22 refl in
      let k : length (drop 22 o1) ≤ length o1 - 22 = let d = length-drop 22 o1 in omega arith in
      let none : drop (length o1 - 22) (drop 22 o1) ≡ [] = drop_of_length-le (drop 22 o1) k in
      let m : packets ≡ length (map w.item ps) = ep ∙ sym (length-map ps w.item) in
      ap₂ (λ (a b : List ℕ). a ++ (ys ++ b)) f none
      ∙ ap (λ (t : List ℕ). (key ++ 0x83 ∷ three n ++ two packets) ++ t) (append-nil ys ∙ ey)
      ∙ ap (λ (p : ℕ). (key ++ 0x83 ∷ three n ++ two p) ++ structures_by w sys ps) m
      ∙ sym (w.made sys ps)

-- ---- 18 and 17

-- 18 is the one refusal of an export
lined-number : (make : List Packet → List ℕ) (sys : ℕ) (fi : Bool) (i : ℕ) (ps qs : List Packet)
    → (written_by make (lined sys fi i ps (listed qs))).number ≡ 0
    → lined sys fi i ps (listed qs) ≡ listed qs
lined-number make sys fi i [] qs e = refl
lined-number make sys fi i (p ∷ ps) qs e = go (serves sys fi p.flags && eqb p.line 0) (lined-number make sys fi (suc i) ps qs) e
  where
    go : (b : Bool) {later : Outcome} → ((written_by make later).number ≡ 0 → later ≡ listed qs)
        → (written_by make (cond b (refused 18 i) later)).number ≡ 0
        → cond b (refused 18 i) later ≡ listed qs
    go true rest e = absurd (omega arith)
    go false rest e = rest e

-- what is asked of a result and a buffer
abbrev Given : (List Packet → List ℕ) → List ℕ → Outcome → ElementWritten → List ℕ → Type 0
Given make buffer o r after =
    (r ≡ written_by make (with_room_for make (length buffer) o)) × (after ≡ laid_by make buffer (with_room_for make (length buffer) o))

-- 18
refused-first : (make : List Packet → List ℕ) (buffer : List ℕ) (o : Outcome) (r : ElementWritten) → r ≡ written_by make o → (r.number ≡ 0 → ⊥)
    → Given make buffer o r buffer
refused-first make buffer (listed ps) r e n = absurd (n (ap (λ (x : ElementWritten). x.number) e))
refused-first make buffer (refused m i) r e n = (e, refl)

-- a refusal has a number
pub number-some : (r : Refusal) → number r ≡ 0 → ⊥
number-some Packing e = absurd (omega arith)
number-some Shape e = absurd (omega arith)
number-some SystemRefused e = absurd (omega arith)
number-some AreaLength e = absurd (omega arith)
number-some PacketLimit e = absurd (omega arith)
number-some Location e = absurd (omega arith)
number-some Flag e = absurd (omega arith)
number-some Word e = absurd (omega arith)
number-some CutOff e = absurd (omega arith)
number-some Checksum e = absurd (omega arith)
number-some PacketCount e = absurd (omega arith)
number-some Room e = absurd (omega arith)
number-some Packs e = absurd (omega arith)
number-some Length e = absurd (omega arith)
number-some StoredChecksum e = absurd (omega arith)
number-some Line e = absurd (omega arith)
number-some Buffer e = absurd (omega arith)
number-some NoLine e = absurd (omega arith)
number-some Element e = absurd (omega arith)
number-some PictureLine e = absurd (omega arith)
number-some EightBits e = absurd (omega arith)

-- from the sections of a sheet, and what is measured of them
module _ (w : Writer) (sys : ℕ) (fi : Bool) (s buffer : List ℕ) {ls ws : List ℕ} (b : ls ≡ locations_in s) (c : ws ≡ words_in s) (m : ElementWritten)
    (e : (y : System) (ps : List Packet) → w.Of y ps ls ws → m ≡ written_by (w.make sys) (export sys fi ps)) where
  abbrev Answers : ElementWritten → List ℕ → Type 0
  Answers r after = (ps : List Packet) → w.Sheet sys ps s → Given (w.make sys) buffer (export sys fi ps) r after

  pub not-lined : (m.number ≡ 0 → ⊥) → Answers m buffer
  not-lined n ps h = refused-first (w.make sys) buffer (export sys fi ps) m (e (system sys) ps (w.sections sys ps s ls ws b c h)) n

  module _ (z : m.number ≡ 0) where
    -- all that are served have lines
    all-lined : (y : System) (ps : List Packet) → w.Of y ps ls ws
        → (export sys fi ps ≡ listed (served sys fi ps)) × (m ≡ written_by (w.make sys) (listed (served sys fi ps)))
    all-lined y ps h =
        let n : (written_by (w.make sys) (export sys fi ps)).number ≡ 0 = ap (λ (x : ElementWritten). x.number) (sym (e y ps h)) ∙ z in
        let l : export sys fi ps ≡ listed (served sys fi ps) = lined-number (w.make sys) sys fi 0 ps (served sys fi ps) n in
        (l, e y ps h ∙ ap (written_by (w.make sys)) l)

    -- 17
    pub no_room : (r : ElementWritten) → length buffer < m.bytes → r ≡ written_by (w.make 0) (refused 17 0) → Answers r buffer
    no_room r over q ps h =
        let a = all-lined (system sys) ps (w.sections sys ps s ls ws b c h) in
        let n : m.bytes ≡ length (w.make sys (served sys fi ps)) = ap (λ (x : ElementWritten). x.bytes) a.1 in
        rw (a.0, lt-leb (length (w.make sys (served sys fi ps))) (length buffer) (omega arith)) (q, refl)

    -- the figures of the measure are the element's
    pub measured : (y : System) (ps : List Packet) → w.Of y ps ls ws
        → (m.packets ≡ length (served sys fi ps)) × (m.bytes ≡ length (w.make sys (served sys fi ps)))
    measured y ps h =
        let a = (all-lined y ps h).1 in
        (ap (λ (x : ElementWritten). x.packets) a, ap (λ (x : ElementWritten). x.bytes) a)

    -- and they are small
    pub measured-small : (ps : List Packet) → w.Sheet sys ps s → (m.packets ≤ limit) × (m.bytes < 16777216)
    unfolding limit
    measured-small ps h =
        let v = w.sections sys ps s ls ws b c h in
        let a = measured (system sys) ps v in
        let f = w.few sys ps s h in
        let k = (served-few sys fi ps).0 in
        let g = served-sound sys fi (w.Fine (system sys)) ps (w.each (system sys) ps ls ws v) in
        let l = structures-short w sys (system sys) (served sys fi ps) g in
        let r = element-length w sys (served sys fi ps) in
        (let g = a.0 in omega arith, let g = a.1 in omega arith)

    pub element-written : (ys : List ℕ) → m.bytes ≤ length buffer
        → ((y : System) (ps : List Packet) → w.Of y ps ls ws → ys ≡ w.make sys (served sys fi ps))
        → Answers m (ys ++ drop m.bytes buffer)
    element-written ys fit put ps h =
        let v = w.sections sys ps s ls ws b c h in
        let a = all-lined (system sys) ps v in
        let n = (measured (system sys) ps v).1 in
        rw (a.0, le-leb (length (w.make sys (served sys fi ps))) (length buffer) (omega arith))
        (a.1, ap₂ (λ (t : List ℕ) (n : ℕ). t ++ drop n buffer) (put (system sys) ps v) n)

-- ---- the tests of a sheet

-- where no word is named
no_word : (make : List Packet → List ℕ) (o : Outcome) (n : ℕ) → n ≡ 0 → written_by make o ≡ written_with n (written_by make o)
no_word make (listed ps) n e = ap (λ (m : ℕ). written_with m (written_by make (listed ps))) (sym e)
no_word make (refused k i) n e = ap (λ (m : ℕ). written_with m (written_by make (refused k i))) (sym e)

-- 18 and 17 name no word
export-word : (w : Writer) (sys room : ℕ) (fi : Bool) (ws : List ℕ) (i : ℕ) (ps qs : List Packet)
    → w.word ws (with_room_for (w.make sys) room (lined sys fi i ps (listed qs))) ≡ 0
export-word w sys room fi ws i [] qs = go (leb (length (w.make sys qs)) room)
  where
    go : (b : Bool) → w.word ws (unless 17 b (listed qs)) ≡ 0
    go true = w.word_none ws qs
    go false = w.word-17 ws 0
export-word w sys room fi ws i (p ∷ ps) qs =
    go (serves sys fi p.flags && eqb p.line 0) (lined sys fi (suc i) ps (listed qs)) (export-word w sys room fi ws (suc i) ps qs)
  where
    go : (b : Bool) (later : Outcome) → w.word ws (with_room_for (w.make sys) room later) ≡ 0
        → w.word ws (with_room_for (w.make sys) room (cond b (refused 18 i) later)) ≡ 0
    go true later e = w.word-18 ws i
    go false later e = e

-- what the tests have given, as their call gives it
record Named (w : Writer) (s : List ℕ) (number place word : ℕ) : Type 0 where
  passed : (ps : List Packet) → w.tests s ≡ listed ps → number ≡ 0
  named : (n i : ℕ) → w.tests s ≡ refused n i → (number ≡ n) × (place ≡ i) × (word ≡ w.word (words_in s) (refused n i))

own-system : (w : Writer) (s : List ℕ) (sys : ℕ) (ps : List Packet) → w.Sheet sys ps s → system_in s ≡ sys
own-system w s sys ps g = ap system_in (w.whole sys ps s g) ∙ system-back sys ps

module _ (w : Writer) (fi : Bool) (s buffer : List ℕ) where
  no-sheet : (number place word : ℕ) → Named w s number place word → (r : ElementWritten) → (number ≡ 0 → ⊥)
      → r ≡ written_with word (written_by (w.make 0) (refused number place)) → Answered w fi s buffer r buffer
  no-sheet number place word t r n e = go (w.tests s) refl
    where
      go : (o : Outcome) → w.tests s ≡ o
          → (r ≡ written_with (w.word (words_in s) (with_room_for (w.make (system_in s)) (length buffer) (and_then o (export (system_in s) fi))))
          (written_by (w.make (system_in s)) (with_room_for (w.make (system_in s)) (length buffer) (and_then o (export (system_in s) fi)))))
          × (buffer
          ≡ laid_by (w.make (system_in s)) buffer (with_room_for (w.make (system_in s)) (length buffer) (and_then o (export (system_in s) fi))))
      go (listed ps) q = absurd (n (t.passed ps q))
      go (refused k i) q =
          let a = t.named k i q in
          let b : r ≡ written_with word (written_by (w.make 0) (refused k i)) =
          e ∙ ap₂ (λ (m j : ℕ). written_with word (written_by (w.make 0) (refused m j))) a.0 a.1 in
          (b ∙ ap (λ (m : ℕ). written_with m (written_by (w.make 0) (refused k i))) a.2, refl)

  -- the refusal of its tests
  pub sheet-refused : (e : Refused) → Err (told e) ≡ tested_by w s (w.tests s) → Answered w fi s buffer (told_written (Err e)) buffer
  sheet-refused e h =
      no-sheet (number e.refusal) e.place e.word
      (record {
        passed = λ ps q. never (let z = h ∙ ap (tested_by w s) q in cc);
        named = λ n i q.
            let t : told e ≡ tell n i (w.word (words_in s) (refused n i)) = let z = h ∙ ap (tested_by w s) q in cc in
            (ap (λ (x : Told). x.number) t, ap (λ (x : Told). x.place) t, ap (λ (x : Told). x.word) t);
      })
      (told_written (Err e)) (number-some e.refusal) refl

  -- or the list whose sheet it is
  pub sheet-listed : (sys : ℕ) → Ok sys ≡ tested_by w s (w.tests s) → (ps : List Packet) × w.Sheet sys ps s
  sheet-listed sys h = go (w.tests s) refl h
    where
      go : (o : Outcome) → w.tests s ≡ o → Ok sys ≡ tested_by w s o → (ps : List Packet) × w.Sheet sys ps s
      go (listed ps) q z = let e : sys ≡ system_in s = cc in (ps, rw e (w.laid s ps q))
      go (refused n i) q z = never (cc)

  -- the sheet is that of a list
  pub the-list : (sys : ℕ) → ((ps : List Packet) × w.Sheet sys ps s) → (r : ElementWritten) (after : List ℕ)
      → ((ps : List Packet) → w.Sheet sys ps s → Given (w.make sys) buffer (export sys fi ps) r after)
      → Answered w fi s buffer r after
  the-list sys o r after g =
      let y : system_in s ≡ sys = own-system w s sys o.0 o.1 in
      let d = g o.0 o.1 in
      let none = export-word w sys (length buffer) fi (words_in s) 0 o.0 (served sys fi o.0) in
      let same = no_word (w.make sys) (with_room_for (w.make sys) (length buffer) (export sys fi o.0)) _ none in
      rw (w.read sys o.0 s o.1, y) (d.0 ∙ same, d.1)

-- ---- what is written

module _ (w : Writer) (fi : Bool) (s : List ℕ) (room : ℕ) where
  -- the sheet of a list
  module _ (sys : ℕ) (ps : List Packet) (g : w.Sheet sys ps s) where
    writing-is : writing_by w fi s room ≡ with_room_for (w.make sys) room (export sys fi ps)
    writing-is = rw (w.read sys ps s g, own-system w s sys ps g)

    written : All Lined (served sys fi ps) → length (w.make sys (served sys fi ps)) ≤ room → writing_by w fi s room ≡ listed (served sys fi ps)
    written l h =
        writing-is
        ∙ ap (with_room_for (w.make sys) room) (lined-read sys fi ps 0 (listed (served sys fi ps)) l)
        ∙ rw (le-leb (length (w.make sys (served sys fi ps))) room h)

    written-only : (qs : List Packet) → writing_by w fi s room ≡ listed qs
        → All Lined (served sys fi ps) × (length (w.make sys (served sys fi ps)) ≤ room)
    written-only qs e = go (export sys fi ps) refl (sym writing-is ∙ e)
      where
        fitted : (rs : List Packet) (t : Bool) → leb (length (w.make sys rs)) room ≡ t → unless 17 t (listed rs) ≡ listed qs
            → length (w.make sys rs) ≤ room
        fitted rs true q e = leb-true (length (w.make sys rs)) room q
        fitted rs false q e = never (cc)

        go : (o : Outcome) → export sys fi ps ≡ o → with_room_for (w.make sys) room o ≡ listed qs
            → All Lined (served sys fi ps) × (length (w.make sys (served sys fi ps)) ≤ room)
        go (refused n i) q e = never (cc)
        go (listed rs) q e =
            let v = lined-only sys fi ps 0 (listed (served sys fi ps)) rs q in
            let same : rs ≡ served sys fi ps = let z = v.1 in cc in
            let f = fitted rs (leb (length (w.make sys rs)) room) refl e in
            (v.0, subst (λ (rs : List Packet). length (w.make sys rs) ≤ room) same f)

  untested : (n i : ℕ) → w.tests s ≡ refused n i → writing_by w fi s room ≡ refused n i
  untested n i t = rw t

  -- a refusal's number is not 0
  writing-refused : (n i : ℕ) → writing_by w fi s room ≡ refused n i → 1 ≤ n
  writing-refused n i e = tested (w.tests s) refl e
    where
      sys : ℕ
      sys = system_in s

      fitted : (rs : List Packet) (t : Bool) → unless 17 t (listed rs) ≡ refused n i → 1 ≤ n
      fitted rs true e = never (cc)
      fitted rs false e = let k : n ≡ 17 = cc in omega arith

      roomy : (o : Outcome) → with_room_for (w.make sys) room o ≡ refused n i → (o ≡ refused n i → 1 ≤ n) → 1 ≤ n
      roomy (listed rs) e f = fitted rs (leb (length (w.make sys rs)) room) e
      roomy (refused m j) e f = f e

      tested : (o : Outcome) → w.tests s ≡ o → with_room_for (w.make sys) room (and_then o (export sys fi)) ≡ refused n i → 1 ≤ n
      tested (listed ps) q e =
          roomy (export sys fi ps) e (λ z. lined-refused sys fi ps 0 (listed (served sys fi ps)) n i z (λ w. never (cc)))
      tested (refused m j) q e = w.refuses s n i (q ∙ e)

-- a list that is written: its sheet, with a line each that is served, and room for the element
pub record Sent (w : Writer) (fi : Bool) (sys : ℕ) (ps : List Packet) (s target : List ℕ) : Type 0 where
  pub sheet : w.Sheet sys ps s
  pub lined : All Lined (served sys fi ps)
  pub room : length (w.make sys (served sys fi ps)) ≤ length target

-- what a contract of writing asks for follows from its two equations
module _ (w : Writer) (fi : Bool) (s target : List ℕ) (r : ElementWritten) (after : List ℕ) (er : r ≡ write_by w fi s target)
    (ea : after ≡ after_by w fi s target) where
  pub unwritten : (r.number ≡ 0 → ⊥) → Unwritten r target after
  unwritten n = go (writing_by w fi s (length target)) er ea
    where
      go : (o : Outcome) → r ≡ written_with (w.word (words_in s) o) (written_by (w.make (system_in s)) o)
          → after ≡ laid_by (w.make (system_in s)) target o → Unwritten r target after
      go (listed ps) p q = absurd (n (ap (λ (x : ElementWritten). x.number) p))
      go (refused m i) p q =
          record { kept = q; packets = ap (λ (x : ElementWritten). x.packets) p; bytes = ap (λ (x : ElementWritten). x.bytes) p }

  pub sent-written : (sys : ℕ) (ps : List Packet) → Sent w fi sys ps s target
      → (r ≡ written_by (w.make sys) (listed (served sys fi ps))) × (after ≡ laid_by (w.make sys) target (listed (served sys fi ps)))
  sent-written sys ps x =
      let o = written w fi s (length target) sys ps x.sheet x.lined x.room in
      let y = own-system w s sys ps x.sheet in
      let n = w.word_none (words_in s) (served sys fi ps) in (
        er
            ∙ ap₂ (λ (n : ℕ) (o : Outcome). written_with (w.word (words_in s) o) (written_by (w.make n) o)) y o
            ∙ sym (no_word (w.make sys) (listed (served sys fi ps)) _ n),
        ea ∙ ap₂ (λ (n : ℕ) (o : Outcome). laid_by (w.make n) target o) y o,
      )

  pub sent-only : r.number ≡ 0 → (sys : ℕ) × (ps : List Packet) × Sent w fi sys ps s target
  sent-only n = go (writing_by w fi s (length target)) refl (ap (λ (x : ElementWritten). x.number) er)
    where
      clash : (qs : List Packet) (n i : ℕ) → writing_by w fi s (length target) ≡ listed qs → w.tests s ≡ refused n i → ◌≡◌ {A = ℕ} 0 1
      clash qs n i q t = let z : writing_by w fi s (length target) ≡ refused n i = untested w fi s (length target) n i t in cc

      tested : (qs : List Packet) → writing_by w fi s (length target) ≡ listed qs → (o : Outcome) → w.tests s ≡ o
          → (sys : ℕ) × (ps : List Packet) × Sent w fi sys ps s target
      tested qs q (listed ps) t =
          let g = w.laid s ps t in
          let v = written-only w fi s (length target) (system_in s) ps g qs q in
          (system_in s, ps, record { sheet = g; lined = v.0; room = v.1 })
      tested qs q (refused n i) t = never (clash qs n i q t)

      go : (o : Outcome) → writing_by w fi s (length target) ≡ o → r.number ≡ (written_by (w.make (system_in s)) o).number
          → (sys : ℕ) × (ps : List Packet) × Sent w fi sys ps s target
      go (refused m i) q p = let h = writing-refused w fi s (length target) m i q in absurd (omega arith)
      go (listed qs) q p = tested qs q (w.tests s) refl

  -- of the sheet's own list each that is served has a line, and its element stands in front
  pub sent_back : (sys : ℕ) (ps : List Packet) → w.Sheet sys ps s → r.number ≡ 0
      → All Lined (served sys fi ps) × (take r.bytes after ≡ w.make sys (served sys fi ps))
  sent_back sys ps g n =
      let x = sent-only n in
      let u = w.unique x.0 sys x.1 ps s x.2.sheet g in
      let lines = subst (λ (qs : List Packet). All Lined (served x.0 fi qs)) u.1 x.2.lined in
      let v = sent-written x.0 x.1 x.2 in
      let qs : List Packet = served x.0 fi x.1 in
      let b : r.bytes ≡ length (w.make x.0 qs) = ap (λ (y : ElementWritten). y.bytes) v.0 in (
        subst (λ (n : ℕ). All Lined (served n fi ps)) u.0 lines,
        ap (take r.bytes) v.1
            ∙ take_at (w.make x.0 qs) (drop (length (w.make x.0 qs)) target) r.bytes (sym b)
            ∙ ap₂ (λ (n : ℕ) (rs : List Packet). w.make n (served n fi rs)) u.0 u.1,
      )

-- The blocks of an area, and what is laid into them: what is laid is what is read out, no other byte changes, and no second area
-- fits.
--
-- In order: runs in an area, and runs that do not meet; reading out; one run laid; all runs laid; no second area; the facts of a
-- system; the laying order by number.
-- Assumes nothing.
use Prim.Native.Nat.{ℕ, ◌+◌, ◌-◌, ◌*◌, ◌/◌, ◌%◌, ◌≤◌, ◌<◌}
use mathlib.Core.Path.{◌≡◌, refl, sym, ap, ap₂, ◌∙◌}
use mathlib.Core.Logic.{◌⊎◌, inl, inr, ⊎_elim}
use mathlib.Core.Bool.{Bool, true, false, cond, ◌&&◌, ◌||◌}
use mathlib.Core.List.{List, [], ◌∷◌, ◌++◌, map}
use native.Mathlib.Omega.{arith}
use lib.Dec.{eqb, ltb, leb}
use lib.ListN.{length, get_or, take, drop, length-append, length-take, length-drop, take-append-drop, get_or-append}
use lib.Seq.{get_or-take, get_or-drop, get_or-append-add, ext_get_or, take_at, drop_at, length-take-le, take-append-le, drop-append-le}
use borrow.Author.Tests.{ltb-true, ltb-false, leb-true, leb-false, eqb-true, lt-ltb, le-leb}
use Rattle.rules.specs.Base.{count, sum, All, none, one, Bytes}
use Rattle.rules.specs.Systems.{System, hd1080-60i, hd1080-50i, hd720-60p, known, system}
use Rattle.rules.specs.Blocks.{Run, block_start, shift, width, user_run, runs, sizes, block_sizes, area_size}
use Rattle.rules.specs.Blocks.{gather, into, scatter, outside}
use Rattle.rules.proofs.Basics.{never, both, either, take-bytes, drop-bytes, append-below}
use Rattle.rules.proofs.Long.{Roomy}

-- ---- runs in an area, and runs that do not meet

-- every run lies within m bytes
abbrev pub all_within : ℕ → List Run → Bool
all_within m [] = true
all_within m (r ∷ rs) = leb (r.start + r.size) m && all_within m rs

-- a run meets none of the others
abbrev pub apart : Run → List Run → Bool
apart r [] = true
apart r (s ∷ ss) = (leb (r.start + r.size) s.start || leb (s.start + s.size) r.start) && apart r ss

-- no two runs meet
abbrev pub all_apart : List Run → Bool
all_apart [] = true
all_apart (r ∷ rs) = apart r rs && all_apart rs

-- the first of runs that lie within m bytes does so, and so do the others
within_both : (m : ℕ) (r : Run) (rs : List Run) → all_within m (r ∷ rs) ≡ true
    → (r.start + r.size ≤ m) × (all_within m rs ≡ true)
within_both m r rs w =
    let v = both (leb (r.start + r.size) m) (all_within m rs) w in
    (leb-true (r.start + r.size) m v.0, v.1)

-- ---- reading out

-- the bytes of one run
abbrev piece : Run → List ℕ → List ℕ
piece r a = take r.size (drop r.start a)

-- a run that lies in an area gives as many bytes as its size says
piece-length : (m : ℕ) (r : Run) (a : List ℕ) → r.start + r.size ≤ m → length a ≡ m → length (piece r a) ≡ r.size
piece-length m r a h l = simp (length-take, length-drop) (omega arith)

-- runs that lie in an area give as many bytes as their sizes say
pub gather-length : (m : ℕ) (rs : List Run) (a : List ℕ) → all_within m rs ≡ true → length a ≡ m
    → length (gather rs a) ≡ sum (sizes rs)
gather-length m [] a w l = refl
gather-length m (r ∷ rs) a w l =
    let v = within_both m r rs w in
    length-append (piece r a) (gather rs a)
    ∙ ap₂ (λ (x y : ℕ). x + y) (piece-length m r a v.0 l) (gather-length m rs a v.1 l)

-- what is read out of bytes is bytes
pub gather-bytes : (rs : List Run) (a : List ℕ) → Bytes a → Bytes (gather rs a)
gather-bytes [] a h i = omega arith
gather-bytes (r ∷ rs) a h i =
    let p : Bytes (piece r a) = take-bytes r.size (drop r.start a) (drop-bytes r.start a h) in
    append-below 256 (piece r a) (gather rs a) p (gather-bytes rs a h) i

-- ---- one run laid

module _ (a : List ℕ) (s z : ℕ) (us : List ℕ) (h : s + z ≤ length a) (k : z ≤ length us) where
  -- an area with a run laid is as long as before
  into-length : length (into a s z us) ≡ length a
  into-length = simp (length-append, length-take, length-drop) (omega arith)

  -- a place before the run keeps its byte
  into-before : (i : ℕ) → i < s → get_or (into a s z us) i 0 ≡ get_or a i 0
  into-before i l =
      let t : length (take s a) ≡ s = length-take-le s a (omega arith) in
      get_or-append (take s a) (take z us ++ drop z (drop s a)) 0 i (omega arith) ∙ get_or-take s a i 0 l

  -- a place past the run keeps its byte
  into-past : (i : ℕ) → s + z ≤ i → get_or (into a s z us) i 0 ≡ get_or a i 0
  into-past i l =
      let t : length (take s a) ≡ s = length-take-le s a (omega arith) in
      let u : length (take z us) ≡ z = length-take-le z us k in
      let e : i ≡ length (take s a) + (length (take z us) + (i - (s + z))) = omega arith in
      let f : s + (z + (i - (s + z))) ≡ i = omega arith in
      ap (λ (n : ℕ). get_or (into a s z us) n 0) e
      ∙ get_or-append-add (take s a) (take z us ++ drop z (drop s a)) (length (take z us) + (i - (s + z))) 0
      ∙ get_or-append-add (take z us) (drop z (drop s a)) (i - (s + z)) 0
      ∙ get_or-drop z (drop s a) (i - (s + z)) 0
      ∙ get_or-drop s a (z + (i - (s + z))) 0
      ∙ ap (λ (n : ℕ). get_or a n 0) f

  -- in the run stands what was laid
  into-there : take z (drop s (into a s z us)) ≡ take z us
  into-there =
      let t : length (take s a) ≡ s = length-take-le s a (omega arith) in
      let u : length (take z us) ≡ z = length-take-le z us k in
      ap (take z) (drop_at (take s a) (take z us ++ drop z (drop s a)) s t) ∙ take_at (take z us) (drop z (drop s a)) z u

-- ---- all runs laid

-- an area with its runs laid is as long as before
pub scatter-length : (m : ℕ) (rs : List Run) (us a : List ℕ) → all_within m rs ≡ true → sum (sizes rs) ≤ length us
    → length a ≡ m → length (scatter rs us a) ≡ m
scatter-length m [] us a w t l = l
scatter-length m (r ∷ rs) us a w t l =
    let v = within_both m r rs w in
    let d = length-drop r.size us in
    scatter-length m rs (drop r.size us) (into a r.start r.size us) v.1 (omega arith)
    (into-length a r.start r.size us (omega arith) (omega arith) ∙ l)

-- a place that is in no run keeps its byte
pub scatter-outside : (m : ℕ) (rs : List Run) (us a : List ℕ) (i : ℕ) → all_within m rs ≡ true → sum (sizes rs) ≤ length us
    → length a ≡ m → outside i rs ≡ true → get_or (scatter rs us a) i 0 ≡ get_or a i 0
scatter-outside m [] us a i w t l o = refl
scatter-outside m (r ∷ rs) us a i w t l o =
    let v = within_both m r rs w in
    let d = length-drop r.size us in
    let q = both (ltb i r.start || leb (r.start + r.size) i) (outside i rs) o in
    let n : length (into a r.start r.size us) ≡ m = into-length a r.start r.size us (omega arith) (omega arith) ∙ l in
    scatter-outside m rs (drop r.size us) (into a r.start r.size us) i v.1 (omega arith) n q.1
    ∙ ⊎_elim
    (λ b. into-before a r.start r.size us (omega arith) (omega arith) i (ltb-true i r.start b))
    (λ b. into-past a r.start r.size us (omega arith) (omega arith) i (leb-true (r.start + r.size) i b))
    (either (ltb i r.start) (leb (r.start + r.size) i) q.0)

-- a place in a run that meets none of the others is in none of them
apart-outside : (r : Run) (rs : List Run) (i : ℕ) → i < r.size → apart r rs ≡ true → outside (r.start + i) rs ≡ true
apart-outside r [] i h e = refl
apart-outside r (s ∷ ss) i h e =
    let q = both (leb (r.start + r.size) s.start || leb (s.start + s.size) r.start) (apart r ss) e in
    rw (apart-outside r ss i h q.1) (go (either (leb (r.start + r.size) s.start) (leb (s.start + s.size) r.start) q.0))
  where
    go : (leb (r.start + r.size) s.start ≡ true) ⊎ (leb (s.start + s.size) r.start ≡ true)
        → ((ltb (r.start + i) s.start || leb (s.start + s.size) (r.start + i)) && true) ≡ true
    go (inl b) = let x = leb-true (r.start + r.size) s.start b in rw (lt-ltb (r.start + i) s.start (omega arith))
    go (inr b) =
        let x = leb-true (s.start + s.size) r.start b in
        rw (le-leb (s.start + s.size) (r.start + i) (omega arith)) (or-so (ltb (r.start + i) s.start))
      where
        or-so : (t : Bool) → ((t || true) && true) ≡ true
        or-so true = refl
        or-so false = refl

-- later runs leave a run that they do not meet as it is
run-kept : (m : ℕ) (r : Run) (rs : List Run) (us a : List ℕ) → r.start + r.size ≤ m → all_within m rs ≡ true
    → sum (sizes rs) ≤ length us → length a ≡ m → apart r rs ≡ true → piece r (scatter rs us a) ≡ piece r a
run-kept m r rs us a h w t l p =
    let x : length (piece r (scatter rs us a)) ≡ r.size = piece-length m r (scatter rs us a) h (scatter-length m rs us a w t l) in
    ext_get_or 0 (piece r (scatter rs us a)) (piece r a) (x ∙ sym (piece-length m r a h l))
    (λ i b.
    let c : i < r.size = omega arith in
    get_or-take r.size (drop r.start (scatter rs us a)) i 0 c
    ∙ get_or-drop r.start (scatter rs us a) i 0
    ∙ scatter-outside m rs us a (r.start + i) w t l (apart-outside r rs i c p)
    ∙ sym (get_or-drop r.start a i 0)
    ∙ sym (get_or-take r.size (drop r.start a) i 0 c))

-- what is laid into runs that do not meet is what is read out of them
pub gather-scatter : (m : ℕ) (rs : List Run) (us a : List ℕ) → all_within m rs ≡ true → all_apart rs ≡ true
    → length us ≡ sum (sizes rs) → length a ≡ m → gather rs (scatter rs us a) ≡ us
gather-scatter m [] [] a w d t l = refl
gather-scatter m [] (x ∷ us) a w d t l = absurd (omega arith)
gather-scatter m (r ∷ rs) us a w d t l =
    let v = within_both m r rs w in
    let q = both (apart r rs) (all_apart rs) d in
    let dl = length-drop r.size us in
    let vs : List ℕ = drop r.size us in
    let c : List ℕ = into a r.start r.size us in
    let lc : length c ≡ m = into-length a r.start r.size us (omega arith) (omega arith) ∙ l in
    let e : length vs ≡ sum (sizes rs) = omega arith in
    let k : sum (sizes rs) ≤ length vs = omega arith in
    ap₂ (λ (x y : List ℕ). x ++ y)
    (run-kept m r rs vs c v.0 v.1 k lc q.0 ∙ into-there a r.start r.size us (omega arith) (omega arith))
    (gather-scatter m rs vs c v.1 q.1 e lc)
    ∙ take-append-drop r.size us

-- of what is laid only as many bytes count as the runs hold
pub scatter-front : (rs : List Run) (us more a : List ℕ) → length us ≡ sum (sizes rs) → scatter rs (us ++ more) a ≡ scatter rs us a
scatter-front [] us more a e = refl
scatter-front (r ∷ rs) us more a e =
    let t : take r.size (us ++ more) ≡ take r.size us = take-append-le r.size us more (omega arith) in
    let d : drop r.size (us ++ more) ≡ drop r.size us ++ more = drop-append-le r.size us more (omega arith) in
    let l = length-drop r.size us in
    rw (t, d) (scatter-front rs (drop r.size us) more (into a r.start r.size us) (omega arith))

-- ---- no second area

-- two areas with the same bytes in a run have the same byte at each place of it
piece-one : (r : Run) (b c : List ℕ) → piece r b ≡ piece r c → (i : ℕ) → r.start ≤ i → i < r.start + r.size
    → get_or b i 0 ≡ get_or c i 0
piece-one r b c e i h k =
    let j : ℕ = i - r.start in
    let f : r.start + j ≡ i = omega arith in
    let g : j < r.size = omega arith in
    ap (λ (n : ℕ). get_or b n 0) (sym f)
    ∙ sym (get_or-drop r.start b j 0)
    ∙ sym (get_or-take r.size (drop r.start b) j 0 g)
    ∙ ap (λ (s : List ℕ). get_or s j 0) e
    ∙ get_or-take r.size (drop r.start c) j 0 g
    ∙ get_or-drop r.start c j 0
    ∙ ap (λ (n : ℕ). get_or c n 0) f

-- two areas that give the same bytes give the same in the first run, and the same in the others
gather-split : (m : ℕ) (r : Run) (rs : List Run) (b c : List ℕ) → r.start + r.size ≤ m → length b ≡ m → length c ≡ m
    → gather (r ∷ rs) b ≡ gather (r ∷ rs) c → (piece r b ≡ piece r c) × (gather rs b ≡ gather rs c)
gather-split m r rs b c h lb lc e =
    let x : length (piece r b) ≡ r.size = piece-length m r b h lb in
    let y : length (piece r c) ≡ r.size = piece-length m r c h lc in
    let n : ℕ = r.size in (
      sym (take_at (piece r b) (gather rs b) n x) ∙ ap (take n) e ∙ take_at (piece r c) (gather rs c) n y,
      sym (drop_at (piece r b) (gather rs b) n x) ∙ ap (drop n) e ∙ drop_at (piece r c) (gather rs c) n y,
    )

-- two areas that give the same bytes have the same byte at each place of their runs
gather-one : (m : ℕ) (rs : List Run) (b c : List ℕ) → all_within m rs ≡ true → length b ≡ m → length c ≡ m
    → gather rs b ≡ gather rs c → (i : ℕ) → outside i rs ≡ false → get_or b i 0 ≡ get_or c i 0
gather-one m [] b c w lb lc e i o = never (cc)
gather-one m (r ∷ rs) b c w lb lc e i o =
    let v = within_both m r rs w in
    let s = gather-split m r rs b c v.0 lb lc e in
    go s.0 (gather-one m rs b c v.1 lb lc s.1 i) (ltb i r.start) refl (leb (r.start + r.size) i) refl o
  where
    go : piece r b ≡ piece r c → (outside i rs ≡ false → get_or b i 0 ≡ get_or c i 0)
        → (x : Bool) → ltb i r.start ≡ x → (y : Bool) → leb (r.start + r.size) i ≡ y
        → ((x || y) && outside i rs) ≡ false → get_or b i 0 ≡ get_or c i 0
    go f later true p y q o = later o
    go f later false p true q o = later o
    go f later false p false q o = piece-one r b c f i (ltb-false i r.start p) (leb-false (r.start + r.size) i q)

-- an area that gives these bytes, and has the old ones wherever no run is, is the old area with these bytes laid
pub scatter-one : (m : ℕ) (rs : List Run) (us a b : List ℕ) → all_within m rs ≡ true → all_apart rs ≡ true
    → length us ≡ sum (sizes rs) → length a ≡ m → length b ≡ m → gather rs b ≡ us
    → ((i : ℕ) → outside i rs ≡ true → get_or b i 0 ≡ get_or a i 0) → b ≡ scatter rs us a
scatter-one m rs us a b w d t la lb e o =
    let k : sum (sizes rs) ≤ length us = omega arith in
    let lc = scatter-length m rs us a w k la in
    let f = e ∙ sym (gather-scatter m rs us a w d t la) in
    ext_get_or 0 b (scatter rs us a) (lb ∙ sym lc) (λ i h. go k lc f i (outside i rs) refl)
  where
    go : sum (sizes rs) ≤ length us → length (scatter rs us a) ≡ m → gather rs b ≡ gather rs (scatter rs us a)
        → (i : ℕ) (x : Bool) → outside i rs ≡ x → get_or b i 0 ≡ get_or (scatter rs us a) i 0
    go k lc f i true x = o i x ∙ sym (scatter-outside m rs us a i w k la x)
    go k lc f i false x = gather-one m rs b (scatter rs us a) w lb lc f i x

-- ---- the facts of a system

-- what the laws want of a system: its user bytes are whole packs of five, each block has room, the blocks lie in the area and do
-- not meet, and its lines go into eleven bits
pub record Facts (y : System) : Type 0 where
  pub packs : ℕ
  pub whole : sum (block_sizes y) ≡ 5 * packs
  pub roomy : Roomy (block_sizes y)
  pub within : all_within (area_size y) (runs y) ≡ true
  pub apart : all_apart (runs y) ≡ true
  pub last : y.last < 2047

-- every size is m or more, as a test
abbrev pub all_from : ℕ → List ℕ → Bool
all_from m [] = true
all_from m (n ∷ ns) = leb m n && all_from m ns

-- sizes that pass the test are m or more
pub from-test : (m : ℕ) (ns : List ℕ) → all_from m ns ≡ true → All (λ (n : ℕ). m ≤ n) ns
from-test m [] e = none
from-test m (n ∷ ns) e = let w = both (leb m n) (all_from m ns) e in one (leb-true m n w.0) (from-test m ns w.1)

-- the facts of ten sequences per channel, computed, whatever the last line
facts10 : (line : ℕ) → line < 2047 → Facts (record { sequences = 10; last = line })
unfolding runs block_start shift width
facts10 line h =
    record {
      packs = 1560;
      whole = refl;
      roomy = from-test 4 (block_sizes (record { sequences = 10; last = line })) refl;
      within = refl;
      apart = refl;
      last = h;
    }

-- the facts of twelve
facts12 : (line : ℕ) → line < 2047 → Facts (record { sequences = 12; last = line })
unfolding runs block_start shift width
facts12 line h =
    record {
      packs = 1872;
      whole = refl;
      roomy = from-test 4 (block_sizes (record { sequences = 12; last = line })) refl;
      within = refl;
      apart = refl;
      last = h;
    }

-- the frame of an unknown system
abbrev no-frame : System
no-frame = record { sequences = 0; last = 0 }

-- what holds of each of the three systems, known, and of the empty frame, unknown, holds of the system of any number
pub each-system : (P : System → Bool → Type 0) → P hd1080-60i true → P hd1080-50i true → P hd720-60p true → P no-frame false
    → (sys : ℕ) → P (system sys) (known sys)
unfolding known system
each-system P p q r n sys = go (eqb sys 1) (eqb sys 2) (eqb sys 3)
  where
    go : (a b c : Bool) → P (cond a hd1080-60i (cond b hd1080-50i (cond c hd720-60p no-frame))) (a || (b || c))
    go true b c = p
    go false true c = q
    go false false true = r
    go false false false = n

-- the facts hold of every system that is known
pub facts-of : (sys : ℕ) → known sys ≡ true → Facts (system sys)
facts-of =
    each-system (λ (y : System) (k : Bool). k ≡ true → Facts y)
    (λ e. facts10 1125 (omega arith))
    (λ e. facts12 1125 (omega arith))
    (λ e. facts10 750 (omega arith))
    (λ e. never (cc))

-- a known system's number is small
pub known-low : (sys : ℕ) → known sys ≡ true → sys ≤ 3
unfolding known
known-low sys e = go (eqb sys 1) refl (eqb sys 2) refl (eqb sys 3) refl e
  where
    go : (a : Bool) → eqb sys 1 ≡ a → (b : Bool) → eqb sys 2 ≡ b → (c : Bool) → eqb sys 3 ≡ c → (a || (b || c)) ≡ true → sys ≤ 3
    go true p b q c r e = let z = eqb-true sys 1 p in omega arith
    go false p true q c r e = let z = eqb-true sys 2 q in omega arith
    go false p false q true r e = let z = eqb-true sys 3 r in omega arith
    go false p false q false r e = never (cc)

-- ---- the laying order by number

-- the runs of n sequences per channel by number: each twelve are a sequence, each four of them a block
abbrev pub by_number : ℕ → List Run
by_number n = map (λ (k : ℕ). user_run n (k / 12) (k / 4 % 3) (k % 4)) (count 0 (12 * n))

-- with ten sequences per channel the laying order is by number
pub run-order10 : runs hd1080-60i ≡ by_number 10
unfolding runs block_start shift width
run-order10 = refl

-- with twelve it is too
pub run-order12 : runs hd1080-50i ≡ by_number 12
unfolding runs block_start shift width
run-order12 = refl

-- What the elements of either coding have in common: a structure says what its fields were written with, and has been written with what it says;
-- and so do structures one behind the other, and the element of them.
--
-- In order: numbers in bytes; FI; a structure, as written and as read; structures, as written and as read; the head, as written; an element, both
-- ways.
-- Assumes nothing.
use Prim.Native.Nat.{ℕ, zero, suc, ◌+◌, ◌*◌, ◌/◌, ◌%◌, ◌≤◌, ◌<◌}
use mathlib.Core.Path.{◌≡◌, refl, sym, ap, ap₂, ◌∙◌, subst}
use mathlib.Core.Logic.{◌⊎◌, inl, inr}
use mathlib.Core.Bool.{Bool, true, false, cond, ◌&&◌}
use mathlib.Core.List.{List, [], ◌∷◌, ◌++◌, map, append_assoc}
use native.Mathlib.Omega.{arith}
use native.Mathlib.Numerals.{add-one}
use lib.Dec.{eqb, leb}
use lib.ListN.{length, get_or, take, drop, length-append, length-drop, take-append-drop}
use lib.Seq.{drop_at, get_or-append_seam, drop-cons, drop-drop, length-take-le}
use borrow.Author.Tests.{eqb-true, eqb-false, eq-eqb, ne_eqb, le-leb}
use Rattle.rules.specs.Base.{All, none, one, Bytes, joined}
use Rattle.rules.specs.Systems.{system, allowed}
use Rattle.rules.specs.Packet.{Packet}
use Rattle.rules.specs.Numbers.{Outcome, listed, also}
use Rattle.rules.proofs.Basics.{never, either, drop-bytes}
use Rattle.rules.proofs.Lines.{allowed-stands, OnAllowed}
use Rattle.mxf.specs.Element.{two, three, four, key, progressive, wrapping, Coding, eight, ten, luma, colour, coding_of, klv}
use Rattle.mxf.specs.Served.{fi_read}
use Rattle.mxf.specs.Judging.{two_in, three_in, four_in, in_frame, is_coding, others, is_count, array_for, size_in, dc_in, dc_bytes}
use Rattle.mxf.specs.Judging.{front_then, array_then, packet_in, structures, key_then, head_then, judged_as}
use Rattle.mxf.proofs.JudgingLaws.{right}
use Rattle.mxf.proofs.Inversion.{Structure, structures-listed, Head, judged-listed}

-- ---- numbers in bytes

two_back : (n : ℕ) → n / 256 * 256 + n % 256 ≡ n
two_back n = omega arith

three_back : (n : ℕ) → n / 65536 * 65536 + (n / 256 % 256 * 256 + n % 256) ≡ n
three_back n =
    let a : n / 256 ≡ 256 * (n / 65536) + n / 256 % 256 = omega arith in
    omega arith

four-back : (n : ℕ) → n / 16777216 * 16777216 + (n / 65536 % 256 * 65536 + (n / 256 % 256 * 256 + n % 256)) ≡ n
four-back n =
    let a : n / 65536 ≡ 256 * (n / 16777216) + n / 65536 % 256 = omega arith in
    let b = three_back n in
    omega arith

-- two, three and four bytes of the number that they are
two-split : (a b : ℕ) → b < 256 → ((a * 256 + b) / 256 ≡ a) × ((a * 256 + b) % 256 ≡ b)
two-split a b h = (omega arith, omega arith)

module _ (a b c d : ℕ) (hb : b < 256) (hc : c < 256) (hd : d < 256) where
  abbrev number : ℕ
  number = a * 16777216 + (b * 65536 + (c * 256 + d))

  four-first : number / 16777216 ≡ a
  four-first = omega arith

  four-second : number / 65536 % 256 ≡ b
  four-second = let e : number / 65536 ≡ a * 256 + b = omega arith in rw e (omega arith)

  four-third : number / 256 % 256 ≡ c
  four-third = let e : number / 256 ≡ (a * 256 + b) * 256 + c = omega arith in rw e (omega arith)

  four-last : number % 256 ≡ d
  four-last = omega arith

-- of two numbers the other
zeroth : (n : ℕ) → n < 2 → (n ≡ 1 → ⊥) → n ≡ 0
zeroth zero h f = refl
zeroth (suc n) h f = absurd (f (omega arith))

-- n numbers from the i-th on, and what follows them
abbrev pub gets : ℕ → ℕ → List ℕ → List ℕ → List ℕ
gets zero i s t = t
gets (suc n) i s t = get_or s i 0 ∷ gets n (suc i) s t

pub firsts : (n i : ℕ) (s : List ℕ) → i + n ≤ length s → drop i s ≡ gets n i s (drop (i + n) s)
firsts zero i s h = let e : i + 0 ≡ i = omega arith in rw e
firsts (suc n) i s h =
    let e : i + suc n ≡ suc i + n = omega arith in
    drop-cons s i 0 (omega arith)
    ∙ ap (λ (t : List ℕ). get_or s i 0 ∷ t) (firsts n (suc i) s (omega arith) ∙ ap (λ (m : ℕ). gets n (suc i) s (drop m s)) (sym e))

-- ---- FI

pub fi-small : (sys : ℕ) (fi : Bool) → fi_read sys fi < 2
unfolding fi_read
fi-small sys fi = go (progressive sys) fi
  where
    go : (t f : Bool) → cond t (cond f 1 0) 0 < 2
    go true true = omega arith
    go true false = omega arith
    go false f = omega arith

-- ---- a structure: what is written is read

-- table 7: line, flags, sample count, array count, array
unfoldable pub laid : Coding → ℕ → ℕ → ℕ → ℕ → ℕ → List ℕ → List ℕ
laid c sys line flags n k array = two line ++ wrapping sys ∷ coding_of c flags ∷ two n ++ four k ++ four 1 ++ array

is-coding : (c : Coding) (t : Bool) → is_coding c (cond t (luma c) (colour c)) ≡ true
is-coding eight true = refl
is-coding eight false = refl
is-coding ten true = refl
is-coding ten false = refl

-- which samples, by the coding's number
is-luma : (c : Coding) (t : Bool) → eqb (cond t (luma c) (colour c)) (luma c) ≡ t
is-luma eight true = refl
is-luma eight false = refl
is-luma ten true = refl
is-luma ten false = refl

-- an array of so many samples has DC's bytes
dc-there : (c : Coding) (n k : ℕ) → others c ≤ n → array_for c n ≤ k → 2 + dc_bytes c ≤ k
dc-there eight n k h l = omega arith
dc-there ten n k h l = omega arith

-- what the fields of such a structure say, and what is behind them
pub record Says (c : Coding) (sys l f n k : ℕ) (a r s : List ℕ) : Type 0 where
  pub line : two_in s 0 ≡ l
  pub wrapped : get_or s 2 0 ≡ wrapping sys
  pub coded : get_or s 3 0 ≡ coding_of c f
  pub samples : two_in s 4 ≡ n
  pub array : four_in s 6 ≡ k
  pub single : four_in s 10 ≡ 1
  pub behind : drop 14 s ≡ a ++ r
  pub long : length s ≡ 14 + length a + length r

pub laid-says : (c : Coding) (sys l f n k : ℕ) (a r s : List ℕ) → s ≡ laid c sys l f n k a ++ r → Says c sys l f n k a r s
unfolding laid
laid-says c sys l f n k a r s e =
    let m = length-append a r in
    record {
      line = ap (λ (t : List ℕ). two_in t 0) e ∙ two_back l;
      wrapped = ap (λ (t : List ℕ). get_or t 2 0) e;
      coded = ap (λ (t : List ℕ). get_or t 3 0) e;
      samples = ap (λ (t : List ℕ). two_in t 4) e ∙ two_back n;
      array = ap (λ (t : List ℕ). four_in t 6) e ∙ four-back k;
      single = ap (λ (t : List ℕ). four_in t 10) e;
      behind = ap (drop 14) e;
      long = ap length e ∙ (omega arith);
    }

module _ (c : Coding) (sys line flags n k : ℕ) (array r s : List ℕ) (b : Says c sys line flags n k array r s) where
  pub flags-back : (fi : Bool) → flags % 2 ≡ fi_read sys fi → flags < 4 → fi_read sys fi + 2 * cond (eqb (get_or s 3 0) (luma c)) 1 0 ≡ flags
  flags-back fi own small =
      ap (λ (n : ℕ). fi_read sys fi + 2 * cond (eqb n (luma c)) 1 0) b.coded
      ∙ ap (λ (t : Bool). fi_read sys fi + 2 * cond t 1 0) (is-luma c (eqb (flags / 2) 1))
      ∙ go (eqb (flags / 2) 1) refl
    where
      go : (t : Bool) → eqb (flags / 2) 1 ≡ t → fi_read sys fi + 2 * cond t 1 0 ≡ flags
      go true e =
          let k = eqb-true (flags / 2) 1 e in
          let w : fi_read sys fi + 2 * 1 ≡ flags = omega arith in
          w
      go false e =
          let h : flags / 2 < 2 = omega arith in
          let z : flags / 2 ≡ 0 = zeroth (flags / 2) h (eqb-false (flags / 2) 1 e) in
          let w : fi_read sys fi + 2 * 0 ≡ flags = omega arith in
          w

  -- a line of the frame, and an array as long as its count says, with the samples in it and as many as DC says
  module _ (lined : line ≡ 0 → ⊥) (fine : allowed (system sys) line ≡ true) (least : others c ≤ n) (most : n ≤ others c + 255)
      (enough : array_for c n ≤ k) (whole : k ≡ length array) (dc : dc_in c s + others c ≡ n) where
    pub structure-passes : (at : ℕ) (o : Outcome) → front_then c sys at s (array_then c at s o) ≡ o
    unfolding front_then array_then
    structure-passes at o =
        let l = b.long in
        let m = b.samples in
        let a = b.array in
        let d = dc-there c n k least enough in
        let frame : in_frame (system sys) line ≡ true = rw (ne_eqb line 0 lined, allowed-stands (system sys) line fine) in
        let count : is_count c (two_in s 4) ≡ true =
        rw (le-leb (others c) (two_in s 4) (omega arith), le-leb (two_in s 4) (others c + 255) (omega arith)) in
        let samples : leb (array_for c (two_in s 4)) (four_in s 6) ≡ true =
        ap₂ (λ (i j : ℕ). leb (array_for c i) j) m a ∙ le-leb (array_for c n) k enough in
        let inside : leb (size_in s) (length s) ≡ true = le-leb (size_in s) (length s) (omega arith) in
        let room : (leb (array_for c (two_in s 4)) (four_in s 6) && leb (size_in s) (length s)) ≡ true = rw (samples, inside) in
        right at s 0 2 _ _ (omega arith) (ap (in_frame (system sys)) b.line ∙ frame)
        ∙ right at s 2 1 _ _ (omega arith) (eq-eqb (get_or s 2 0) (wrapping sys) b.wrapped)
        ∙ right at s 3 1 _ _ (omega arith) (ap (is_coding c) b.coded ∙ is-coding c (eqb (flags / 2) 1))
        ∙ right at s 4 2 _ _ (omega arith) count
        ∙ right at s 6 4 _ _ (omega arith) room
        ∙ right at s 10 4 _ _ (omega arith) (eq-eqb (four_in s 10) 1 b.single)
        ∙ right at s 16 (dc_bytes c) _ _ (omega arith) (eq-eqb (dc_in c s + others c) (two_in s 4) (dc ∙ sym m))

  pub rest_back : k ≡ length array → drop (size_in s) s ≡ r
  rest_back whole =
      sym (drop-drop (four_in s 6) 14 s)
      ∙ ap₂ (λ (n : ℕ) (t : List ℕ). drop n t) (b.array ∙ whole) b.behind
      ∙ drop_at array r (length array) refl

-- ---- a structure: what is read was written

module _ (c : Coding) (sys : ℕ) (fi : Bool) (s : List ℕ) (hs : Bytes s) (g : Structure c sys s) where
  -- the flags that it shows
  abbrev pub flags_in : ℕ
  flags_in = fi_read sys fi + 2 * cond (eqb (get_or s 3 0) (luma c)) 1 0

  coding-in : coding_of c flags_in ≡ get_or s 3 0
  coding-in = go (get_or s 3 0) (either (eqb (get_or s 3 0) (luma c)) (eqb (get_or s 3 0) (colour c)) g.coded)
    where
      other : (c : Coding) → colour c ≡ luma c → ⊥
      other eight e = omega arith
      other ten e = omega arith

      go : (m : ℕ) → (eqb m (luma c) ≡ true) ⊎ (eqb m (colour c) ≡ true) → coding_of c (fi_read sys fi + 2 * cond (eqb m (luma c)) 1 0) ≡ m
      go m (inl e) =
          let z = eqb-true m (luma c) e in
          let f = fi-small sys fi in
          let h : (fi_read sys fi + 2 * 1) / 2 ≡ 1 = omega arith in
          rw (e, eq-eqb _ 1 h) (sym z)
      go m (inr e) =
          let z = eqb-true m (colour c) e in
          let f = fi-small sys fi in
          let n : eqb m (luma c) ≡ false = ne_eqb m (luma c) (λ w. other c (sym z ∙ w)) in
          let h : (fi_read sys fi + 2 * 0) / 2 ≡ 0 = omega arith in
          rw (n, h) (sym z)

  pub flags-small : flags_in < 4
  flags-small = go (eqb (get_or s 3 0) (luma c))
    where
      go : (b : Bool) → fi_read sys fi + 2 * cond b 1 0 < 4
      go true = let f = fi-small sys fi in omega arith
      go false = let f = fi-small sys fi in omega arith

  pub flags-own : flags_in % 2 ≡ fi_read sys fi
  flags-own = go (eqb (get_or s 3 0) (luma c))
    where
      go : (b : Bool) → (fi_read sys fi + 2 * cond b 1 0) % 2 ≡ fi_read sys fi
      go true = let f = fi-small sys fi in omega arith
      go false = let f = fi-small sys fi in omega arith

  -- the array is there
  pub array_long : length (take (four_in s 6) (drop 14 s)) ≡ four_in s 6
  array_long = let l = length-drop 14 s in let w = g.inside in length-take-le (four_in s 6) (drop 14 s) (omega arith)

  pub array-rest : take (four_in s 6) (drop 14 s) ++ drop (size_in s) s ≡ drop 14 s
  array-rest =
      ap (λ (t : List ℕ). take (four_in s 6) (drop 14 s) ++ t) (sym (drop-drop (four_in s 6) 14 s)) ∙ take-append-drop (four_in s 6) (drop 14 s)

  -- whatever the parts of what is behind the fields
  pub structure-split : (array r : List ℕ) → array ++ r ≡ drop 14 s → s ≡ laid c sys (two_in s 0) flags_in (two_in s 4) (four_in s 6) array ++ r
  unfolding laid
  structure-split array r q =
      let w = g.inside in
      let e = firsts 14 0 s (omega arith) in
      let e0 = two-split (get_or s 0 0) (get_or s 1 0) (hs 1) in
      let e2 = g.wrapped in
      let e3 = coding-in in
      let e4 = two-split (get_or s 4 0) (get_or s 5 0) (hs 5) in
      let e6 = four-first (get_or s 6 0) (get_or s 7 0) (get_or s 8 0) (get_or s 9 0) (hs 7) (hs 8) (hs 9) in
      let e7 = four-second (get_or s 6 0) (get_or s 7 0) (get_or s 8 0) (get_or s 9 0) (hs 7) (hs 8) (hs 9) in
      let e8 = four-third (get_or s 6 0) (get_or s 7 0) (get_or s 8 0) (get_or s 9 0) (hs 7) (hs 8) (hs 9) in
      let e9 = four-last (get_or s 6 0) (get_or s 7 0) (get_or s 8 0) (get_or s 9 0) (hs 7) (hs 8) (hs 9) in
      let z = g.single in
      let z0 : get_or s 10 0 ≡ 0 = omega arith in
      let z1 : get_or s 11 0 ≡ 0 = omega arith in
      let z2 : get_or s 12 0 ≡ 0 = omega arith in
      let z3 : get_or s 13 0 ≡ 1 = omega arith in
      cc

-- ---- the head: what is written is read

key-read : (ks before behind : List ℕ) (o : Outcome) → key_then (length before) ks (before ++ (ks ++ behind)) o ≡ o
key-read [] before behind o = refl
key-read (k ∷ ks) before behind o =
    let e : List ℕ = before ++ (k ∷ ks ++ behind) in
    let m : List ℕ = before ++ (k ∷ []) in
    let l = length-append before (k ∷ ks ++ behind) in
    let n : length m ≡ suc (length before) = length-append before (k ∷ []) ∙ add-one (length before) in
    let same : m ++ (ks ++ behind) ≡ e = append_assoc before (k ∷ []) (ks ++ behind) in
    let later = key-read ks m behind o in
    let there : length before + 1 ≤ length e = omega arith in
    right 0 e (length before) 1 _ _ there (eq-eqb (get_or e (length before) 0) k (get_or-append_seam before k (ks ++ behind) 0))
    ∙ sym (ap₂ (λ (i : ℕ) (t : List ℕ). key_then i ks t o) n same) ∙ later

-- N, and whatever is behind it
module _ (n : ℕ) (js : List ℕ) where
  abbrev e : List ℕ
  e = klv (two n ++ js)

  head_read : (o : Outcome) → head_then e o ≡ o
  unfolding head_then key
  head_read o =
      let l = three_back (length (two n ++ js)) in
      key-read key [] (drop 16 e) _
      ∙ right 0 e 16 1 _ _ (omega arith) (eq-eqb (get_or e 16 0) 0x83 refl)
      ∙ right 0 e 17 3 _ _ (omega arith) (eq-eqb (20 + three_in e 17) (length e) (omega arith))
      ∙ right 0 e 20 2 _ _ (omega arith) refl

  count-back : two_in e 20 ≡ n
  unfolding key
  count-back = two_back n

  structures-back : drop 22 e ≡ js
  unfolding key
  structures-back = refl

-- the bytes of length and N, with what is behind them
headed : (a b c d f g l n : ℕ) (r js : List ℕ) → a ≡ 0x83 → b ≡ l / 65536 → c ≡ l / 256 % 256 → d ≡ l % 256 → f ≡ n / 256 → g ≡ n % 256 → r ≡ js
    → a ∷ b ∷ c ∷ d ∷ f ∷ g ∷ r ≡ 0x83 ∷ three l ++ two n ++ js
headed a b c d f g l n r js e0 e1 e2 e3 e4 e5 e6 = cc

-- with a head, N and what is behind it are an element; N is two bytes, the length three
pub record HeadOf (d : List ℕ) (n : ℕ) (js : List ℕ) : Type 0 where
  pub few : n < 65536
  pub short : length (two n ++ js) < 16777216
  pub bytes : d ≡ klv (two n ++ js)

head-written : (d : List ℕ) (n : ℕ) (js : List ℕ) → Bytes d → Head d → n ≡ two_in d 20 → drop 22 d ≡ js → HeadOf d n js
unfolding key
head-written d n js hd h m w =
    let b1 = hd 18 in
    let b2 = hd 19 in
    let b0 = hd 17 in
    let a0 = hd 20 in
    let a1 = hd 21 in
    let s = h.measured in
    let l = length-drop 22 d in
    let k = ap length w in
    let there = h.counted in
    let v : length (two n ++ js) ≡ three_in d 17 = omega arith in
    let e = two-split (get_or d 20 0) (get_or d 21 0) a1 in
    let t0 : three_in d 17 / 65536 ≡ get_or d 17 0 = omega arith in
    let t1 : three_in d 17 / 256 % 256 ≡ get_or d 18 0 =
    let q : three_in d 17 / 256 ≡ get_or d 17 0 * 256 + get_or d 18 0 = omega arith in rw q (omega arith) in
    let t2 : three_in d 17 % 256 ≡ get_or d 19 0 = omega arith in
    let r =
    headed (get_or d 16 0) (get_or d 17 0) (get_or d 18 0) (get_or d 19 0) (get_or d 20 0) (get_or d 21 0) (length (two n ++ js)) n (drop 22 d) js
    h.long_form
    (sym t0 ∙ ap (λ (x : ℕ). x / 65536) (sym v))
    (sym t1 ∙ ap (λ (x : ℕ). x / 256 % 256) (sym v))
    (sym t2 ∙ ap (λ (x : ℕ). x % 256) (sym v))
    (sym e.0 ∙ ap (λ (x : ℕ). x / 256) (sym m))
    (sym e.1 ∙ ap (λ (x : ℕ). x % 256) (sym m))
    w in
    record {
      few = omega arith;
      short = omega arith;
      bytes =
          sym (take-append-drop 16 d)
          ∙ ap₂ (λ (a b : List ℕ). a ++ b) h.keyed (firsts 6 16 d (omega arith) ∙ r);
    }

-- ---- an element of structures

-- what holds of every item's packet
pub packets-give : {X : Type 0} (packet : X → Packet) (Held : X → Type 0) (P : Packet → Type 0) → ((x : X) → Held x → P (packet x))
    → (xs : List X) → All Held xs → All P (map packet xs)
packets-give packet Held P h [] none = none
packets-give packet Held P h (x ∷ xs) (one g gs) = one (h x g) (packets-give packet Held P h xs gs)

-- items: the structure of each, the packet that it stands for, and the item that a structure shows
module _ {X : Type 0} (c : Coding) (sys : ℕ) (fi : Bool) (structure : X → List ℕ) (packet : X → Packet) (item : List ℕ → X) (Held : X → Type 0) where
  -- what is written is read, before anything; and what is read was written
  pub record Kind : Type 0 where
    pub passes : (x : X) (r : List ℕ) → Held x → (at : ℕ) (o : Outcome)
        → front_then c sys at (structure x ++ r) (array_then c at (structure x ++ r) o) ≡ o
    pub shows : (x : X) (r : List ℕ) → Held x → packet_in c sys fi (structure x ++ r) ≡ packet x
    pub rest : (x : X) (r : List ℕ) → Held x → drop (size_in (structure x ++ r)) (structure x ++ r) ≡ r
    pub finds : (x : X) (r : List ℕ) → Held x → item (structure x ++ r) ≡ x
    pub found : (s : List ℕ) → packet (item s) ≡ packet_in c sys fi s
    pub held : (s : List ℕ) → Bytes s → Structure c sys s → allowed (system sys) (two_in s 0) ≡ true → Held (item s)
    pub whole : (s : List ℕ) → Bytes s → Structure c sys s → s ≡ structure (item s) ++ drop (size_in s) s

  -- e is the element of these items
  pub record ElementBy (xs : List X) (e : List ℕ) : Type 0 where
    pub held : All Held xs
    pub head : HeadOf e (length xs) (joined structure xs)

  -- s is the structures of n held items, which stand for ps
  record StructuresOf (n : ℕ) (s : List ℕ) (ps : List Packet) : Type 0 where
    items : List X
    packets : map packet items ≡ ps
    count : length items ≡ n
    held : All Held items
    whole : s ≡ joined structure items

  -- the items that structures show
  abbrev items_from : ℕ → List ℕ → List X
  items_from zero s = []
  items_from (suc n) s = item s ∷ items_from n (drop (size_in s) s)

  module _ (k : Kind) where
    structures-read : (xs : List X) (at : ℕ) → All Held xs
        → structures c sys fi (length xs) at (joined structure xs) ≡ listed (map packet xs)
    structures-read [] at none = refl
    structures-read (x ∷ xs) at (one g gs) =
        let r : List ℕ = joined structure xs in
        let s : List ℕ = structure x ++ r in
        k.passes x r g at _
        ∙ ap₂ also (k.shows x r g) (ap (structures c sys fi (length xs) (at + size_in s)) (k.rest x r g) ∙ structures-read xs (at + size_in s) gs)

    structures-items : (xs : List X) → All Held xs → items_from (length xs) (joined structure xs) ≡ xs
    structures-items [] none = refl
    structures-items (x ∷ xs) (one g gs) =
        let r : List ℕ = joined structure xs in
        ap₂ (λ (y : X) (ys : List X). y ∷ ys) (k.finds x r g) (ap (items_from (length xs)) (k.rest x r g) ∙ structures-items xs gs)

    structures-written : (n at : ℕ) (s : List ℕ) (ps : List Packet) → Bytes s → structures c sys fi n at s ≡ listed ps
        → All (OnAllowed (system sys)) ps → StructuresOf n s ps
    structures-written zero at [] ps hs e fine = record { items = []; packets = cc; count = refl; held = none; whole = refl }
    structures-written zero at (b ∷ s) ps hs e fine = never (cc)
    structures-written (suc n) at s ps hs e fine =
        let m = structures-listed c sys fi n at s ps e in
        let w = first_rest (packet_in c sys fi s) m.rest (subst (All (OnAllowed (system sys))) m.front fine) in
        let later = structures-written n (at + size_in s) (drop (size_in s) s) m.rest (drop-bytes (size_in s) s hs) m.later w.1 in
        record {
          items = item s ∷ later.items;
          packets = ap₂ (λ (q : Packet) (qs : List Packet). q ∷ qs) (k.found s) later.packets ∙ sym m.front;
          count = ap suc later.count;
          held = one (k.held s hs m.structure w.0) later.held;
          whole = k.whole s hs m.structure ∙ ap (λ (r : List ℕ). structure (item s) ++ r) later.whole;
        }
      where
        first_rest : (p : Packet) (qs : List Packet) → All (OnAllowed (system sys)) (p ∷ qs)
            → (allowed (system sys) p.line ≡ true) × All (OnAllowed (system sys)) qs
        first_rest p qs (one a rest) = (a, rest)

    -- what is given is read
    pub element-read : (xs : List X) (e : List ℕ) → ElementBy xs e → judged_as c sys fi e ≡ listed (map packet xs)
    unfolding judged_as
    element-read xs e g =
        let js : List ℕ = joined structure xs in
        ap (judged_as c sys fi) g.head.bytes
        ∙ head_read (length xs) js _
        ∙ ap₂ (λ (n : ℕ) (s : List ℕ). structures c sys fi n 22 s) (count-back (length xs) js) (structures-back (length xs) js)
        ∙ structures-read xs 22 g.held

    -- from one list only
    pub element-one : (xs ys : List X) (e : List ℕ) → ElementBy xs e → ElementBy ys e → xs ≡ ys
    element-one xs ys e g h = sym (shown xs g) ∙ shown ys h
      where
        shown : (zs : List X) → ElementBy zs e → items_from (two_in e 20) (drop 22 e) ≡ zs
        shown zs g =
            let js : List ℕ = joined structure zs in
            ap (λ (d : List ℕ). items_from (two_in d 20) (drop 22 d)) g.head.bytes
            ∙ ap₂ items_from (count-back (length zs) js) (structures-back (length zs) js)
            ∙ structures-items zs g.held

    -- what is read was given
    pub element-written : (e : List ℕ) (ps : List Packet) → Bytes e → judged_as c sys fi e ≡ listed ps → All (OnAllowed (system sys)) ps
        → (xs : List X) × (map packet xs ≡ ps) × ElementBy xs e
    element-written e ps he z fine =
        let h = judged-listed c sys fi e ps z in
        let w = structures-written (two_in e 20) 22 (drop 22 e) ps (drop-bytes 22 e he) h.later fine in
        let head = head-written e (length w.items) (joined structure w.items) he h.head w.count w.whole in
        (w.items, w.packets, record { held = w.held; head = head })

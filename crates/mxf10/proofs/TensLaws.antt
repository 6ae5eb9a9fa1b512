-- Ten-bit samples in bytes (004, 5.4.4): three in the high-order 30 bits of 32, by numbers of 32 bits as in the definitions, and byte by byte as
-- in the code.
--
-- In order: words of ten bits; four bytes; the samples are below 1024, the bytes below 256; back; what is behind; numbers at a
-- place; the loops of `pack` and `unpack`.
-- Assumes nothing.
use Prim.Native.Nat.{ℕ, zero, suc, ◌+◌, ◌-◌, ◌*◌, ◌/◌, ◌%◌, ◌≤◌, ◌<◌}
use mathlib.Core.Path.{◌≡◌, refl, sym, ap, ap₂, ◌∙◌}
use mathlib.Core.Bool.{true}
use mathlib.Core.List.{List, [], ◌∷◌, ◌++◌}
use native.Mathlib.Omega.{arith}
use native.Mathlib.Numerals.{add-one, add-two, add-three}
use lib.ListN.{length, get_or, take, drop, set}
use lib.Seq.{sets, drop-cons, length-take-le}
use borrow.Author.Tests.{leb-true, le-leb}
use Rattle.rules.specs.Base.{Bytes}
use Rattle.rules.specs.Found.{is_ten, are_ten}
use Rattle.rules.proofs.Basics.{both, append-below, sets-append}
use Rattle.mxf.specs.Element.{ten, four}
use Rattle.mxf.specs.Judging.{four_in, unpacked, samples_in, array_for}
use Rattle.mxf.proofs.Tens.{samples-length}
use Rattle.mxf.proofs.WritingLaws.{over-all}
use Rattle.mxf10.specs.Element.{packed, tens}
use Rattle.mxf10.specs.FoundTens.{tens-length}

-- ---- words of ten bits

pub ten-first : (w : ℕ) (ws : List ℕ) → are_ten (w ∷ ws) ≡ true → (w < 1024) × (are_ten ws ≡ true)
ten-first w ws h = let e = both (is_ten w) (are_ten ws) h in (let l = leb-true w 0x3FF e.0 in omega arith, e.1)

pub ten-more : (w : ℕ) (ws : List ℕ) → w < 1024 → are_ten ws ≡ true → are_ten (w ∷ ws) ≡ true
ten-more w ws l h = let e : is_ten w ≡ true = le-leb w 0x3FF (omega arith) in rw e h

pub ten-at : (ws : List ℕ) → are_ten ws ≡ true → (i : ℕ) → get_or ws i 0 < 1024
ten-at [] h i = omega arith
ten-at (w ∷ ws) h zero = (ten-first w ws h).0
ten-at (w ∷ ws) h (suc i) = ten-at ws (ten-first w ws h).1 i

-- ---- four bytes

-- of three samples
module _ (a b c : ℕ) (hb : b < 1024) (hc : c < 1024) where
  abbrev bytes_of : List ℕ
  bytes_of = a / 4 ∷ (a % 4 * 64 + b / 16) ∷ (b % 16 * 16 + c / 64) ∷ c % 64 * 4 ∷ []

  byte-0 : packed a b c / 16777216 ≡ a / 4
  byte-0 = omega arith

  byte-1 : packed a b c / 65536 % 256 ≡ a % 4 * 64 + b / 16
  byte-1 = let e : packed a b c / 65536 ≡ a * 64 + b / 16 = omega arith in rw e (omega arith)

  byte-2 : packed a b c / 256 % 256 ≡ b % 16 * 16 + c / 64
  byte-2 = let e : packed a b c / 256 ≡ a * 16384 + b * 16 + c / 64 = omega arith in rw e (omega arith)

  byte-3 : packed a b c % 256 ≡ c % 64 * 4
  byte-3 = omega arith

  pub four-packed : four (packed a b c) ≡ bytes_of
  four-packed = rw (byte-0, byte-1, byte-2, byte-3)

  -- and back
  pub packed-back : unpacked (four_in (four (packed a b c)) 0) ≡ a ∷ b ∷ c ∷ []
  packed-back =
      let e : four_in bytes_of 0 ≡ packed a b c = omega arith in
      let x : packed a b c / 4194304 ≡ a = omega arith in
      let m : packed a b c / 4096 ≡ a * 1024 + b = omega arith in
      let y : packed a b c / 4096 % 1024 ≡ b = rw m (omega arith) in
      let l : packed a b c / 4 ≡ (a * 1024 + b) * 1024 + c = omega arith in
      let z : packed a b c / 4 % 1024 ≡ c = rw l (omega arith) in
      ap (λ (s : List ℕ). unpacked (four_in s 0)) four-packed ∙ ap unpacked e ∙ rw (x, y, z)

-- the three samples of four bytes
module _ (a b c d : ℕ) (hb : b < 256) (hc : c < 256) (hd : d < 256) where
  abbrev number : ℕ
  number = four_in (a ∷ b ∷ c ∷ d ∷ []) 0

  sample-0 : number / 4194304 ≡ a * 4 + b / 64
  sample-0 = omega arith

  sample-1 : number / 4096 % 1024 ≡ b % 64 * 16 + c / 16
  sample-1 = let e : number / 4096 ≡ a * 4096 + b * 16 + c / 16 = omega arith in rw e (omega arith)

  sample-2 : number / 4 % 1024 ≡ c % 16 * 64 + d / 4
  sample-2 = let e : number / 4 ≡ a * 4194304 + b * 16384 + c * 64 + d / 4 = omega arith in rw e (omega arith)

  pub four-unpacked : unpacked number ≡ (a * 4 + b / 64) ∷ (b % 64 * 16 + c / 16) ∷ (c % 16 * 64 + d / 4) ∷ []
  four-unpacked = rw (sample-0, sample-1, sample-2)

-- ---- the samples are below 1024, the bytes below 256

pub samples-ten : (s : List ℕ) → Bytes s → are_ten (samples_in s) ≡ true
samples-ten [] h = refl
samples-ten (a ∷ []) h = refl
samples-ten (a ∷ b ∷ []) h = refl
samples-ten (a ∷ b ∷ c ∷ []) h = refl
samples-ten (a ∷ b ∷ c ∷ d ∷ s) h =
    let n : ℕ = four_in (a ∷ b ∷ c ∷ d ∷ []) 0 in
    let ha : a < 256 = h 0 in
    let hb : b < 256 = h 1 in
    let hc : c < 256 = h 2 in
    let hd : d < 256 = h 3 in
    let below : n < 4294967296 = omega arith in
    ten-more (n / 4194304) (n / 4096 % 1024 ∷ n / 4 % 1024 ∷ samples_in s) (omega arith)
    (ten-more (n / 4096 % 1024) (n / 4 % 1024 ∷ samples_in s) (omega arith)
    (ten-more (n / 4 % 1024) (samples_in s) (omega arith) (samples-ten s (λ i. h (suc (suc (suc (suc i))))))))

four_bytes : (n : ℕ) → n < 4294967296 → Bytes (four n)
four_bytes n h zero = omega arith
four_bytes n h (suc zero) = omega arith
four_bytes n h (suc (suc zero)) = omega arith
four_bytes n h (suc (suc (suc zero))) = omega arith
four_bytes n h (suc (suc (suc (suc i)))) = omega arith

pub tens-bytes : (ws : List ℕ) → are_ten ws ≡ true → Bytes (tens ws)
tens-bytes [] h = λ i. omega arith
tens-bytes (a ∷ []) h = let ha = (ten-first a [] h).0 in four_bytes (packed a 0 0) (omega arith)
tens-bytes (a ∷ b ∷ []) h =
    let x = ten-first a (b ∷ []) h in
    let ha = x.0 in
    let hb = (ten-first b [] x.1).0 in
    four_bytes (packed a b 0) (omega arith)
tens-bytes (a ∷ b ∷ c ∷ ws) h =
    let x = ten-first a (b ∷ c ∷ ws) h in
    let y = ten-first b (c ∷ ws) x.1 in
    let z = ten-first c ws y.1 in
    let ha = x.0 in
    let hb = y.0 in
    let hc = z.0 in
    append-below 256 (four (packed a b c)) (tens ws) (four_bytes (packed a b c) (omega arith)) (tens-bytes ws z.1)

-- ---- back

pub tens-back : (ws : List ℕ) → are_ten ws ≡ true → take (length ws) (samples_in (tens ws)) ≡ ws
tens-back [] h = refl
tens-back (a ∷ []) h = ap (take 1) (packed-back a 0 0 (omega arith) (omega arith))
tens-back (a ∷ b ∷ []) h =
    let x = ten-first a (b ∷ []) h in
    ap (take 2) (packed-back a b 0 (ten-first b [] x.1).0 (omega arith))
tens-back (a ∷ b ∷ c ∷ ws) h =
    let x = ten-first a (b ∷ c ∷ ws) h in
    let y = ten-first b (c ∷ ws) x.1 in
    let z = ten-first c ws y.1 in
    ap (λ (r : List ℕ). take (length (a ∷ b ∷ c ∷ ws)) (r ++ samples_in (tens ws))) (packed-back a b c y.0 z.0)
    ∙ ap (λ (r : List ℕ). a ∷ b ∷ c ∷ r) (tens-back ws z.1)

-- ---- what is behind

-- samples that lie within the first part are its own
pub samples-append : (s r : List ℕ) (n : ℕ) → array_for ten n ≤ length s → take n (samples_in (s ++ r)) ≡ take n (samples_in s)
samples-append s r zero h = refl
samples-append [] r (suc n) h = absurd (omega arith)
samples-append (a ∷ []) r (suc n) h = absurd (omega arith)
samples-append (a ∷ b ∷ []) r (suc n) h = absurd (omega arith)
samples-append (a ∷ b ∷ c ∷ []) r (suc n) h = absurd (omega arith)
samples-append (a ∷ b ∷ c ∷ d ∷ s) r (suc zero) h = refl
samples-append (a ∷ b ∷ c ∷ d ∷ s) r (suc (suc zero)) h = refl
samples-append (a ∷ b ∷ c ∷ d ∷ s) r (suc (suc (suc n))) h =
    ap (λ (t : List ℕ). unpacked (four_in (a ∷ b ∷ c ∷ d ∷ []) 0) ++ t) (samples-append s r n (omega arith))

-- ---- numbers at a place

module _ (s : List ℕ) (i : ℕ) where
  drop-one : i + 1 ≤ length s → drop i s ≡ get_or s i 0 ∷ drop (i + 1) s
  drop-one h = rw (add-one i) (drop-cons s i 0 (omega arith))

  drop-two : i + 2 ≤ length s → drop i s ≡ get_or s i 0 ∷ get_or s (i + 1) 0 ∷ drop (i + 2) s
  drop-two h =
      let e : i + 2 ≡ suc (i + 1) = omega arith in
      drop-one (omega arith) ∙ ap (λ (r : List ℕ). get_or s i 0 ∷ r) (rw e (drop-cons s (i + 1) 0 (omega arith)))

  drop-three : i + 3 ≤ length s → drop i s ≡ get_or s i 0 ∷ get_or s (i + 1) 0 ∷ get_or s (i + 2) 0 ∷ drop (i + 3) s
  drop-three h =
      let e : i + 3 ≡ suc (i + 2) = omega arith in
      drop-two (omega arith) ∙ ap (λ (r : List ℕ). get_or s i 0 ∷ get_or s (i + 1) 0 ∷ r) (rw e (drop-cons s (i + 2) 0 (omega arith)))

  drop-four : i + 4 ≤ length s → drop i s ≡ get_or s i 0 ∷ get_or s (i + 1) 0 ∷ get_or s (i + 2) 0 ∷ get_or s (i + 3) 0 ∷ drop (i + 4) s
  drop-four h =
      let e : i + 4 ≡ suc (i + 3) = omega arith in
      drop-three (omega arith)
      ∙ ap (λ (r : List ℕ). get_or s i 0 ∷ get_or s (i + 1) 0 ∷ get_or s (i + 2) 0 ∷ r) (rw e (drop-cons s (i + 3) 0 (omega arith)))

-- ---- the loop of `pack`: the bytes of the words that are left, stored behind the others, give the whole

pub pack-all : (ws out : List ℕ) → length out ≡ array_for ten (length ws) → sets out 0 (tens ws) ≡ tens ws
pack-all ws out h = over-all (tens ws) out (h ∙ sym (tens-length ws))

-- the same at other names of the places
pub pack-at : (ws out goal : List ℕ) (i o j p : ℕ) → i ≡ j → o ≡ p → sets out o (tens (drop i ws)) ≡ goal → sets out p (tens (drop j ws)) ≡ goal
pack-at ws out goal i o j p e f was = sym (ap₂ (λ (n m : ℕ). sets out n (tens (drop m ws))) f e) ∙ was

module _ (ws out goal : List ℕ) (i o : ℕ) (was : sets out o (tens (drop i ws)) ≡ goal) where
  abbrev a : ℕ
  a = get_or ws i 0

  abbrev b : ℕ
  b = get_or ws (i + 1) 0

  abbrev c : ℕ
  c = get_or ws (i + 2) 0

  left : (r : List ℕ) → drop i ws ≡ r → sets out o (tens r) ≡ goal
  left r e = ap (λ (t : List ℕ). sets out o (tens t)) (sym e) ∙ was

  pub pack-turn : (after : List ℕ) → after ≡ sets out o (four (packed a b c)) → i + 3 ≤ length ws
      → sets after (o + 4) (tens (drop (i + 3) ws)) ≡ goal
  pack-turn after e h =
      ap (λ (t : List ℕ). sets t (o + 4) (tens (drop (i + 3) ws))) e
      ∙ sym (sets-append (four (packed a b c)) (tens (drop (i + 3) ws)) out o)
      ∙ left (a ∷ b ∷ c ∷ drop (i + 3) ws) (drop-three ws i h)

-- ---- the loop of `unpack`: the samples of the bytes that are left, n - i of them, stored behind the others, give the whole

pub unpack-all : (s out : List ℕ) (n m : ℕ) → n ≡ length out → m ≡ n → array_for ten n ≤ length s
    → sets out 0 (take m (samples_in s)) ≡ take n (samples_in s)
unpack-all s out n m e f h =
    rw f (over-all (take n (samples_in s)) out (sym e ∙ sym (length-take-le n (samples_in s) (samples-length s n h))))

-- the same at other names of the places
pub unpack-at : (s out goal : List ℕ) (n i o j p : ℕ) → i ≡ j → o ≡ p → sets out i (take (n - i) (samples_in (drop o s))) ≡ goal
    → sets out j (take (n - j) (samples_in (drop p s))) ≡ goal
unpack-at s out goal n i o j p e f was = sym (ap₂ (λ (m k : ℕ). sets out m (take (n - m) (samples_in (drop k s)))) e f) ∙ was

module _ (s out goal : List ℕ) (n i o : ℕ) (bytes : Bytes s) (was : sets out i (take (n - i) (samples_in (drop o s))) ≡ goal)
    (h : o + 4 ≤ length s) where
  abbrev x : ℕ
  x = get_or s o 0 * 4 + get_or s (o + 1) 0 / 64

  abbrev y : ℕ
  y = get_or s (o + 1) 0 % 64 * 16 + get_or s (o + 2) 0 / 16

  abbrev z : ℕ
  z = get_or s (o + 2) 0 % 16 * 64 + get_or s (o + 3) 0 / 4

  abbrev later : List ℕ
  later = samples_in (drop (o + 4) s)

  there : (k : ℕ) → n - i ≡ k → sets out i (take k (x ∷ y ∷ z ∷ later)) ≡ goal
  there k e =
      let f : samples_in (drop o s) ≡ x ∷ y ∷ z ∷ later =
      ap samples_in (drop-four s o h)
      ∙ ap (λ (r : List ℕ). r ++ later)
      (four-unpacked (get_or s o 0) (get_or s (o + 1) 0) (get_or s (o + 2) 0) (get_or s (o + 3) 0) (bytes (o + 1)) (bytes (o + 2)) (bytes (o + 3))) in
      sym (ap₂ (λ (m : ℕ) (r : List ℕ). sets out i (take m r)) e f) ∙ was

  pub unpack-turn : (u v w : ℕ) → u ≡ x → v ≡ y → w ≡ z → i + 3 ≤ n
      → sets (set (set (set out i u) (i + 1) v) (i + 2) w) (i + 3) (take (n - (i + 3)) later) ≡ goal
  unpack-turn u v w eu ev ew e =
      rw (eu, ev, ew, add-one i, add-two i, add-three i) (there (suc (suc (suc (n - (suc (suc (suc i))))))) (omega arith))

  -- two that are left, or one
  pub unpack-two : (u v : ℕ) → u ≡ x → v ≡ y → i + 2 ≡ n → set (set out i u) (i + 1) v ≡ goal
  unpack-two u v eu ev e = rw (eu, ev, add-one i) (there 2 (omega arith))

  pub unpack-one : (u : ℕ) → u ≡ x → i + 1 ≡ n → set out i u ≡ goal
  unpack-one u eu e = rw eu (there 1 (omega arith))

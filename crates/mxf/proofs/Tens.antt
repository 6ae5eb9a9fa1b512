-- A structure of ten-bit samples that has passed its tests shows a packet with as many user words as its DC says, and its words.
--
-- In order: how many samples there are; DC; the user words; the words; those of either coding.
-- Assumes nothing.
use Prim.Native.Nat.{ℕ, ◌+◌, ◌*◌, ◌/◌, ◌%◌, ◌≤◌}
use mathlib.Core.Path.{◌≡◌, refl, sym, ap, ap₂, ◌∙◌}
use mathlib.Core.Bool.{Bool}
use mathlib.Core.List.{List, [], ◌∷◌, ◌++◌, map, append-nil}
use native.Mathlib.Numerals.{add-three}
use native.Mathlib.Omega.{arith}
use lib.ListN.{length, get_or, take, drop, length-drop, length-map, drop_of_length-le}
use lib.Seq.{length-take-le, get_or-take, drop-cons}
use Rattle.rules.specs.Packet.{body, word, check, coded, check_of, words}
use Rattle.rules.specs.Danc.{bytes_of}
use Rattle.rules.specs.Laying.{low}
use Rattle.rules.specs.Found.{found_of_words}
use Rattle.rules.proofs.Found.{found-whole}
use Rattle.sheet.specs.Write.{framed}
use Rattle.mxf.specs.Element.{Coding, eight, ten}
use Rattle.mxf.specs.Judging.{two_in, samples_in, array_for, dc_in, packet_in}
use Rattle.mxf.specs.Parts.{Whole, beside, words_by}
use Rattle.mxf.proofs.JudgingLaws.{two-drop, eight-long}

-- ---- how many samples there are

pub samples-count : (s : List ℕ) → length (samples_in s) ≡ 3 * (length s / 4)
samples-count [] = refl
samples-count (a ∷ []) = refl
samples-count (a ∷ b ∷ []) = refl
samples-count (a ∷ b ∷ c ∷ []) = refl
samples-count (a ∷ b ∷ c ∷ d ∷ s) = let e = samples-count s in omega arith

pub samples-length : (s : List ℕ) (n : ℕ) → array_for ten n ≤ length s → n ≤ length (samples_in s)
samples-length s n h = let e = samples-count s in omega arith

-- ---- DC

-- what stands in front of the last two bytes is not in DC's low byte
low_bits : (h m : ℕ) → (h * 65536 + m) / 4 % 1024 % 256 ≡ m / 4 % 256
low_bits h m =
    let q : (h * 65536 + m) / 4 ≡ h * 16384 + m / 4 = omega arith in
    let r : (h * 16384 + m / 4) % 1024 % 256 ≡ m / 4 % 256 = omega arith in
    ap (λ (x : ℕ). x % 1024 % 256) q ∙ r

-- the third sample
third : (s : List ℕ) → 4 ≤ length s → low (get_or (samples_in s) 2 0) ≡ two_in s 2 / 4 % 256
third [] l = absurd (omega arith)
third (a ∷ []) l = absurd (omega arith)
third (a ∷ b ∷ []) l = absurd (omega arith)
third (a ∷ b ∷ c ∷ []) l = absurd (omega arith)
third (a ∷ b ∷ c ∷ d ∷ s) l =
    let e : a * 16777216 + (b * 65536 + (c * 256 + d)) ≡ (a * 256 + b) * 65536 + (c * 256 + d) = omega arith in
    ap (λ (x : ℕ). x / 4 % 1024 % 256) e ∙ low_bits (a * 256 + b) (c * 256 + d)

-- wherever it is among so many samples of a structure
pub dc-sample : (s : List ℕ) (n : ℕ) → 3 ≤ n → 18 ≤ length s → low (get_or (take n (samples_in (drop 14 s))) 2 0) ≡ dc_in ten s
dc-sample s n h l =
    ap low (get_or-take n (samples_in (drop 14 s)) 2 0 (omega arith))
    ∙ third (drop 14 s) (let k = length-drop 14 s in omega arith)
    ∙ ap (λ (x : ℕ). x / 4 % 256) (two-drop 14 2 s)

-- ---- the user words

module _ (sys : ℕ) (fi : Bool) (s : List ℕ) (w : Whole ten s) where
  abbrev shown : List ℕ
  shown = take (two_in s 4) (samples_in (drop 14 s))

  array_long : array_for ten (two_in s 4) ≤ length (drop 14 s)
  array_long =
      let l = length-drop 14 s in
      let h = w.there in
      let r = w.room in
      omega arith

  pub shown-long : length shown ≡ two_in s 4
  shown-long = length-take-le (two_in s 4) (samples_in (drop 14 s)) (samples-length (drop 14 s) (two_in s 4) array_long)

  pub dc-shown : low (get_or shown 2 0) ≡ dc_in ten s
  dc-shown = let d = w.dc in let a = w.room in let b = w.there in dc-sample s (two_in s 4) (omega arith) (omega arith)

  pub user-long : length (packet_in ten sys fi s).user ≡ dc_in ten s
  user-long =
      let d = w.dc in
      let m = shown-long in
      let e = dc-shown in
      let l = length-drop 3 shown in
      length-map (take (low (get_or shown 2 0)) (drop 3 shown)) low
      ∙ length-take-le (low (get_or shown 2 0)) (drop 3 shown) (omega arith)
      ∙ e

  -- the words of a packet: ADF beside its samples, CS among them
  pub ten-long : bytes_of (packet_in ten sys fi s) ≡ two_in s 4 + 3
  ten-long =
      let d = w.dc in
      let u = user-long in
      omega arith

-- ---- the words

-- the samples of a structure without fault, behind the flag
packet-whole : (sys : ℕ) (fi : Bool) (s : List ℕ) → Whole ten s
    → words (packet_in ten sys fi s) ≡ 0x000 ∷ 0x3FF ∷ 0x3FF ∷ take (two_in s 4) (samples_in (drop 14 s))
unfolding words coded check_of
packet-whole sys fi s w =
    let shown : List ℕ = 0x000 ∷ 0x3FF ∷ 0x3FF ∷ take (two_in s 4) (samples_in (drop 14 s)) in
    let l = shown-long sys fi s w in
    let d = dc-shown sys fi s w in
    let n = w.dc in
    let all : length shown ≤ low (get_or shown 5 0) + 7 = omega arith in
    let none : drop (low (get_or shown 5 0) + 7) shown ≡ [] = drop_of_length-le shown all in
    sym
    (found-whole shown refl (omega arith)
    ∙ ap (λ (r : List ℕ). words (found_of_words shown) ++ r) none
    ∙ append-nil (words (found_of_words shown)))

-- ---- those of either coding

pub packet-long : (c : Coding) (sys : ℕ) (fi : Bool) (s : List ℕ) → Whole c s → bytes_of (packet_in c sys fi s) ≡ two_in s 4 + beside c
packet-long eight sys fi s w = eight-long sys fi s w
packet-long ten sys fi s w = ten-long sys fi s w

-- of 8 bits: "samples run from DID to the last user word"
eight-whole : (sys : ℕ) (fi : Bool) (t : List ℕ) (n : ℕ) → get_or t 16 0 + 3 ≡ n → 14 + n ≤ length t
    → words (packet_in eight sys fi t) ≡ framed (map word (take n (drop 14 t)))
unfolding words coded check_of framed
eight-whole sys fi t n e h =
    let d : ℕ = get_or t 16 0 in
    let l : length (take d (drop 17 t)) ≡ d = length-take-le d (drop 17 t) (let x = length-drop 17 t in omega arith) in
    let a : drop 14 t ≡ get_or t 14 0 ∷ get_or t 15 0 ∷ d ∷ drop 17 t =
    drop-cons t 14 0 (omega arith)
    ∙ ap (λ (r : List ℕ). get_or t 14 0 ∷ r) (drop-cons t 15 0 (omega arith))
    ∙ ap (λ (r : List ℕ). get_or t 14 0 ∷ get_or t 15 0 ∷ r) (drop-cons t 16 0 (omega arith)) in
    let b : take n (drop 14 t) ≡ body (packet_in eight sys fi t) =
    ap₂ take (sym e ∙ add-three d) a ∙ ap (λ (m : ℕ). get_or t 14 0 ∷ get_or t 15 0 ∷ m ∷ take d (drop 17 t)) (sym l) in
    ap (λ (r : List ℕ). 0x000 ∷ 0x3FF ∷ 0x3FF ∷ (map word r ++ check (map word r) ∷ [])) (sym b)

pub words-shown : (c : Coding) (sys : ℕ) (fi : Bool) (t : List ℕ) → Whole c t
    → words (packet_in c sys fi t) ≡ words_by c (two_in t 4) (drop 14 t)
words-shown eight sys fi t w = let r = w.room in let h = w.there in eight-whole sys fi t (two_in t 4) w.dc (omega arith)
words-shown ten sys fi t w = packet-whole sys fi t w

-- Bytes that are written and bytes that are kept, and the packs of 5 that stand in a run of bytes.
--
-- In order: what is kept from a place on; what stands at a place; packs; whole packs.
-- Assumes nothing.
use Prim.Native.Nat.{ℕ, zero, suc, ◌+◌, ◌-◌, ◌*◌, ◌/◌, ◌≤◌, ◌<◌}
use mathlib.Core.Path.{◌≡◌, sym, ap, ◌∙◌}
use mathlib.Core.List.{List, [], ◌∷◌, ◌++◌}
use native.Mathlib.Omega.{arith}
use native.Mathlib.Numerals.{add-one, add-two, add-three, add-four, add_five}
use lib.ListN.{length, get_or, take, drop, length-drop}
use lib.Seq.{drop-cons, length-take-le, take-take, take-append-add, drop-append-add, get_or-append-add, get_or-take, get_or-drop, drop-drop}
use Rattle.rules.specs.Packing1.{Five, five, flat, fives}
use Rattle.rules.proofs.Basics.{drop-take}
use Rattle.rules.proofs.Packs.{flat-fives, flat-length}
use Rattle.unpacking1.specs.Open.{packs_at, Within}

-- ---- what is kept from a place on

-- what is the same from a place on is the same from a later place on
module _ (s t : List ℕ) (a : ℕ) (e : drop a s ≡ drop a t) where
  pub kept-later : (b : ℕ) → a ≤ b → drop b s ≡ drop b t
  kept-later b h =
      let k : b ≡ a + (b - a) = omega arith in
      rw k (sym (drop-drop (b - a) a s) ∙ ap (drop (b - a)) e ∙ drop-drop (b - a) a t)

  -- so is the byte at the place
  pub kept_at : get_or s a 0 ≡ get_or t a 0
  kept_at =
      let k : a + 0 ≡ a = omega arith in
      rw (sym k) (sym (get_or-drop a s 0 0) ∙ ap (λ (l : List ℕ). get_or l 0 0) e ∙ get_or-drop a t 0 0)

  -- and so are the packs there
  pub kept-packs : (b end : ℕ) → a ≤ b → packs_at s b end ≡ packs_at t b end
  kept-packs b end h = ap (λ (l : List ℕ). fives (take (end - b) l)) (kept-later b h)

-- ---- what stands at a place

-- f stands in s at place w, behind a
module _ (s a f : List ℕ) (w : ℕ) (long : length a ≡ w) (laid : take (w + length f) s ≡ a ++ f) where
  -- its first bytes stand there too
  pub window-front : (m : ℕ) → m ≤ length f → take (w + m) s ≡ a ++ take m f
  window-front m h =
      sym (take-take (w + m) (w + length f) s (omega arith)) ∙ ap (take (w + m)) laid
      ∙ ap (λ (k : ℕ). take (k + m) (a ++ f)) (sym long) ∙ take-append-add a f m

  -- each of its bytes
  pub window-at : (i : ℕ) → i < length f → get_or s (w + i) 0 ≡ get_or f i 0
  window-at i h =
      sym (get_or-take (w + length f) s (w + i) 0 (omega arith)) ∙ ap (λ (l : List ℕ). get_or l (w + i) 0) laid
      ∙ ap (λ (k : ℕ). get_or (a ++ f) (k + i) 0) (sym long) ∙ get_or-append-add a f i 0

  -- each part of it
  pub window-part : (b e : ℕ) → e ≤ length f → take (e - b) (drop (w + b) s) ≡ drop b (take e f)
  window-part b e h =
      let k : e - b ≡ (w + e) - (w + b) = omega arith in
      ap (λ (n : ℕ). take n (drop (w + b) s)) k ∙ sym (drop-take (w + b) (w + e) s) ∙ ap (drop (w + b)) (window-front e h)
      ∙ ap (λ (n : ℕ). drop (n + b) (a ++ take e f)) (sym long) ∙ drop-append-add a (take e f) b

-- ---- packs

-- five bytes in front
front-five : (s : List ℕ) (a : ℕ) → a + 5 ≤ length s
    → drop a s ≡ get_or s a 0 ∷ get_or s (a + 1) 0 ∷ get_or s (a + 2) 0 ∷ get_or s (a + 3) 0 ∷ get_or s (a + 4) 0 ∷ drop (a + 5) s
front-five s a h =
    rw (
      add-one a,
      add-two a,
      add-three a,
      add-four a,
      add_five a,
      drop-cons s a 0 (omega arith),
      drop-cons s (suc a) 0 (omega arith),
      drop-cons s (suc (suc a)) 0 (omega arith),
      drop-cons s (suc (suc (suc a))) 0 (omega arith),
      drop-cons s (suc (suc (suc (suc a)))) 0 (omega arith),
    )

-- the pack at a place
abbrev pub pack_at : List ℕ → ℕ → Five
pack_at us at = five (get_or us at 0) (get_or us (at + 1) 0) (get_or us (at + 2) 0) (get_or us (at + 3) 0) (get_or us (at + 4) 0)

-- the first pack and those behind it
pub packs-cons : (us : List ℕ) (at end : ℕ) → at + 5 ≤ end → end ≤ length us → packs_at us at end ≡ pack_at us at ∷ packs_at us (at + 5) end
packs-cons us at end h l =
    let e : end - at ≡ suc (suc (suc (suc (suc (end - (at + 5)))))) = omega arith in
    rw (e, front-five us at (omega arith))

-- no bytes, no packs
pub packs-none : (us : List ℕ) (at end : ℕ) → end ≤ at → packs_at us at end ≡ []
packs-none us at end h = let e : end - at ≡ 0 = omega arith in rw e

-- the packs behind n
pub packs-drop : (n : ℕ) (us : List ℕ) (at end : ℕ) → at + 5 * n ≤ end → end ≤ length us
    → drop n (packs_at us at end) ≡ packs_at us (at + 5 * n) end
packs-drop zero us at end h l = let e : at ≡ at + 5 * 0 = omega arith in ap (λ (a : ℕ). packs_at us a end) e
packs-drop (suc n) us at end h l =
    let e : at + 5 + 5 * n ≡ at + 5 * suc n = omega arith in
    ap (drop (suc n)) (packs-cons us at end (omega arith) l) ∙ packs-drop n us (at + 5) end (omega arith) l
    ∙ ap (λ (a : ℕ). packs_at us a end) e

-- the first n packs
pub packs-take : (n : ℕ) (us : List ℕ) (at end : ℕ) → at + 5 * n ≤ end → end ≤ length us
    → take n (packs_at us at end) ≡ packs_at us at (at + 5 * n)
packs-take zero us at end h l = sym (packs-none us at (at + 5 * 0) (omega arith))
packs-take (suc n) us at end h l =
    let e : at + 5 + 5 * n ≡ at + 5 * suc n = omega arith in
    ap (take (suc n)) (packs-cons us at end (omega arith) l)
    ∙ ap (λ (ps : List Five). pack_at us at ∷ ps) (packs-take n us (at + 5) end (omega arith) l ∙ ap (packs_at us (at + 5)) e)
    ∙ sym (packs-cons us at (at + 5 * suc n) (omega arith) (omega arith))

-- ---- whole packs

module _ {us : List ℕ} {at end : ℕ} (w : Within us at end) where
  -- their bytes are there
  bytes-long : length (take (end - at) (drop at us)) ≡ end - at
  bytes-long =
      let a = w.all in
      let k : length (drop at us) ≡ length us - at = length-drop at us in
      length-take-le (end - at) (drop at us) (omega arith)

  -- they are the bytes that they were cut from
  pub packs-flat : flat (packs_at us at end) ≡ take (end - at) (drop at us)
  packs-flat =
      let m = w.whole in
      let n = bytes-long in
      flat-fives ((end - at) / 5) (take (end - at) (drop at us)) (omega arith)

  -- how many there are
  pub packs-length : 5 * length (packs_at us at end) ≡ end - at
  packs-length = sym (flat-length (packs_at us at end)) ∙ ap length packs-flat ∙ bytes-long

  -- there is one at least
  module _ (h : at < end) where
    -- the first has its five bytes
    first-room : at + 5 ≤ end
    first-room = let m = w.whole in omega arith

    -- it is the pack at the place
    pub first-pack : packs_at us at end ≡ pack_at us at ∷ packs_at us (at + 5) end
    first-pack = packs-cons us at end first-room w.all

    -- the others are whole
    pub behind-first : Within us (at + 5) end
    behind-first =
        let m = w.whole in
        let r = first-room in
        record { reach = r; all = w.all; whole = omega arith }

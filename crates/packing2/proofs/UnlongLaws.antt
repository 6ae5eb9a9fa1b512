-- Long packs as the code opens them.
--
-- In order: lists; bytes through a local array; packs by number; a pack opened; whole rows; the answer; the answer read; the loops over
-- rows and packs.
-- Assumes nothing.
use Prim.Native.Nat.{ℕ, zero, suc, ◌+◌, ◌-◌, ◌*◌, ◌%◌, ◌≤◌, ◌<◌}
use mathlib.Core.Path.{◌≡◌, refl, sym, ap, ◌∙◌, subst}
use mathlib.Core.Logic.{◌⊎◌, inl, inr}
use mathlib.Core.Bool.{Bool, true, false, cond, ◌&&◌, and-true, and_assoc}
use mathlib.Core.List.{List, [], ◌∷◌, ◌++◌, append_assoc}
use native.Mathlib.Nat.{add-zero}
use native.Mathlib.Omega.{arith}
use lib.Dec.{eqb, ltb}
use Rattle.std.proofs.Common.{Option, Some, None}
use lib.ListN.{length, get_or, take, drop, set, replicate, length-drop}
use lib.Seq.{sets, length-sets, get_or-take, get_or-drop, drop-drop, take-take, length-take-le}
use borrow.Author.Tests.{eq-eqb, ne_eqb}
use Rattle.rules.specs.Base.{all_is, sum, one}
use Rattle.rules.specs.Packing2.{Opened, opened, shut, onto, open_pack, open_long, string_room}
use Rattle.rules.proofs.Basics.{never, both, drop-take, sets-front, sets_behind, copy-turn}
use Rattle.rules.proofs.Long.{Roomy}
use Rattle.packing2.specs.Long.{rows_found, row_sizes, rows_sizes}
use Rattle.packing2.specs.declared.unlong.Opened.{Opened as Counts}
use Rattle.packing2.specs.Unlong.{opened_from, opened_of, Pulled, room_at, sizes_from, opened_on, go_on, pulled_down}
use Rattle.packing2.proofs.LongLaws.{Found, found_none, rows-none, sizes-rows, sum_rows, room-rows, roomy-row}

-- ---- lists

-- a part of what is not cut away
part-take : (a m t : ℕ) (l : List ℕ) → a + m ≤ t → take m (drop a (take t l)) ≡ take m (drop a l)
part-take a m t l h = ap (take m) (drop-take a t l) ∙ take-take m (t - a) (drop a l) (omega arith)

-- stores stand behind what was before them
sets-before : (xs l : List ℕ) (i n : ℕ) → length xs ≡ n → i + n ≤ length l → take (i + n) (sets l i xs) ≡ take i l ++ xs
sets-before xs l i n e h = subst (λ (m : ℕ). take (i + m) (sets l i xs) ≡ take i l ++ xs) e (sets-front l i xs (omega arith))

-- ---- bytes through a local array

-- a turn of the loop that takes bytes out
pub get-turn : (z a s : List ℕ) (from i : ℕ) → i < length z → from + i < length s → a ≡ take i (drop from s) ++ drop i z
    → set a i (get_or s (from + i) 0) ≡ take (i + 1) (drop from s) ++ drop (i + 1) z
get-turn z a s from i h k e =
    let l : i < length (drop from s) = simp length-drop (omega arith) in
    rw (← get_or-drop from s i 0) (copy-turn z a (drop from s) i h l e)

-- ---- packs by number

-- a pack has 72 or 42 string bytes
room-cases : (k : ℕ) → (room_at k ≡ 72) ⊎ (room_at k ≡ 42)
room-cases k = go (ltb k 8) (ltb k 16)
  where
    room : Bool → Bool → ℕ
    room a b = cond a 72 (cond b 42 72)

    go : (a b : Bool) → (room a b ≡ 72) ⊎ (room a b ≡ 42)
    go true b = inl refl
    go false true = inr refl
    go false false = inl refl

-- the packs of a row, by number
row-by-number : sizes_from 0 24 ≡ row_sizes
row-by-number = refl

-- ---- a pack opened

-- a string in front of what a pack gives
onto-pack : (s : List ℕ) (a b r : Bool) (t : List ℕ) (room : ℕ) (o : Opened) → onto s (open_pack a b r t room o) ≡ open_pack a b r (s ++ t) room o
onto-pack s false b r t room o = refl
onto-pack s true true r t room shut = refl
onto-pack s true true r t room (opened u d) = ap (λ (v : List ℕ). opened v d) (sym (append_assoc s t u))
onto-pack s true false true t room o = refl
onto-pack s true false false t room o = refl

-- what the last pack gives
last-pack : (f : Bool) (s : List ℕ) (room : ℕ) (o : Opened) → open_pack true false f s room o ≡ cond f (opened s room) shut
last-pack true s room o = refl
last-pack false s room o = refl

-- no string in front
onto-none : (o : Opened) → onto [] o ≡ o
onto-none shut = refl
onto-none (opened t d) = refl

-- the pack at `at`, from what the code holds: the buffer `us` has the first `len` string bytes at its start, and from `at` on still
-- the user bytes
module _ (n : ℕ) (ns us : List ℕ) (total at len : ℕ) (roomy : 3 ≤ n) (fits : at + (n + sum ns) ≡ total) (within : total ≤ length us)
    (low : len ≤ at) where
  -- a byte of the pack
  byte_at : (j : ℕ) → j < 3 → get_or (drop at (take total us)) j 0 ≡ get_or us (at + j) 0
  byte_at j h = get_or-drop at (take total us) j 0 ∙ get_or-take total us (at + j) 0 (omega arith)

  -- its string bytes
  abbrev body : List ℕ
  body = take (n - 3) (drop (at + 3) us)

  body_at : take (n - 3) (drop 3 (drop at (take total us))) ≡ body
  body_at = ap (take (n - 3)) (drop-drop 3 at (take total us)) ∙ part-take (at + 3) (n - 3) total us (omega arith)

  body-length : length body ≡ n - 3
  body-length = length-take-le (n - 3) (drop (at + 3) us) (simp length-drop (omega arith))

  -- the buffer with them pulled down
  abbrev pulled : List ℕ
  pulled = sets us len body

  pulled-front : take (len + (n - 3)) pulled ≡ take len us ++ body
  pulled-front = sets-before body us len (n - 3) body-length (omega arith)

  -- the later blocks are as they were
  pulled-later : drop (at + n) pulled ≡ drop (at + n) us
  pulled-later = let e = body-length in sets_behind us len body (at + n) (omega arith)

  later-at : drop (n - 3) (drop 3 (drop at (take total us))) ≡ drop (at + n) (take total pulled)
  later-at =
      let e : at + 3 + (n - 3) ≡ at + n = omega arith in
      rw (
        drop-drop 3 at (take total us),
        drop-drop (n - 3) (at + 3) (take total us),
        e,
        drop-take (at + n) total us,
        drop-take (at + n) total pulled,
        pulled-later,
      )

  -- all that is left opens as this pack says
  pack-opened : opened_on (n ∷ ns) total us at len
      ≡ open_pack
      (eqb (get_or us at 0) 0xE3)
      (eqb (get_or us (at + 1) 0 % 2) 1)
      (all_is 0xFF (drop (at + n) (take total pulled)))
      (take (len + (n - 3)) pulled)
      (n - 3)
      (open_long ns (drop (at + n) (take total pulled)))
  pack-opened =
      let z : at + 0 ≡ at = add-zero at in
      rw (onto-pack, byte_at 0 (omega arith), z, byte_at 1 (omega arith), body_at, later-at, ← pulled-front)

-- ---- whole rows

-- what is left of eight packs, as one and the others
pub eight-more : (i size : ℕ) → i < 8 → replicate (8 - i) size ≡ size ∷ replicate (8 - (i + 1)) size
eight-more i size h = let e : 8 - i ≡ suc (8 - (i + 1)) = omega arith in rw e

-- a turn of the loop that tests eight
pub test-turn : (ok : Bool) (us : List ℕ) (f i size : ℕ) → i < 8
    → (((ok && eqb (get_or us f 0) 0xE3) && eqb (get_or us (f + 1) 0 % 2) 1) && go_on (replicate (8 - (i + 1)) size) (drop (f + size) us))
    ≡ (ok && go_on (replicate (8 - i) size) (drop f us))
unfolding go_on
test-turn ok us f i size h =
    rw (eight-more i size h, get_or-drop f us 0 0, get_or-drop f us 1 0, add-zero f, drop-drop size f us) (simp and_assoc)

-- none is left
pub test-end : (ok : Bool) (ub : List ℕ) (i size : ℕ) → 8 ≤ i → (ok && go_on (replicate (8 - i) size) ub) ≡ ok
unfolding go_on
test-end ok ub i size h = let e : 8 - i ≡ 0 = omega arith in rw e (and-true ok)

-- a turn of the loop that pulls eight down
pub down_turn : (size i : ℕ) (us : List ℕ) (at len : ℕ) {us' : List ℕ} {at' len' : ℕ} → i < 8 → us' ≡ sets us len (take (size - 3) (drop (at + 3) us))
    → at' ≡ at + size → len' ≡ len + (size - 3)
    → pulled_down (replicate (8 - (i + 1)) size) us' at' len' ≡ pulled_down (replicate (8 - i) size) us at len
unfolding pulled_down
down_turn size i us at len h e a l = rw (eight-more i size h, e, a, l)

-- none is left
pub down-end : (size i : ℕ) (us : List ℕ) (at len : ℕ) → 8 ≤ i → pulled_down (replicate (8 - i) size) us at len ≡ us
unfolding pulled_down
down-end size i us at len h = let e : 8 - i ≡ 0 = omega arith in rw e

-- packs tested are the first of them, and those behind them
on-append : (ms ns ub : List ℕ) → go_on (ms ++ ns) ub ≡ (go_on ms ub && go_on ns (drop (sum ms) ub))
unfolding go_on
on-append [] ns ub = refl
on-append (n ∷ ms) ns ub = rw (on-append ms ns (drop n ub), drop-drop (sum ms) n ub) (simp and_assoc)

-- those of a row
pub row-tested : (us : List ℕ) (at : ℕ)
    → go_on row_sizes (drop at us)
    ≡ (go_on (replicate 8 75) (drop at us) && (go_on (replicate 8 45) (drop (at + 600) us) && go_on (replicate 8 75) (drop (at + 960) us)))
row-tested us at =
    rw (← drop-drop 600 at us, ← drop-drop 960 at us, ← drop-drop 360 600 (drop at us))
    (on-append (replicate 8 75) (replicate 8 45 ++ replicate 8 75) (drop at us)
    ∙ ap (λ (t : Bool). go_on (replicate 8 75) (drop at us) && t) (on-append (replicate 8 45) (replicate 8 75) (drop 600 (drop at us))))

-- packs pulled down are so too
down-append : (ms ns us : List ℕ) (at len : ℕ)
    → pulled_down (ms ++ ns) us at len ≡ pulled_down ns (pulled_down ms us at len) (at + sum ms) (len + string_room ms)
unfolding pulled_down
down-append [] ns us at len = rw (add-zero at, add-zero len)
down-append (n ∷ ms) ns us at len =
    let a : at + n + sum ms ≡ at + (n + sum ms) = omega arith in
    let b : len + (n - 3) + string_room ms ≡ len + (n - 3 + string_room ms) = omega arith in
    down-append ms ns (sets us len (take (n - 3) (drop (at + 3) us))) (at + n) (len + (n - 3)) ∙ rw (a, b)

-- those of a row
pub row-down : (us : List ℕ) (at len : ℕ) {us₁ us₂ us₃ : List ℕ} → us₁ ≡ pulled_down (replicate 8 75) us at len
    → us₂ ≡ pulled_down (replicate 8 45) us₁ (at + 600) (len + 576) → us₃ ≡ pulled_down (replicate 8 75) us₂ (at + 960) (len + 912)
    → us₃ ≡ pulled_down row_sizes us at len
row-down us at len {us₁} {us₂} p q r =
    let e : at + 600 + 360 ≡ at + 960 = omega arith in
    let d : len + 576 + 336 ≡ len + 912 = omega arith in
    let v = down-append (replicate 8 45) (replicate 8 75) us₁ (at + 600) (len + 576) in
    r ∙ sym (down-append (replicate 8 75) (replicate 8 45 ++ replicate 8 75) us at len ∙ rw (← p) (v ∙ rw (← q, e, d)))

-- packs that go on, pulled down, leave what all open to
opened-down : (ms ns us : List ℕ) (total at len : ℕ) → Roomy ms → at + sum (ms ++ ns) ≡ total → total ≤ length us → len ≤ at
    → go_on ms (drop at us) ≡ true
    → opened_on ns total (pulled_down ms us at len) (at + sum ms) (len + string_room ms) ≡ opened_on (ms ++ ns) total us at len
unfolding go_on pulled_down
opened-down [] ns us total at len r f w l g = rw (add-zero at, add-zero len)
opened-down (n ∷ ms) ns us total at len (one h r) f w l g =
    let us' : List ℕ = sets us len (take (n - 3) (drop (at + 3) us)) in
    let m : 3 ≤ n = omega arith in
    let b : length us' ≡ length us = length-sets us len (take (n - 3) (drop (at + 3) us)) in
    let p = pack-opened n (ms ++ ns) us total at len m f w l in
    let k = pulled-later n (ms ++ ns) us total at len m f w l in
    let x : at + n + sum ms ≡ at + (n + sum ms) = omega arith in
    let y : len + (n - 3) + string_room ms ≡ len + (n - 3 + string_room ms) = omega arith in
    let s = both (eqb (get_or us at 0) 0xE3) _ (rw (get_or-drop at us 0 0, add-zero at, get_or-drop at us 1 0, drop-drop n at us, ← k) at g) in
    let e = both (eqb (get_or us (at + 1) 0 % 2) 1) (go_on ms (drop (at + n) us')) s.1 in
    rw (← x, ← y, p, s.0, e.0) (opened-down ms ns us' total (at + n) (len + (n - 3)) r (omega arith) (omega arith) (omega arith) e.1)

-- a turn of the loop over rows: the row behind r others goes on and is pulled down
pub row-turn : (rows r : ℕ) (us : List ℕ) {us' : List ℕ} → r < rows → 1560 * rows ≤ length us → go_on row_sizes (drop (1560 * r) us) ≡ true
    → us' ≡ pulled_down row_sizes us (1560 * r) (1488 * r)
    → opened_on (rows_sizes (rows - (r + 1))) (1560 * rows) us' (1560 * (r + 1)) (1488 * (r + 1))
    ≡ opened_on (rows_sizes (rows - r)) (1560 * rows) us (1560 * r) (1488 * r)
row-turn rows r us h w g e =
    let n : rows - r ≡ suc (rows - (r + 1)) = omega arith in
    let s = sum_rows (rows - (r + 1)) in
    let a : 1560 * (r + 1) ≡ 1560 * r + 1560 = omega arith in
    let l : 1488 * (r + 1) ≡ 1488 * r + 1488 = omega arith in
    rw (n, a, l, e)
    (opened-down row_sizes (rows_sizes (rows - (r + 1))) us (1560 * rows) (1560 * r) (1488 * r) roomy-row (omega arith) w (omega arith) g)

-- ---- the answer

-- what a call that gives r, and leaves the buffer as us, has to show
abbrev pub Answer : Opened → Option Counts → List ℕ → Type 0
Answer o r us = (r ≡ opened_of o) × Pulled o us

-- nothing opens
shut-answer : (o : Opened) (us : List ℕ) → o ≡ shut → Answer o None us
shut-answer o us e = (sym (ap opened_of e), λ t d q. never (cc))

-- what the last pack gives
last-answer : (o : Opened) (f : Bool) (us : List ℕ) (len room : ℕ) (r : Option Counts) → o ≡ cond f (opened (take len us) room) shut
    → len ≤ length us → len ≤ 8928 → (room ≡ 72) ⊎ (room ≡ 42) → r ≡ cond f (Some (record { bytes = len; room = room })) None → Answer o r us
last-answer o true us len room r e h m d q = (
  q ∙ rw (e, length-take-le len us h),
  λ t y p.
      let s : take len us ≡ t = cc in
      let z : room ≡ y = cc in
      let l : length t ≡ len = sym (ap length s) ∙ length-take-le len us h in
      (rw l s, omega arith, subst (λ (n : ℕ). (n ≡ 72) ⊎ (n ≡ 42)) z d),
)
last-answer o false us len room r e h m d q = rw q (shut-answer o us e)

-- a system that is not known has no block
pub unknown-answer : (sys : ℕ) (us : List ℕ) → None ≡ rows_found sys → Answer (opened_from sys us) None us
unknown-answer sys us e =
    let z = found_none sys e in
    let n = rows-none sys z in
    shut-answer _ us (rw (sizes-rows sys, n))

-- ---- the answer read: what a caller has from it

-- none says that nothing opens
pub answer-none : (o : Opened) (us : List ℕ) → Answer o None us → o ≡ shut
answer-none shut us w = refl
answer-none (opened t d) us w = let e = w.0 in absurd (cc)

-- some are the string's length and the string bytes of the last pack
pub answer-some : (o : Opened) (p : Counts) (us : List ℕ) → Answer o (Some p) us → (o ≡ opened (take p.bytes us) p.room) × (p.bytes ≤ 8928)
answer-some shut p us w = let e = w.0 in absurd (cc)
answer-some (opened t d) p us w =
    let e = w.0 in
    let v = w.1 t d refl in
    let z : p ≡ record { bytes = length t; room = d } = cc in
    rw z (ap (λ (s : List ℕ). opened s d) (sym v.0), v.1)

-- ---- the loops over rows and packs

-- what is known at their heads: the packs still to come, of which ns are the sizes, from the user bytes still there, put onto the string so
-- far, are the whole
pub record Opening (o : Opened) (total : ℕ) (us : List ℕ) (at len : ℕ) (ns : List ℕ) : Type 0 where
  pub whole : at + sum ns ≡ total
  pub low : len ≤ at
  pub most : len + string_room ns ≤ 8928
  pub rest : opened_on ns total us at len ≡ o

-- they begin behind r rows that are pulled down
pub opening-start : (sys rows r : ℕ) (us₀ us : List ℕ) → Found sys rows → r ≤ rows
    → opened_on (rows_sizes (rows - r)) (1560 * rows) us (1560 * r) (1488 * r) ≡ opened_on (rows_sizes rows) (1560 * rows) us₀ 0 0
    → Opening (opened_from sys us₀) (1560 * rows) us (1560 * r) (1488 * r) (rows_sizes (rows - r))
opening-start sys rows r us₀ us found h q =
    let m = found.most in
    let s = sum_rows (rows - r) in
    let t = room-rows (rows - r) in
    let f : open_long (rows_sizes rows) (take (1560 * rows) us₀) ≡ opened_from sys us₀ = rw (sizes-rows sys, ← found.is, sum_rows rows) in
    record {
      whole = omega arith;
      low = omega arith;
      most = omega arith;
      rest = q ∙ onto-none (open_long (rows_sizes rows) (take (1560 * rows) us₀)) ∙ f;
    }

-- the packs of a row and of those behind it
abbrev pub row_left : ℕ → ℕ → List ℕ
row_left k more = sizes_from k (24 - k) ++ rows_sizes more

module _ {o : Opened} {total : ℕ} {us : List ℕ} {at len : ℕ} where
  -- a row more
  pub opening-row : (rows r : ℕ) → r < rows → Opening o total us at len (rows_sizes (rows - r))
      → Opening o total us at len (row_left 0 (rows - (r + 1)))
  opening-row rows r h w = let n : rows - r ≡ suc (rows - (r + 1)) = omega arith in rw n at w

  -- none of it is left
  pub opening-next : (k more : ℕ) → 24 ≤ k → Opening o total us at len (row_left k more) → Opening o total us at len (rows_sizes more)
  opening-next k more h w = let n : 24 - k ≡ 0 = omega arith in rw n at w

  -- no row is left, and no pack had END 0
  pub opening-end : (left : ℕ) → left ≤ 0 → Opening o total us at len (rows_sizes left) → Answer o None us
  opening-end zero h w = shut-answer o us (sym w.rest)
  opening-end (suc left) h w = absurd (omega arith)

-- a turn: the pack at `at` has number k and `room` string bytes
module _ {o : Opened} {total : ℕ} {us : List ℕ} {at len k : ℕ} (more : ℕ) (w : Opening o total us at len (row_left k more)) (h : k < 24)
    (long : total ≤ length us) {room : ℕ} (is : room ≡ room_at k) where
  -- the packs behind it
  abbrev behind : List ℕ
  behind = row_left (k + 1) more

  here : Opening o total us at len ((3 + room) ∷ behind)
  here =
      let n : 24 - k ≡ suc (24 - (k + 1)) = omega arith in
      let m : room_at k + 3 ≡ 3 + room = omega arith in
      rw m at (rw n at w)

  -- the pack lies within the user bytes
  pub turn-within : at + (3 + room) ≤ total
  turn-within = let e = here.whole in omega arith

  -- the buffer with its string bytes pulled down
  abbrev next-us : List ℕ
  next-us = sets us len (take room (drop (at + 3) us))

  -- what all opens to, by this pack
  turned : o
      ≡ open_pack
      (eqb (get_or us at 0) 0xE3)
      (eqb (get_or us (at + 1) 0 % 2) 1)
      (all_is 0xFF (drop (at + (3 + room)) (take total next-us)))
      (take (len + room) next-us)
      room
      (open_long behind (drop (at + (3 + room)) (take total next-us)))
  turned =
      let d : 3 + room - 3 ≡ room = omega arith in
      sym here.rest ∙ rw (pack-opened (3 + room) behind us total at len (omega arith) here.whole long here.low, d)

  -- it does not begin with E3h
  pub turn_gap : (get_or us at 0 ≡ 0xE3 → ⊥) → Answer o None us
  turn_gap g = shut-answer o us (turned ∙ rw (ne_eqb (get_or us at 0) 0xE3 g))

  -- it does, and its string bytes are pulled down
  module _ (mark : get_or us at 0 ≡ 0xE3) {us' : List ℕ} (p : us' ≡ sets us len (take (room_at k) (drop (at + 3) us))) where
    pulled-down : us' ≡ next-us
    pulled-down = p ∙ ap (λ (n : ℕ). sets us len (take n (drop (at + 3) us))) (sym is)

    -- every later user byte is FFh
    abbrev fill-behind : Bool
    fill-behind = all_is 0xFF (take (total - (at + (3 + room))) (drop (at + (3 + room)) us'))

    -- END is 0
    pub turn_last : get_or us (at + 1) 0 % 2 ≡ 0 → {r : Option Counts} → r ≡ cond fill-behind (Some (record { bytes = len + room; room = room })) None
        → Answer o r us'
    turn_last z {r} q = last-answer o fill-behind us' (len + room) room r opens fits short (rw is (room-cases k)) q
      where
        short : len + room ≤ 8928
        short = let m = here.most in omega arith

        fits : len + room ≤ length us'
        fits =
            let e : length us' ≡ length us = ap length pulled-down ∙ length-sets us len (take room (drop (at + 3) us)) in
            let f = w.low in
            let g = turn-within in
            omega arith

        opens : o ≡ cond fill-behind (opened (take (len + room) us') room) shut
        opens =
            turned
            ∙ rw (
              drop-take (at + (3 + room)) total next-us,
              eq-eqb (get_or us at 0) 0xE3 mark,
              ne_eqb (get_or us (at + 1) 0 % 2) 1 (λ q. omega arith),
              pulled-down,
              last-pack,
            )

    -- END is 1
    pub turn_more : (get_or us (at + 1) 0 % 2 ≡ 0 → ⊥) → Opening o total us' (at + (3 + room)) (len + room) behind
    turn_more z =
        let y : get_or us (at + 1) 0 % 2 ≡ 1 = omega arith in
        let f = w.low in
        let e = here.whole in
        let m = here.most in
        record {
          whole = omega arith;
          low = omega arith;
          most = omega arith;
          rest = sym (turned ∙ rw (eq-eqb (get_or us at 0) 0xE3 mark, eq-eqb (get_or us (at + 1) 0 % 2) 1 y, pulled-down));
        }

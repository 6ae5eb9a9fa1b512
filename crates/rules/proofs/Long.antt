-- Long packs: they are opened as they were laid, what opens was laid so, and the packs that stand are as many as counted.
--
-- In order: no string; length; laid, then opened; a string over the room; opened, so it was laid; bytes; the count.
-- Assumes nothing.
use Prim.Native.Nat.{ℕ, zero, suc, ◌+◌, ◌-◌, ◌*◌, ◌/◌, ◌%◌, ◌≤◌, ◌<◌}
use mathlib.Core.Path.{◌≡◌, refl, sym, ap, ap₂, ◌∙◌, subst}
use mathlib.Core.Logic.{◌⊎◌, inl, inr, ⊎_elim, ⊎_map, ◌≢◌, ◌↔◌}
use mathlib.Core.Bool.{Bool, true, false, cond}
use mathlib.Core.List.{List, [], ◌∷◌, ◌++◌, append_assoc, append-nil}
use native.Mathlib.Omega.{arith}
use lib.Dec.{eqb, leb, eqb-suc-zero}
use lib.ListN.{length, get_or, take, drop, length-append, length-take, length-drop, length-replicate, take-append-drop}
use lib.ListN.{replicate-append-replicate, drop_of_length-le}
use lib.Seq.{length-take-le, take_at, drop_at, take_all, drop-append-le, take-append-le}
use borrow.Author.Tests.{eqb-true, eqb-false, leb-true, leb-false, le-leb, lt-leb, eq-eqb, ne_eqb}
use Rattle.rules.specs.Base.{all_is, sum, All, one, Bytes}
use Rattle.rules.specs.Packing2.{fill, filled, Spare, spare, Spares, end_bit, long_packs, string_room, long_count, packs_in2}
use Rattle.rules.specs.Packing2.{Opened, opened, shut, open_pack, open_long}
use Rattle.rules.proofs.Basics.{never, all_is-fill, fill-all_is, take-bytes, drop-bytes, append-below}

-- each block has room for a string byte
abbrev pub Roomy : List ℕ → Type 0
Roomy ns = All (λ (n : ℕ). 3 < n) ns

-- ---- no string

-- without a string, or behind its end, all user bytes are fill
pub long-none : (ns : List ℕ) (fs : List Spare) → long_packs ns fs [] ≡ fill (sum ns)
long-none [] fs = refl
long-none (n ∷ ns) fs = rw (long-none ns (drop 1 fs)) (replicate-append-replicate n (sum ns) 0xFF)

-- ---- length

-- the string bytes of a pack, filled, are as many as the pack has
length-chunk : (n : ℕ) (s : List ℕ) → length (filled n (take n s)) ≡ n
length-chunk n s = simp (length-append, length-replicate, length-take) (omega arith)

-- the user bytes are as many as the blocks hold, whatever the string
pub long-length : (ns : List ℕ) (fs : List Spare) (s : List ℕ) → Roomy ns → length (long_packs ns fs s) ≡ sum ns
long-length [] fs s r = refl
long-length (n ∷ ns) fs [] r = ap length (long-none (n ∷ ns) fs) ∙ length-replicate (sum (n ∷ ns)) 0xFF
long-length (n ∷ ns) fs (x ∷ s) (one h r) =
    let a = length-chunk (n - 3) (x ∷ s) in
    let b = long-length ns (drop 1 fs) (drop (n - 3) (x ∷ s)) r in
    let c = length-append (filled (n - 3) (take (n - 3) (x ∷ s))) (long_packs ns (drop 1 fs) (drop (n - 3) (x ∷ s))) in
    omega arith

-- ---- laid, then opened

-- what opens from a laid string: the string, and less fill than the last pack holds
pub record OpenedOf (s : List ℕ) (o : Opened) : Type 0 where
  pub over : ℕ
  pub last : ℕ
  pub less : over < last
  pub is : o ≡ opened (s ++ fill over) last

module _ (u room : ℕ) (s : List ℕ) where
  -- the pack that holds the string's last byte is read as the last
  end-zero : length s ≤ room → eqb ((u * 2 + end_bit room s) % 2) 1 ≡ false
  end-zero h = rw (le-leb (length s) room h) (ne_eqb ((u * 2 + 0) % 2) 1 (λ q. omega arith))

  -- a pack before it is read as one that others follow
  end-one : room < length s → eqb ((u * 2 + end_bit room s) % 2) 1 ≡ true
  end-one h = rw (lt-leb (length s) room h) (eq-eqb ((u * 2 + 1) % 2) 1 (omega arith))

module _ (n : ℕ) (ns : List ℕ) (fs : List Spare) (x : ℕ) (s : List ℕ) where
  -- the string bytes of the first pack, filled
  abbrev chunk : List ℕ
  chunk = filled (n - 3) (take (n - 3) (x ∷ s))

  -- the user bytes of the later blocks
  abbrev others : List ℕ
  others = long_packs ns (drop 1 fs) (drop (n - 3) (x ∷ s))

  -- what stands behind the first pack's three bytes begins with the pack's string bytes
  chunk-take : take (n - 3) (chunk ++ others) ≡ chunk
  chunk-take = take_at chunk others (n - 3) (length-chunk (n - 3) (x ∷ s))

  -- and the later blocks come next
  chunk-drop : drop (n - 3) (chunk ++ others) ≡ others
  chunk-drop = drop_at chunk others (n - 3) (length-chunk (n - 3) (x ∷ s))

  -- behind the first block come the later ones
  pack-drop : 3 < n → drop n (long_packs (n ∷ ns) fs (x ∷ s)) ≡ others
  pack-drop hn =
      drop_at (0xE3 ∷ ((get_or fs 0 spare).upper * 2 + end_bit (n - 3) (x ∷ s)) ∷ (get_or fs 0 spare).third ∷ chunk) others n
      (let k = length-chunk (n - 3) (x ∷ s) in omega arith)

  -- a string that ends in the first pack is opened
  open-last : 3 < n → length (x ∷ s) ≤ n - 3 → OpenedOf (x ∷ s) (open_long (n ∷ ns) (long_packs (n ∷ ns) fs (x ∷ s)))
  open-last hn h =
      record {
        over = n - 3 - length (x ∷ s);
        last = n - 3;
        less = omega arith;
        is =
            rw (
              end-zero (get_or fs 0 spare).upper (n - 3) (x ∷ s) h,
              chunk-take,
              chunk-drop,
              drop_of_length-le (x ∷ s) h,
              long-none ns (drop 1 fs),
              all_is-fill 0xFF (sum ns),
              take_all (n - 3) (x ∷ s) h,
            );
      }

  -- a string that goes on is opened if its rest is
  open_more : n - 3 < length (x ∷ s) → OpenedOf (drop (n - 3) (x ∷ s)) (open_long ns others)
      → OpenedOf (x ∷ s) (open_long (n ∷ ns) (long_packs (n ∷ ns) fs (x ∷ s)))
  open_more h w =
      record {
        over = w.over;
        last = w.last;
        less = w.less;
        is = rw (end-one (get_or fs 0 spare).upper (n - 3) (x ∷ s) h, chunk-take, chunk-drop, w.is) (ap (λ (t : List ℕ). opened t w.last) whole);
      }
    where
      whole : chunk ++ (drop (n - 3) (x ∷ s) ++ fill w.over) ≡ (x ∷ s) ++ fill w.over
      whole =
          let k : length (take (n - 3) (x ∷ s)) ≡ n - 3 = length-take-le (n - 3) (x ∷ s) (omega arith) in
          let z : n - 3 - length (take (n - 3) (x ∷ s)) ≡ 0 = omega arith in
          rw (z, append-nil)
          (sym (append_assoc (take (n - 3) (x ∷ s)) (drop (n - 3) (x ∷ s)) (fill w.over))
          ∙ ap (λ (t : List ℕ). t ++ fill w.over) (take-append-drop (n - 3) (x ∷ s)))

  -- a string within the room is opened, whether it ends in the first pack or not
  open_step : 3 < n
      → (0 < length (drop (n - 3) (x ∷ s)) → length (drop (n - 3) (x ∷ s)) ≤ string_room ns → OpenedOf (drop (n - 3) (x ∷ s)) (open_long ns others))
      → length (x ∷ s) ≤ n - 3 + string_room ns → (t : Bool) → leb (length (x ∷ s)) (n - 3) ≡ t
      → OpenedOf (x ∷ s) (open_long (n ∷ ns) (long_packs (n ∷ ns) fs (x ∷ s)))
  open_step hn ih h true e = open-last hn (leb-true (length (x ∷ s)) (n - 3) e)
  open_step hn ih h false e =
      let l : n - 3 < length (x ∷ s) = leb-false (length (x ∷ s)) (n - 3) e in
      let k : length (drop (n - 3) (x ∷ s)) ≡ length (x ∷ s) - (n - 3) = length-drop (n - 3) (x ∷ s) in
      open_more l (ih (omega arith) (omega arith))

  -- if the rest of a string that goes on is not opened, the string is not
  open-over : n - 3 < length (x ∷ s) → open_long ns others ≡ shut → open_long (n ∷ ns) (long_packs (n ∷ ns) fs (x ∷ s)) ≡ shut
  open-over h e = rw (end-one (get_or fs 0 spare).upper (n - 3) (x ∷ s) h, chunk-take, chunk-drop, e)

-- what is laid is opened: the string, and less fill than the last pack holds
pub long-read : (ns : List ℕ) (fs : List Spare) (s : List ℕ) → Roomy ns → 0 < length s → length s ≤ string_room ns
    → OpenedOf s (open_long ns (long_packs ns fs s))
long-read [] fs s r z h = absurd (omega arith)
long-read (n ∷ ns) fs [] r z h = absurd (omega arith)
long-read (n ∷ ns) fs (x ∷ s) (one hn r) z h =
    open_step n ns fs x s hn (λ a b. long-read ns (drop 1 fs) (drop (n - 3) (x ∷ s)) r a b) h (leb (length (x ∷ s)) (n - 3)) refl

-- two strings give the same user bytes only if they are equal up to fill at the end
pub long-unique : (ns : List ℕ) (fs gs : List Spare) (s t : List ℕ) → Roomy ns → 0 < length s → 0 < length t
    → length s ≤ string_room ns → length t ≤ string_room ns
    → long_packs ns fs s ≡ long_packs ns gs t → (a b : ℕ) × (s ++ fill a ≡ t ++ fill b)
long-unique ns fs gs s t r zs zt hs ht e =
    let v = long-read ns fs s r zs hs in
    let w = long-read ns gs t r zt ht in
    let k : opened (s ++ fill v.over) v.last ≡ opened (t ++ fill w.over) w.last = sym v.is ∙ ap (open_long ns) e ∙ w.is in
    (v.over, w.over, cc)

-- ---- a string over the room

-- a string over the room is not opened: every pack has END 1
pub long-over : (ns : List ℕ) (fs : List Spare) (s : List ℕ) → Roomy ns → string_room ns < length s → open_long ns (long_packs ns fs s) ≡ shut
long-over [] fs s r h = refl
long-over (n ∷ ns) fs [] r h = absurd (omega arith)
long-over (n ∷ ns) fs (x ∷ s) (one hn r) h =
    let k : length (drop (n - 3) (x ∷ s)) ≡ length (x ∷ s) - (n - 3) = length-drop (n - 3) (x ∷ s) in
    open-over n ns fs x s (omega arith) (long-over ns (drop 1 fs) (drop (n - 3) (x ∷ s)) r (omega arith))

-- a string is opened exactly when it is within the capacity
pub long-room : (ns : List ℕ) (fs : List Spare) (s : List ℕ) → Roomy ns → 0 < length s
    → OpenedOf s (open_long ns (long_packs ns fs s)) ↔ (length s ≤ string_room ns)
long-room ns fs s r z = (λ o. within o (leb (length s) (string_room ns)) refl, long-read ns fs s r z)
  where
    within : OpenedOf s (open_long ns (long_packs ns fs s)) → (t : Bool) → leb (length s) (string_room ns) ≡ t → length s ≤ string_room ns
    within o true e = leb-true (length s) (string_room ns) e
    within o false e =
        let k : shut ≡ opened (s ++ fill o.over) o.last = sym (long-over ns fs s r (leb-false (length s) (string_room ns) e)) ∙ o.is in
        never (cc)

-- ---- opened, so it was laid

-- the user bytes are those of the string s, within the room, with some free bits
pub record LongOf (ns ub s : List ℕ) : Type 0 where
  pub spares : List Spare
  pub fine : Spares spares
  pub whole : ub ≡ long_packs ns spares s
  pub room : length s ≤ string_room ns

-- a block that opens has the last pack, with only fill behind it, or one that others follow
open_pack-cases : (a b r : Bool) (s : List ℕ) (c : ℕ) (o : Opened) (t : List ℕ) (d : ℕ) → open_pack a b r s c o ≡ opened t d
    → (a ≡ true) × (((b ≡ false) × (r ≡ true) × (s ≡ t) × (c ≡ d)) ⊎ ((u : List ℕ) × (b ≡ true) × (o ≡ opened u d) × (s ++ u ≡ t)))
open_pack-cases false b r s c o t d e = never (cc)
open_pack-cases true false false s c o t d e = never (cc)
open_pack-cases true false true s c o t d e = (refl, inl (refl, refl, cc, cc))
open_pack-cases true true r s c shut t d e = never (cc)
open_pack-cases true true r s c (opened u d') t d e = (refl, inr (u, refl, cc, cc))

-- what opens begins with E3h
pub opened-first : (ns ub t : List ℕ) (d : ℕ) → open_long ns ub ≡ opened t d → get_or ub 0 0xFF ≡ 0xE3
opened-first [] ub t d e = never (cc)
opened-first (n ∷ ns) [] t d e = never (cc)
opened-first (n ∷ ns) (a ∷ u) t d e =
    let v : List ℕ = drop 2 u in
    let rest : List ℕ = drop (n - 3) v in
    let w = open_pack-cases (eqb a 0xE3) (eqb (get_or u 0 0 % 2) 1) (all_is 0xFF rest) (take (n - 3) v) (n - 3) (open_long ns rest) t d e in
    eqb-true a 0xE3 w.0

-- blocks with room for m string bytes or more each have none together, or m or more
room-least : (m : ℕ) (ns : List ℕ) → All (λ (n : ℕ). m + 3 ≤ n) ns → (string_room ns ≡ 0) ⊎ (m ≤ string_room ns)
room-least m [] r = inl refl
room-least m (n ∷ ns) (one hn r) = inr (omega arith)

-- what opens from such blocks: the last pack holds m or more, and no more than all; all is what the blocks hold, or less by m or more
pub opened-room : (m : ℕ) (ns ub t : List ℕ) (d : ℕ) → All (λ (n : ℕ). m + 3 ≤ n) ns → length ub ≡ sum ns → open_long ns ub ≡ opened t d
    → (m ≤ d) × (d ≤ length t) × ((length t ≡ string_room ns) ⊎ (length t + m ≤ string_room ns))
opened-room m [] ub t d r l e = never (cc)
opened-room m (n ∷ ns) [] t d (one hn r) l e = absurd (omega arith)
opened-room m (n ∷ ns) (a ∷ []) t d (one hn r) l e = absurd (omega arith)
opened-room m (n ∷ ns) (a ∷ b ∷ []) t d (one hn r) l e = absurd (omega arith)
opened-room m (n ∷ ns) (a ∷ b ∷ c ∷ v) t d (one hn r) l e =
    let w = open_pack-cases (eqb a 0xE3) (eqb (b % 2) 1) (all_is 0xFF (drop (n - 3) v)) (take (n - 3) v) (n - 3)
    (open_long ns (drop (n - 3) v)) t d e in
    let k : length (take (n - 3) v) ≡ n - 3 = length-take-le (n - 3) v (omega arith) in
    ⊎_elim
    (λ z.
    let q : length (take (n - 3) v) ≡ length t = ap length z.2 in
    let q2 = z.3 in
    (omega arith, omega arith, ⊎_map (λ f. omega arith) (λ f. omega arith) (room-least m ns r)))
    (λ z.
    let i = opened-room m ns (drop (n - 3) v) z.0 d r (length-drop (n - 3) v ∙ (omega arith)) z.2 in
    let q : length (take (n - 3) v) + length z.0 ≡ length t = sym (length-append (take (n - 3) v) z.0) ∙ ap length z.3 in
    let h = i.1 in
    (i.0, omega arith, ⊎_map (λ f. omega arith) (λ f. omega arith) i.2))
    w.1

module _ (n : ℕ) (ns : List ℕ) (a b c : ℕ) (v : List ℕ) (x : ℕ) (s tail : List ℕ) (hn : 3 < n) (len : length v ≡ n - 3 + sum ns)
    (hb : b < 256) (hc : c < 256) (ha : a ≡ 0xE3) (fil : all_is 0xFF tail ≡ true) where
  -- the free bits of the first pack
  abbrev free : Spare
  free = record { upper = b / 2; third = c }

  -- they are bits: seven of the second byte and the whole of the third
  free-fine : (fs : List Spare) → Spares fs → Spares (free ∷ fs)
  free-fine fs h = record { upper = up; third = th }
    where
      up : (k : ℕ) → (get_or (free ∷ fs) k spare).upper < 128
      up zero = omega arith
      up (suc k) = h.upper k

      th : (k : ℕ) → (get_or (free ∷ fs) k spare).third < 256
      th zero = hc
      th (suc k) = h.third k

  -- the last pack was laid from what it opens to
  laid-last : b % 2 ≢ 1 → all_is 0xFF (drop (n - 3) v) ≡ true → take (n - 3) v ≡ (x ∷ s) ++ tail → LongOf (n ∷ ns) (a ∷ b ∷ c ∷ v) (x ∷ s)
  laid-last hodd rest e =
      let k : length (take (n - 3) v) ≡ n - 3 = length-take-le (n - 3) v (omega arith) in
      let m : n - 3 ≡ length (x ∷ s) + length tail = sym k ∙ ap length e ∙ length-append (x ∷ s) tail in
      let h : length (x ∷ s) ≤ n - 3 = omega arith in
      let tl : length tail ≡ n - 3 - length (x ∷ s) = omega arith in
      let t : tail ≡ fill (n - 3 - length (x ∷ s)) = fill-all_is 0xFF tail fil ∙ ap fill tl in
      let dl : length (drop (n - 3) v) ≡ sum ns = length-drop (n - 3) v ∙ (omega arith) in
      let u : drop (n - 3) v ≡ fill (sum ns) = fill-all_is 0xFF (drop (n - 3) v) rest ∙ ap fill dl in
      let b2 : b ≡ b / 2 * 2 + 0 = omega arith in
      let vv : v ≡ ((x ∷ s) ++ fill (n - 3 - length (x ∷ s))) ++ fill (sum ns) =
      sym (take-append-drop (n - 3) v) ∙ ap₂ (λ (p q : List ℕ). p ++ q) (e ∙ ap (λ (q : List ℕ). (x ∷ s) ++ q) t) u in
      record {
        spares = free ∷ [];
        fine = free-fine [] (record { upper = λ k. omega arith; third = λ k. omega arith });
        whole = rw (le-leb (length (x ∷ s)) (n - 3) h, take_all (n - 3) (x ∷ s) h, drop_of_length-le (x ∷ s) h, long-none ns []) (cc);
        room = omega arith;
      }

  -- a pack that others follow was laid if the others were
  laid_more : b % 2 ≡ 1 → n - 3 < length (x ∷ s) → take (n - 3) v ≡ take (n - 3) (x ∷ s) → LongOf ns (drop (n - 3) v) (drop (n - 3) (x ∷ s))
      → LongOf (n ∷ ns) (a ∷ b ∷ c ∷ v) (x ∷ s)
  laid_more hodd h e l =
      let b2 : b ≡ b / 2 * 2 + 1 = omega arith in
      let k : length (take (n - 3) (x ∷ s)) ≡ n - 3 = length-take-le (n - 3) (x ∷ s) (omega arith) in
      let z : n - 3 - length (take (n - 3) (x ∷ s)) ≡ 0 = omega arith in
      let vv : v ≡ take (n - 3) (x ∷ s) ++ long_packs ns l.spares (drop (n - 3) (x ∷ s)) =
      sym (take-append-drop (n - 3) v) ∙ ap₂ (λ (p q : List ℕ). p ++ q) e l.whole in
      let f : length (drop (n - 3) (x ∷ s)) ≤ string_room ns = l.room in
      let g : length (drop (n - 3) (x ∷ s)) ≡ length (x ∷ s) - (n - 3) = length-drop (n - 3) (x ∷ s) in
      record {
        spares = free ∷ l.spares;
        fine = free-fine l.spares l.fine;
        whole = rw (lt-leb (length (x ∷ s)) (n - 3) h, z, append-nil (take (n - 3) (x ∷ s))) (cc);
        room = omega arith;
      }

  -- what opens was laid, whether the first pack is the last or not
  laid-step : (t : List ℕ) (d : ℕ) → Roomy ns → t ≡ (x ∷ s) ++ tail → length tail < d
      → ((u : List ℕ) → open_long ns (drop (n - 3) v) ≡ opened u d → u ≡ drop (n - 3) (x ∷ s) ++ tail
      → LongOf ns (drop (n - 3) v) (drop (n - 3) (x ∷ s)))
      → (((eqb (b % 2) 1 ≡ false) × (all_is 0xFF (drop (n - 3) v) ≡ true) × (take (n - 3) v ≡ t) × (n - 3 ≡ d))
      ⊎ ((u : List ℕ) × (eqb (b % 2) 1 ≡ true) × (open_long ns (drop (n - 3) v) ≡ opened u d) × (take (n - 3) v ++ u ≡ t)))
      → LongOf (n ∷ ns) (a ∷ b ∷ c ∷ v) (x ∷ s)
  laid-step t d r q h ih (inl z) = laid-last (eqb-false (b % 2) 1 z.0) z.1 (z.2 ∙ q)
  laid-step t d r q h ih (inr z) =
      let u : List ℕ = z.0 in
      let k : length (take (n - 3) v) ≡ n - 3 = length-take-le (n - 3) v (omega arith) in
      let dl : length (drop (n - 3) v) ≡ sum ns = length-drop (n - 3) v ∙ (omega arith) in
      let m : d ≤ length u = (opened-room 1 ns (drop (n - 3) v) u d r dl z.2).1 in
      let j : take (n - 3) v ++ u ≡ (x ∷ s) ++ tail = z.3 ∙ q in
      let jl : length (take (n - 3) v) + length u ≡ length (x ∷ s) + length tail =
      sym (length-append (take (n - 3) v) u) ∙ ap length j ∙ length-append (x ∷ s) tail in
      let g : n - 3 < length (x ∷ s) = omega arith in
      let g2 : n - 3 ≤ length (x ∷ s) = omega arith in
      let jt : take (n - 3) v ≡ take (n - 3) (x ∷ s) =
      sym (take_at (take (n - 3) v) u (n - 3) k) ∙ ap (take (n - 3)) j ∙ take-append-le (n - 3) (x ∷ s) tail g2 in
      let jd : u ≡ drop (n - 3) (x ∷ s) ++ tail =
      sym (drop_at (take (n - 3) v) u (n - 3) k) ∙ ap (drop (n - 3)) j ∙ drop-append-le (n - 3) (x ∷ s) tail g2 in
      laid_more (eqb-true (b % 2) 1 z.1) g jt (ih u z.2 jd)

-- what opens to a string, with less fill behind it than the last pack holds, was laid from that string
pub long-laid : (ns ub : List ℕ) → Roomy ns → length ub ≡ sum ns → Bytes ub → (t : List ℕ) (d : ℕ) → open_long ns ub ≡ opened t d → (s tail : List ℕ)
    → t ≡ s ++ tail → all_is 0xFF tail ≡ true → length tail < d → LongOf ns ub s
long-laid [] ub r l by t d e s tail q f h = never (cc)
long-laid (n ∷ ns) [] (one hn r) l by t d e s tail q f h = absurd (omega arith)
long-laid (n ∷ ns) (a ∷ []) (one hn r) l by t d e s tail q f h = absurd (omega arith)
long-laid (n ∷ ns) (a ∷ b ∷ []) (one hn r) l by t d e s tail q f h = absurd (omega arith)
long-laid (n ∷ ns) (a ∷ b ∷ c ∷ v) (one hn r) l by t d e [] tail q f h =
    let m : d ≤ length t = (opened-room 1 (n ∷ ns) (a ∷ b ∷ c ∷ v) t d (one hn r) l e).1 in
    let k : length t ≡ length tail = ap length q in
    absurd (omega arith)
long-laid (n ∷ ns) (a ∷ b ∷ c ∷ v) (one hn r) l by t d e (x ∷ s) tail q f h =
    let len : length v ≡ n - 3 + sum ns = omega arith in
    let dl : length (drop (n - 3) v) ≡ sum ns = length-drop (n - 3) v ∙ (omega arith) in
    let w = open_pack-cases (eqb a 0xE3) (eqb (b % 2) 1) (all_is 0xFF (drop (n - 3) v)) (take (n - 3) v) (n - 3)
    (open_long ns (drop (n - 3) v)) t d e in
    laid-step n ns a b c v x s tail hn len (by 1) (by 2) (eqb-true a 0xE3 w.0) f t d r q h
    (λ u o j. long-laid ns (drop (n - 3) v) r dl (drop-bytes (n - 3) v (λ i. by (suc (suc (suc i))))) u d o (drop (n - 3) (x ∷ s)) tail j f h)
    w.1

-- ---- bytes

-- what opens from bytes is bytes
pub long-bytes : (ns ub t : List ℕ) (d : ℕ) → Roomy ns → Bytes ub → open_long ns ub ≡ opened t d → Bytes t
long-bytes [] ub t d r h e = never (cc)
long-bytes (n ∷ ns) ub t d (one hn r) h e =
    let v : List ℕ = drop 3 ub in
    let hv : Bytes v = drop-bytes 3 ub h in
    let w =
    open_pack-cases (eqb (get_or ub 0 0) 0xE3) (eqb (get_or ub 1 0 % 2) 1) (all_is 0xFF (drop (n - 3) v)) (take (n - 3) v) (n - 3)
    (open_long ns (drop (n - 3) v)) t d e in
    ⊎_elim
    (λ z. subst Bytes z.2 (take-bytes (n - 3) v hv))
    (λ z.
    subst Bytes z.3
    (append-below 256 (take (n - 3) v) z.0 (take-bytes (n - 3) v hv) (long-bytes ns (drop (n - 3) v) z.0 d r (drop-bytes (n - 3) v hv) z.2)))
    w.1

-- ---- the count

-- no string bytes want no packs
count_none : (ns : List ℕ) → long_count ns 0 ≡ 0
count_none [] = refl
count_none (n ∷ ns) = refl

-- a block of fill has no pack
fill-first : (n : ℕ) (s : List ℕ) → 3 < n → eqb (get_or (fill n ++ s) 0 0) 0xE3 ≡ false
fill-first zero s h = absurd (omega arith)
fill-first (suc n) s h = refl

-- the packs that stand in the bytes laid are as many as the count says
pub long-counted : (ns : List ℕ) (fs : List Spare) (s : List ℕ) → Roomy ns → packs_in2 ns (long_packs ns fs s) ≡ long_count ns (length s)
long-counted [] fs s r = refl
long-counted (n ∷ ns) fs [] (one hn r) =
    let later = long_packs ns (drop 1 fs) [] in
    let k = long-counted ns (drop 1 fs) [] r in
    let z = count_none ns in
    rw (fill-first n later hn, drop_at (fill n) later n (length-replicate n 0xFF)) (omega arith)
long-counted (n ∷ ns) fs (x ∷ s) (one hn r) =
    rw (
      eqb-suc-zero (length s),
      pack-drop n ns fs x s hn,
      long-counted ns (drop 1 fs) (drop (n - 3) (x ∷ s)) r,
      length-drop (n - 3) (x ∷ s),
    )

-- there are never more packs than blocks
pub long-ceiling : (ns : List ℕ) (bytes : ℕ) → long_count ns bytes ≤ length ns
long-ceiling [] bytes = omega arith
long-ceiling (n ∷ ns) bytes = go (eqb bytes 0) (long-ceiling ns (bytes - (n - 3)))
  where
    go : (t : Bool) → long_count ns (bytes - (n - 3)) ≤ length ns → cond t 0 (1 + long_count ns (bytes - (n - 3))) ≤ length (n ∷ ns)
    go true k = omega arith
    go false k = omega arith

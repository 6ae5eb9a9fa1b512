-- What the rules say of a packet's bytes, one path of the code at a time.
--
-- In order: the header as it is written; the sum of bytes; a packet's faults; refusals; a step of the walker.
-- Assumes nothing.
use Prim.Native.Nat.{ℕ, suc, ◌+◌, ◌-◌, ◌*◌, ◌/◌, ◌%◌, ◌≤◌, ◌<◌}
use mathlib.Core.Path.{◌≡◌, refl, sym, ap, ap₂, ◌∙◌}
use mathlib.Core.Bool.{Bool, true, false, cond, not, ◌||◌}
use mathlib.Core.List.{List, [], ◌∷◌, ◌++◌, map}
use native.Mathlib.Omega.{arith}
use lib.Dec.{eqb, ltb}
use lib.ListN.{length, get_or, take, drop, replicate, length-drop, replicate-append-replicate}
use lib.Seq.{length-take-le, get_or-take, get_or-drop}
use borrow.Author.Tests.{ltb-false, eqb-true, lt-ltb, le-ltb, eq-eqb, ne_eqb, le-leb, lt-leb}
use Rattle.rules.specs.Base.{all_is, sum}
use Rattle.rules.specs.Systems.{System, known, system, stands, allowed}
use Rattle.rules.specs.Packet.{Packet, parity, word, sum9, check, coded, check_of}
use Rattle.rules.specs.Danc.{written, header}
use Rattle.rules.specs.Reading.{line_in, line_of, packet_of_bytes, bytes_fault, string_fault}
use Rattle.rules.specs.Refusals.{number}
use Rattle.rules.specs.Walker.{step, walk}
use Rattle.rules.specs.declared.Refusal.{Refusal}
use Rattle.rules.proofs.Basics.{chosen, fill-all_is, rest_part}
use Rattle.rules.proofs.Lines.{allowed-none, allowed-last}
use Rattle.rules.proofs.Walker.{step_end as ended}
use Rattle.frame.specs.Lines.{is_in, lines_of}
use Rattle.frame.proofs.Vanc.{in_lines}
use Rattle.danc.specs.Header.{cs_right, line_number}

-- ---- the header as it is written

first : (t : Bool) (line : ℕ) → cond t 0 1 * 128 + cond t 0 line % 128 ≡ cond t 0 (128 + line % 128)
first true line = refl
first false line = refl

second : (t : Bool) (line flags : ℕ) → eqb line 0 ≡ t → line ≤ 2047 → flags < 4
    → flags % 2 * 128 + 3 * 32 + flags / 2 * 16 + cond t 0 line / 128 ≡ flags % 2 * 128 + 96 + flags / 2 % 2 * 16 + line / 128 % 16
second true line flags e h k = let z : line ≡ 0 = eqb-true line 0 e in omega arith
second false line flags e h k = omega arith

-- the bytes that `head0` and `head1` give, and FFh, are the header of a packet on a line that eleven bits hold
pub header-written : (p : Packet) → p.line ≤ 2047 → p.flags < 4
    → header (written p)
    ≡ cond (eqb p.line 0) 0 (128 + p.line % 128) ∷ (p.flags % 2 * 128 + 96 + p.flags / 2 % 2 * 16 + p.line / 128 % 16) ∷ 0xFF ∷ []
unfolding header
header-written p h k =
    ap₂ (λ (a b : ℕ). a ∷ b ∷ 0xFF ∷ []) (first (eqb p.line 0) p.line) (second (eqb p.line 0) p.line p.flags refl h k)

-- ---- the sum of bytes

low_of : (b p : ℕ) → (b + 256 * p + 512 * (1 - p)) % 512 % 256 ≡ b % 256
low_of b p = omega arith

add_low : (a b x y : ℕ) → a % 256 ≡ b % 256 → x % 256 ≡ y % 256 → (a + x) % 256 ≡ (b + y) % 256
add_low a b x y e f = omega arith

low_sum : (bs : List ℕ) → sum9 (map word bs) % 256 ≡ sum bs % 256
unfolding word
low_sum [] = refl
low_sum (b ∷ bs) = add_low (word b % 512) b (sum9 (map word bs)) (sum bs) (low_of b (parity b)) (low_sum bs)

-- the low byte of CS is that of the sum of the bytes
pub check-sum : (bs : List ℕ) → check (map word bs) % 256 ≡ sum bs % 256
unfolding check
check-sum bs = low-check (sum9 (map word bs)) ∙ low_sum bs
  where
    low-check : (n : ℕ) → (n % 512 + 512 * (1 - n % 512 / 256)) % 256 ≡ n % 256
    low-check n = omega arith

-- ---- a packet's faults

-- the tests of a packet's line, from what the code holds
module _ (y : System) (last : ℕ) (e : y.last ≡ last) (h0 h1 : ℕ) where
  pub no_line : h0 < 128 → 0 ≡ line_number y h0 h1
  no_line l = rw (lt-ltb h0 128 l, allowed-none y)

  pub line-none : 128 ≤ h0 → line_of h0 h1 ≡ 0 → 16 ≡ line_number y h0 h1
  line-none l z = rw (le-ltb h0 128 l, eq-eqb (line_in h0 h1) 0 (rw (le-ltb h0 128 l) at z))

  -- LE is 1, with a line
  module _ (l : 128 ≤ h0) (n : line_of h0 h1 ≡ 0 → ⊥) where
    pub line-past : last < line_of h0 h1 → 16 ≡ line_number y h0 h1
    unfolding stands
    line-past p =
        let q : last < line_in h0 h1 = rw (le-ltb h0 128 l) at p in
        rw (le-ltb h0 128 l, ne_eqb (line_in h0 h1) 0 (rw (le-ltb h0 128 l) at n), e, lt-leb (line_in h0 h1) last q)

    pub line-in : line_of h0 h1 ≤ last → (t : Bool) → t ≡ allowed y (line_of h0 h1) → cond t 0 20 ≡ line_number y h0 h1
    unfolding stands
    line-in p t f =
        let q : line_in h0 h1 ≤ last = rw (le-ltb h0 128 l) at p in
        rw (← f) (rw (le-ltb h0 128 l, ne_eqb (line_in h0 h1) 0 (rw (le-ltb h0 128 l) at n), e, le-leb (line_in h0 h1) last q) (go t))
      where
        go : (t : Bool) → ◌≡◌ {A = ℕ} (cond t 0 20) (cond (not t) 20 0)
        go true = refl
        go false = refl

-- a line that is found among the frame's; eleven bits hold it
pub line-found : (y : System) (h0 h1 : ℕ) → 128 ≤ h0 → is_in (lines_of y.last) (line_of h0 h1) ≡ true → 0 ≡ line_number y h0 h1
line-found y h0 h1 l e =
    let small = chosen (λ (n : ℕ). n < 2048) (ltb h0 128) 0 (line_in h0 h1) (omega arith) (omega arith) in
    let w = in_lines y (line_of h0 h1) small e in
    line-in y y.last refl h0 h1 l (λ z. omega arith) (allowed-last y (line_of h0 h1) w.1) true (sym w.1)

-- the bytes from DID to the last user byte have the sum that CS is of, DID and SDID apart
part-sum : (s : List ℕ) → get_or s 5 0 + 7 ≤ length s
    → check_of (packet_of_bytes s) % 256 ≡ (get_or s 3 0 + get_or s 4 0 + sum (take (get_or s 5 0 + 6 - 5) (drop 5 s))) % 256
unfolding check_of coded
part-sum [] h = absurd (omega arith)
part-sum (a ∷ []) h = absurd (omega arith)
part-sum (a ∷ b ∷ []) h = absurd (omega arith)
part-sum (a ∷ b ∷ c ∷ []) h = absurd (omega arith)
part-sum (a ∷ b ∷ c ∷ d ∷ []) h = absurd (omega arith)
part-sum (a ∷ b ∷ c ∷ d ∷ e ∷ []) h = absurd (omega arith)
part-sum (a ∷ b ∷ c ∷ d ∷ e ∷ n ∷ t) h =
    let k : n + 6 - 5 ≡ suc n = omega arith in
    let l : length (take n t) ≡ n = length-take-le n t (omega arith) in
    let z = check-sum (d ∷ e ∷ n ∷ take n t) in
    rw (k, l) (z ∙ (omega arith))

-- the test of CS, from what the code holds: DC and the sum
pub cs-tested : (s : List ℕ) → get_or s 5 0 + 7 ≤ length s → (dc total : ℕ) → dc ≡ get_or s 5 0
    → total ≡ (get_or s 3 0 + get_or s 4 0 + sum (take (dc + 6 - 5) (drop 5 s))) % 256 → eqb (get_or s (dc + 6) 0) total ≡ cs_right s
cs-tested s fit dc total d e = rw (part-sum s fit, ← d, e)

-- the tests of a packet by that of CS
module _ (y : System) (s : List ℕ) where
  pub cs-wrong : cs_right s ≡ false → 15 ≡ bytes_fault y s
  unfolding bytes_fault
  cs-wrong e = rw e

  pub cs-right : cs_right s ≡ true → line_number y (get_or s 0 0) (get_or s 1 0) ≡ bytes_fault y s
  unfolding bytes_fault
  cs-right e = rw e

-- bytes that are all FFh are no packet: CS would be FEh
filled : (t : List ℕ) → cs_right (replicate 262 0xFF ++ t) ≡ false
unfolding parity word check coded check_of
filled t = refl

pub not-fill : (y : System) (s : List ℕ) → 262 ≤ length s → bytes_fault y s ≡ 0 → all_is 0xFF s ≡ false
not-fill y s long z = go (all_is 0xFF s) refl
  where
    go : (t : Bool) → all_is 0xFF s ≡ t → t ≡ false
    go true e =
        let n : 262 + (length s - 262) ≡ length s = omega arith in
        let f : s ≡ replicate 262 0xFF ++ replicate (length s - 262) 0xFF =
        fill-all_is 0xFF s e ∙ ap (λ (m : ℕ). replicate m 0xFF) (sym n) ∙ sym (replicate-append-replicate 262 (length s - 262) 0xFF) in
        let w = cs-wrong y s (ap cs_right f ∙ filled (replicate (length s - 262) 0xFF)) in
        absurd (omega arith)
    go false e = refl

-- "fewer than 7 or fewer than DC + 7 bytes remain"
pub too_few : (y : System) (s : List ℕ) → length s < 7 → 14 ≡ string_fault y s
unfolding string_fault
too_few y s h = rw (lt-ltb (length s) 7 h)

pub too_short : (y : System) (s : List ℕ) → 7 ≤ length s → length s < get_or s 5 0 + 7 → 14 ≡ string_fault y s
unfolding string_fault
too_short y s k h = rw (le-ltb (length s) 7 k, lt-ltb (length s) (get_or s 5 0 + 7) h)

-- of bytes that are all there, the faults of a string are those of the bytes
pub fault-bytes : (y : System) (s : List ℕ) → get_or s 5 0 + 7 ≤ length s → string_fault y s ≡ bytes_fault y s
unfolding string_fault
fault-bytes y s h = rw (le-ltb (length s) 7 (omega arith), le-ltb (length s) (get_or s 5 0 + 7) h)

-- a packet without a fault is there
pub fault-room : (y : System) (s : List ℕ) → string_fault y s ≡ 0 → get_or s 5 0 + 7 ≤ length s
unfolding string_fault
fault-room y s z = go (ltb (length s) 7) (ltb (length s) (get_or s 5 0 + 7)) refl z
  where
    go : (a b : Bool) → ltb (length s) (get_or s 5 0 + 7) ≡ b → cond (a || b) 14 (bytes_fault y s) ≡ 0 → get_or s 5 0 + 7 ≤ length s
    go true b e z = absurd (omega arith)
    go false true e z = absurd (omega arith)
    go false false e z = ltb-false (length s) (get_or s 5 0 + 7) e

-- and the other way, of a part of a longer run: a packet that is all there is all in the part
pub part-whole : (us : List ℕ) (end at : ℕ) → at + (get_or us (at + 5) 0 + 7) ≤ end → end ≤ length us
    → get_or (take (end - at) (drop at us)) 5 0 + 7 ≤ length (take (end - at) (drop at us))
part-whole us end at h w =
    let d = length-drop at us in
    let l = length-take-le (end - at) (drop at us) (omega arith) in
    let g = get_or-take (end - at) (drop at us) 5 0 (omega arith) in
    let e = get_or-drop at us 5 0 in
    omega arith

-- ---- refusals

-- each has a number
pub is-some : (r : Refusal) → number r ≡ 0 → ⊥
is-some r e = grind arith

-- ---- a step of the walker

module _ (sys : ℕ) (s : List ℕ) (at : ℕ) where
  pub step-unknown : known sys ≡ false → step 3 0 0 ≡ walk sys s at
  unfolding walk
  step-unknown e = rw e

  -- of a system that is known
  module _ (e : known sys ≡ true) where
    pub step_end : length s ≤ at → step 0 at 0 ≡ walk sys s at
    step_end l = sym (ended sys e s at l)

    -- the number that the tests of the packet give
    module _ (l : at < length s) (n : ℕ) (w : n ≡ string_fault (system sys) (take (length s - at) (drop at s))) where
      fault-at : n ≡ string_fault (system sys) (drop at s)
      fault-at = rw (rest_part at s) at w

      pub step-fault : (n ≡ 0 → ⊥) → step n at 0 ≡ walk sys s at
      unfolding walk
      step-fault k = rw (e, lt-leb (length s) at l, ← fault-at, ne_eqb n 0 k)

      pub step-packet : n ≡ 0 → (size : ℕ) → size ≡ get_or (take (length s - at) (drop at s)) 5 0 + 7 → step 0 at size ≡ walk sys s at
      unfolding walk
      step-packet z size d =
          let k : string_fault (system sys) (drop at s) ≡ 0 = sym fault-at ∙ z in
          rw (e, lt-leb (length s) at l, k) (ap (λ (m : ℕ). step 0 at m) (rw (rest_part at s) at d))

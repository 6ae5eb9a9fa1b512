-- Packets back to back: what each way through the loop over them says of the rules, and one packet alone.
--
-- In order: the figures of packets; a row of words, whatever its tests; the figures of packets back to back; a packet and what follows it
-- (`cut-fault`); the test of one (`one_number`).
-- Assumes nothing.
use Prim.Native.Nat.{ℕ, zero, suc, ◌+◌, ◌-◌, ◌*◌, ◌/◌, ◌%◌, ◌≤◌, ◌<◌}
use mathlib.Core.Path.{◌≡◌, refl, sym, ap, ap₂, ◌∙◌}
use mathlib.Core.Bool.{Bool, true, false, cond, not, ◌&&◌}
use mathlib.Core.List.{List, [], ◌∷◌, map}
use Rattle.std.proofs.Common.{Result, Ok, Err, subst}
use native.Mathlib.Nat.{zero-add, add-zero, sub-zero, le_refl}
use native.Mathlib.Numerals.{add-one, add-three, add_seven}
use native.Mathlib.Omega.{arith}
use lib.Dec.{eqb, leb, ltb}
use lib.ListN.{length, get_or, take, drop, length-drop, length-map, drop_of_length-le}
use lib.Seq.{length-take-le, take_all, take-add, take-take, drop-drop, get_or-drop, get_or-take}
use borrow.Author.Tests.{leb-true, leb-false, le-ltb, eqb-true, eqb-false, ne_eqb}
use Rattle.rules.specs.Base.{sum}
use Rattle.rules.specs.Packet.{Packet, check}
use Rattle.rules.specs.Danc.{bytes_of, string_byte_count}
use Rattle.rules.specs.Packing1.{packs_of}
use Rattle.rules.specs.Numbers.{Outcome, listed, refused, also, packets_in}
use Rattle.rules.specs.Laying.{are_words, flagged, low, dc_in, words_fault, packet_of_words}
use Rattle.rules.specs.Laying.{is_word, words_before, flag_word, word_at, from_packet}
use Rattle.rules.specs.Refusals.{Told, tell}
use Rattle.rules.proofs.Basics.{rest_part, drop-take}
use Rattle.rules.proofs.Words.{words_append}
use Rattle.packet.specs.Tests.{row_of, packets_by, counts_of, told_by, WordLaws}
use Rattle.packet.specs.declared.Counts.{Counts}
use Rattle.packet.specs.SoundWords.{sound_words}

-- ---- what packets come to

-- some packets, and those of a list behind them
abbrev pub add_to : ℕ → ℕ → ℕ → List Packet → Counts
add_to k at packs ps = record { packets = k + length ps; bytes = at + string_byte_count ps; packs = packs + sum (map packs_of ps) }

module _ (word : ℕ → List ℕ → ℕ) (ws : List ℕ) where
  add_nothing : (o : Outcome) → told_by word (add_to 0 0 0) ws o ≡ told_by word counts_of ws o
  add_nothing (listed ps) = simp zero-add
  add_nothing (refused n i) = refl

  add-also : (k at packs : ℕ) (p : Packet) (o : Outcome)
      → told_by word (add_to k at packs) ws (also p o) ≡ told_by word (add_to (k + 1) (at + bytes_of p) (packs + packs_of p)) ws o
  add-also k at packs p (refused n i) = refl
  add-also k at packs p (listed ps) =
      let a : k + suc (length ps) ≡ k + 1 + length ps = omega arith in
      let b : at + (bytes_of p + string_byte_count ps) ≡ at + bytes_of p + string_byte_count ps = omega arith in
      let c : packs + (packs_of p + sum (map packs_of ps)) ≡ packs + packs_of p + sum (map packs_of ps) = omega arith in
      λ i. Ok (record { packets = a i; bytes = b i; packs = c i })

-- the words behind a packet more
pub from-next : (k : ℕ) (ws : List ℕ) → from_packet (suc k) ws ≡ drop (dc_in (from_packet k ws) + 7) (from_packet k ws)
from-next zero ws = refl
from-next (suc k) ws = from-next k (drop (dc_in ws + 7) ws)

-- the words that are lent from a place on
abbrev pub lent : ℕ → List ℕ → List ℕ
lent at ws = take (length ws - at) (drop at ws)

-- a packet more is passed over by its size, as it is lent
pub behind-next : (ws : List ℕ) (at n k : ℕ) → let s : List ℕ = lent at ws in drop n s ≡ drop (dc_in s + 7) s
    → from_packet k ws ≡ drop at ws → from_packet (k + 1) ws ≡ drop (at + n) ws
behind-next ws at n k e f =
    let g : drop n (drop at ws) ≡ drop (dc_in (drop at ws) + 7) (drop at ws) =
    subst (λ (s : List ℕ). drop n s ≡ drop (dc_in s + 7) s) (rest_part at ws) e in
    ap (λ (i : ℕ). from_packet i ws) (add-one k) ∙ from-next k ws ∙ ap (λ (s : List ℕ). drop (dc_in s + 7) s) f ∙ sym g ∙ drop-drop n at ws

-- ---- a row of words, in either way of testing them

module _ (fault : List ℕ → ℕ) (packet : List ℕ → Packet) (word : ℕ → List ℕ → ℕ) where
  -- the packet at the front of some words, and those after it
  front : (left i : ℕ) (s : List ℕ) → 0 < length s
      → packets_in (row_of fault packet) (suc left) i s
      ≡ cond (eqb (fault s) 0) (also (packet s) (packets_in (row_of fault packet) left (suc i) (drop (dc_in s + 7) s))) (refused (fault s) i)
  front left i [] h = absurd (omega arith)
  front left i (w ∷ s) h = refl

  pub front-fault : (left i : ℕ) (s : List ℕ) → 0 < length s → 0 < left → (fault s ≡ 0 → ⊥)
      → packets_in (row_of fault packet) left i s ≡ refused (fault s) i
  front-fault zero i s h l f = absurd (omega arith)
  front-fault (suc left) i s h l f = front left i s h ∙ rw (ne_eqb (fault s) 0 f)

  pub front-none : (left i : ℕ) → packets_in (row_of fault packet) left i [] ≡ listed []
  front-none zero i = refl
  front-none (suc left) i = refl

  module _ (w : WordLaws fault packet word) where
    pub front-fine : (left i : ℕ) (s : List ℕ) → 0 < length s → length s ≤ left → fault s ≡ 0
        → packets_in (row_of fault packet) left i s
        ≡ also (packet s) (packets_in (row_of fault packet) (left - (dc_in s + 7)) (i + 1) (drop (dc_in s + 7) s))
    front-fine zero i s h l f = absurd (omega arith)
    front-fine (suc left) i s h l f =
        let k = length-drop (dc_in s + 7) s in
        let z = w.long s f in
        front left i s h
        ∙ rw (
          f,
          add-one i,
          w.enough left (suc left - (dc_in s + 7)) (suc i) (drop (dc_in s + 7) s) (omega arith) (omega arith),
        )

  -- the packets from a place on
  module _ (at : ℕ) (ws : List ℕ) where
    abbrev pub packets_from : ℕ → Outcome
    packets_from k = packets_in (row_of fault packet) (length ws - at) k (drop at ws)

    -- no packet is left
    pub row-end : (k : ℕ) → length ws ≤ at → packets_from k ≡ listed []
    row-end k h = rw (drop_of_length-le ws h) (front-none (length ws - at) k)

    -- "the first at fault is named"
    pub row-stop : (f k : ℕ) → at < length ws → f ≡ fault (lent at ws) → eqb (fault (lent at ws)) 0 ≡ false → packets_from k ≡ refused f k
    row-stop f k h e g =
        let l = length-drop at ws in
        let is : f ≡ fault (drop at ws) = e ∙ ap fault (rest_part at ws) in
        front-fault (length ws - at) k (drop at ws) (omega arith) (omega arith) (λ z. eqb-false (fault (lent at ws)) 0 g (sym e ∙ is ∙ z))
        ∙ ap (λ (n : ℕ). refused n k) (sym is)

    module _ (w : WordLaws fault packet word) (z : eqb (fault (lent at ws)) 0 ≡ true) where
      pub row_fine : fault (drop at ws) ≡ 0
      row_fine = ap fault (sym (rest_part at ws)) ∙ eqb-true (fault (lent at ws)) 0 z

      pub row-dc : dc_in (drop at ws) ≡ get_or ws (at + 5) 0 % 256
      row-dc = ap low (get_or-drop at ws 5 0)

      -- all its words are there
      pub row-there : at + (get_or ws (at + 5) 0 % 256 + 7) ≤ length ws
      row-there = let d = row-dc in let l = length-drop at ws in let m = w.long (drop at ws) row_fine in omega arith

      -- one packet more
      pub row_next : (dc k : ℕ) → dc ≡ get_or ws (at + 5) 0 % 256
          → packets_from k
          ≡ also (packet (drop at ws)) (packets_in (row_of fault packet) (length ws - (at + (dc + 7))) (k + 1) (drop (at + (dc + 7)) ws))
      row_next dc k e =
          let s : List ℕ = drop at ws in
          let l : length s ≡ length ws - at = length-drop at ws in
          let d : dc_in s ≡ dc = row-dc ∙ sym e in
          let m = row-there in
          let n : length ws - at - (dc_in s + 7) ≡ length ws - (at + (dc + 7)) = omega arith in
          let t : drop (dc_in s + 7) s ≡ drop (at + (dc + 7)) ws =
          drop-drop (dc_in s + 7) at ws ∙ ap (λ (m : ℕ). drop (at + (m + 7)) ws) d in
          front-fine w (length ws - at) k s (omega arith) (omega arith) row_fine
          ∙ (λ i. also (packet s) (packets_in (row_of fault packet) (n i) (k + 1) (t i)))

  -- ---- what packets back to back tell

  -- the words from a place on, with the packets in front of them: what is left of the whole
  abbrev pub whole_from : ℕ → ℕ → ℕ → List ℕ → Result Counts Told
  whole_from k at packs ws = told_by word (add_to k at packs) ws (packets_in (row_of fault packet) (length ws - at) k (drop at ws))

  -- what all of them tell
  abbrev pub told_packets : List ℕ → Result Counts Told
  told_packets ws = told_by word counts_of ws (packets_by fault packet ws)

  pub at_first : (ws : List ℕ) → whole_from 0 0 0 ws ≡ told_packets ws
  at_first ws = rw (sub-zero (length ws)) (add_nothing word ws (packets_by fault packet ws))

  pub no-packets : (ws : List ℕ) → length ws ≡ 0 → Ok (record { packets = 0; bytes = 0; packs = 0 }) ≡ told_packets ws
  no-packets [] h = refl
  no-packets (w ∷ ws) h = absurd (omega arith)

  -- no packet is left
  pub at-end : (k at packs : ℕ) (ws : List ℕ) → length ws ≤ at → Ok (record { packets = k; bytes = at; packs = packs }) ≡ whole_from k at packs ws
  at-end k at packs ws h = rw (row-end at ws k h) (simp add-zero)

  -- a place, and the words that are lent from there on
  module _ (at : ℕ) (ws : List ℕ) where
    -- "the first at fault is named", and its word
    pub at-fault : (k packs : ℕ) → at < length ws → eqb (fault (lent at ws)) 0 ≡ false → from_packet k ws ≡ drop at ws
        → Err (tell (fault (lent at ws)) k (word (fault (lent at ws)) (lent at ws))) ≡ whole_from k at packs ws
    at-fault k packs h g e =
        let f : ℕ = fault (lent at ws) in
        rw (row-stop at ws f k h refl g)
        (ap (λ (v : List ℕ). Err (tell f k (word f v))) (rest_part at ws ∙ sym e))

    module _ (w : WordLaws fault packet word) (z : eqb (fault (lent at ws)) 0 ≡ true) where
      -- one packet more; the two packs of each that have no user bytes are counted apart
      pub at_next : (dc : ℕ) → dc ≡ get_or ws (at + 5) 0 % 256 → (k packs : ℕ)
          → whole_from (k + 1) (at + (dc + 7)) (packs + (dc + 3) / 4 + 2 * (k + 1)) ws ≡ whole_from k at (packs + 2 * k) ws
      at_next dc e k packs =
          let s : List ℕ = drop at ws in
          let d : dc_in s ≡ dc = row-dc at ws w z ∙ sym e in
          let long : dc_in s + 7 ≤ length s = w.long s (row_fine at ws w z) in
          let m : length (take (dc_in s) (drop 6 s)) ≡ dc_in s = length-take-le (dc_in s) (drop 6 s) (let n = length-drop 6 s in omega arith) in
          let u : length (packet s).user ≡ dc = ap length (w.user s) ∙ length-map (take (dc_in s) (drop 6 s)) low ∙ m ∙ d in
          let a : at + bytes_of (packet s) ≡ at + (dc + 7) = ap (λ (n : ℕ). at + (n + 7)) u in
          let b : packs + 2 * k + packs_of (packet s) ≡ packs + (dc + 3) / 4 + 2 * (k + 1) =
          ap (λ (n : ℕ). packs + 2 * k + (1 + (1 + (n + 3) / 4))) u ∙ (omega arith) in
          let later : Outcome = packets_in (row_of fault packet) (length ws - (at + (dc + 7))) (k + 1) (drop (at + (dc + 7)) ws) in
          sym
          (ap (told_by word (add_to k at (packs + 2 * k)) ws) (row_next at ws w z dc k e)
          ∙ add-also word ws k at (packs + 2 * k) (packet s) later
          ∙ (λ i. told_by word (add_to (k + 1) (a i) (b i)) ws later))

      -- and its place
      pub place_next : (dc k : ℕ) → dc ≡ get_or ws (at + 5) 0 % 256 → from_packet k ws ≡ drop at ws
          → from_packet (k + 1) ws ≡ drop (at + (dc + 7)) ws
      place_next dc k e f =
          let d : dc_in (drop at ws) ≡ dc = row-dc at ws w z ∙ sym e in
          rw (add-one k, from-next k ws, f, d) (drop-drop (dc + 7) at ws)

-- ---- a packet and what follows it

-- the tests of a packet that has all its words
whole-tests : (a b c d e f : ℕ) (t : List ℕ) → low f < length t
    → let s : List ℕ = a ∷ b ∷ c ∷ d ∷ e ∷ f ∷ t in
    words_fault s ≡
    cond (not (flagged s)) 7
    (cond (not (are_words (take 3 (drop 3 s)))) 8
    (cond (not (are_words (take (low f) t))) 8
    (cond (not (eqb (get_or t (low f) 0) (check (d ∷ e ∷ f ∷ take (low f) t)))) 10
    0)))
unfolding words_fault
whole-tests a b c d e f t h =
    let s : List ℕ = a ∷ b ∷ c ∷ d ∷ e ∷ f ∷ t in
    let six : low f + 6 ≡ 6 + low f = omega arith in
    let cs : get_or s (low f + 6) 0 ≡ get_or t (low f) 0 = ap (λ (n : ℕ). get_or s n 0) six ∙ sym (get_or-drop 6 s (low f) 0) in
    rw (le-ltb (length s) 7 (omega arith), le-ltb (length s) (low f + 7) (omega arith), cs, add-three (low f))

-- what stands behind a packet is nothing to its tests
cut-fault : (s : List ℕ) → words_fault (take (dc_in s + 7) s) ≡ words_fault s
cut-fault [] = refl
cut-fault (a ∷ []) = refl
cut-fault (a ∷ b ∷ []) = refl
cut-fault (a ∷ b ∷ c ∷ []) = refl
cut-fault (a ∷ b ∷ c ∷ d ∷ []) = refl
cut-fault (a ∷ b ∷ c ∷ d ∷ e ∷ []) = refl
cut-fault (a ∷ b ∷ c ∷ d ∷ e ∷ f ∷ t) = go (leb (length t) (low f + 1)) refl
  where
    cut : take (low f + 7) (a ∷ b ∷ c ∷ d ∷ e ∷ f ∷ t) ≡ a ∷ b ∷ c ∷ d ∷ e ∷ f ∷ take (low f + 1) t
    cut = rw (add_seven (low f), add-one (low f))

    go : (x : Bool) → leb (length t) (low f + 1) ≡ x
        → words_fault (take (low f + 7) (a ∷ b ∷ c ∷ d ∷ e ∷ f ∷ t)) ≡ words_fault (a ∷ b ∷ c ∷ d ∷ e ∷ f ∷ t)
    go true q = ap words_fault (cut ∙ ap (λ (u : List ℕ). a ∷ b ∷ c ∷ d ∷ e ∷ f ∷ u) (take_all (low f + 1) t (leb-true (length t) (low f + 1) q)))
    go false q =
        let h : low f + 1 < length t = leb-false (length t) (low f + 1) q in
        let l = length-take-le (low f + 1) t (omega arith) in
        ap words_fault cut
        ∙ whole-tests a b c d e f (take (low f + 1) t) (omega arith)
        ∙ rw (take-take (low f) (low f + 1) t (omega arith), get_or-take (low f + 1) t (low f) 0 (omega arith))
        (sym (whole-tests a b c d e f t (omega arith)))

-- ---- the test of one packet

drop-taken : (n : ℕ) (s : List ℕ) → drop n (take n s) ≡ []
drop-taken zero s = refl
drop-taken (suc n) [] = refl
drop-taken (suc n) (x ∷ s) = drop-taken n s

some-taken : (n : ℕ) (s : List ℕ) → 0 < length s → 0 < length (take (n + 7) s)
some-taken n [] h = absurd (omega arith)
some-taken n (x ∷ s) h = rw (add_seven n) (omega arith)

-- the words of a packet, as far as they are there, tested as packets back to back
module _ (s part : List ℕ) (h : 0 < length s) (e : part ≡ take (dc_in s + 7) s) where
  one_outcome : packets_by words_fault packet_of_words part
      ≡ cond (eqb (words_fault s) 0) (listed (packet_of_words part ∷ [])) (refused (words_fault s) 0)
  one_outcome = go (eqb (words_fault part) 0) refl ∙ ap (λ (f : ℕ). cond (eqb f 0) (listed (packet_of_words part ∷ [])) (refused f 0)) same
    where
      same : words_fault part ≡ words_fault s
      same = ap words_fault e ∙ cut-fault s

      dc : dc_in part ≡ dc_in s
      dc = ap dc_in e ∙ ap low (get_or-take (dc_in s + 7) s 5 0 (omega arith))

      none : drop (dc_in part + 7) part ≡ []
      none = ap₂ (λ (n : ℕ) (u : List ℕ). drop (n + 7) u) dc e ∙ drop-taken (dc_in s + 7) s

      some : 0 < length part
      some = let l = some-taken (dc_in s) s h in let m : length part ≡ length (take (dc_in s + 7) s) = ap length e in omega arith

      go : (b : Bool) → eqb (words_fault part) 0 ≡ b
          → packets_by words_fault packet_of_words part
          ≡ cond (eqb (words_fault part) 0) (listed (packet_of_words part ∷ [])) (refused (words_fault part) 0)
      go true z =
          rw (
            z,
            front-fine words_fault packet_of_words word_at sound_words (length part) 0 part some (le_refl (length part))
                (eqb-true (words_fault part) 0 z),
            none,
            front-none words_fault packet_of_words word_at (length part - (dc_in part + 7)) (0 + 1),
          )
      go false z = rw (z, front-fault words_fault packet_of_words word_at (length part) 0 part some some (eqb-false (words_fault part) 0 z))

  -- which is refused where the packet is at fault
  pub one_refused : {A : Type 0} (f : List Packet → A) (t : Told) → Err t ≡ told_by word_at f part (packets_by words_fault packet_of_words part)
      → (eqb (words_fault s) 0 ≡ false) × (t ≡ tell (words_fault s) 0 (word_at (words_fault s) part))
  one_refused f t q = go (eqb (words_fault s) 0) refl (q ∙ ap (told_by word_at f part) one_outcome)
    where
      go : (b : Bool) → eqb (words_fault s) 0 ≡ b
          → Err t ≡ told_by word_at f part (cond b (listed (packet_of_words part ∷ [])) (refused (words_fault s) 0))
          → (eqb (words_fault s) 0 ≡ false) × (t ≡ tell (words_fault s) 0 (word_at (words_fault s) part))
      go true z w = absurd (cc)
      go false z w = (z, cc)

  pub one_listed : {A : Type 0} (f : List Packet → A) (a : A) → Ok a ≡ told_by word_at f part (packets_by words_fault packet_of_words part)
      → eqb (words_fault s) 0 ≡ true
  one_listed f a q = go (eqb (words_fault s) 0) refl (q ∙ ap (told_by word_at f part) one_outcome)
    where
      go : (b : Bool) → eqb (words_fault s) 0 ≡ b
          → Ok a ≡ told_by word_at f part (cond b (listed (packet_of_words part ∷ [])) (refused (words_fault s) 0))
          → eqb (words_fault s) 0 ≡ true
      go true z w = z
      go false z w = absurd (cc)

-- ---- the word of one packet

before-cut : (k : ℕ) (t : List ℕ) → are_words (take k t) ≡ false → words_before (take k t) ≡ words_before t
before-cut zero t e = absurd (cc)
before-cut (suc k) [] e = refl
before-cut (suc k) (w ∷ t) e = go (is_word w) (before-cut k t) e
  where
    go : (b : Bool) → (are_words (take k t) ≡ false → words_before (take k t) ≡ words_before t) → (b && are_words (take k t)) ≡ false
        → cond b (suc (words_before (take k t))) 0 ≡ cond b (suc (words_before t)) 0
    go true h e = ap suc (h e)
    go false h e = refl

more-wrong : (k m : ℕ) (t : List ℕ) → are_words (take k t) ≡ false → are_words (take (k + m) t) ≡ false
more-wrong k m t e = rw (take-add k m t, words_append (take k t) (take m (drop k t)), e)

-- a wrong word is found in the packet's own words
own-wrong : (s : List ℕ) (k : ℕ) → k ≤ dc_in s + 4 → are_words (take k (drop 3 s)) ≡ false
    → words_before (drop 3 (take (dc_in s + 7) s)) ≡ words_before (drop 3 s)
own-wrong s k h e =
    let n : dc_in s + 7 - 3 ≡ k + (dc_in s + 4 - k) = omega arith in
    rw (drop-take 3 (dc_in s + 7) s, n) (before-cut (k + (dc_in s + 4 - k)) (drop 3 s) (more-wrong k (dc_in s + 4 - k) (drop 3 s) e))

own-flag : (s : List ℕ) (n : ℕ) → flagged s ≡ false → flag_word (take (n + 7) s) ≡ flag_word s
unfolding flag_word
own-flag [] n e = rw (add_seven n)
own-flag (a ∷ []) n e = rw (add_seven n)
own-flag (a ∷ b ∷ []) n e = rw (add_seven n)
own-flag (a ∷ b ∷ c ∷ s) n e = rw (add_seven n) (go (eqb a 0x000) (eqb b 0x3FF) (eqb c 0x3FF) e)
  where
    go : (x y z : Bool) → (x && (y && z)) ≡ false
        → (let m : ℕ = cond x (suc (cond y (suc (cond z 1 0)) 0)) 0 in cond (ltb m 3) m (suc (suc (suc (length (take (suc (suc (suc (suc n)))) s))))))
        ≡ (let m : ℕ = cond x (suc (cond y (suc (cond z 1 0)) 0)) 0 in cond (ltb m 3) m (suc (suc (suc (length s)))))
    go false y z e = refl
    go true false z e = refl
    go true true false e = refl
    go true true true e = absurd (cc)

-- the number of a fault, by the tests of a packet that has all its words
abbrev fault_from : Bool → Bool → Bool → Bool → ℕ
fault_from f h u r = cond (not f) 7 (cond (not h) 8 (cond (not u) 8 (cond (not r) 10 0)))

-- what stands behind a packet is nothing to the word that its fault names
module _ (s : List ℕ) where
  abbrev part : List ℕ
  part = take (dc_in s + 7) s

  abbrev heads : Bool
  heads = are_words (take 3 (drop 3 s))

  abbrev user : Bool
  user = are_words (take (dc_in s) (drop 6 s))

  abbrev right : Bool
  right = eqb (get_or s (dc_in s + 6) 0) (check (take (dc_in s + 3) (drop 3 s)))

  fault-is : dc_in s + 7 < length s → words_fault s ≡ fault_from (flagged s) heads user right
  unfolding words_fault
  fault-is h = rw (le-ltb (length s) 7 (omega arith), le-ltb (length s) (dc_in s + 7) (omega arith))

  user-wrong : heads ≡ true → user ≡ false → are_words (take (3 + dc_in s) (drop 3 s)) ≡ false
  user-wrong h u = rw (take-add 3 (dc_in s) (drop 3 s), drop-drop 3 3 s, words_append (take 3 (drop 3 s)) (take (dc_in s) (drop 6 s)), h, u)

  same-dc : dc_in part ≡ dc_in s
  same-dc = ap low (get_or-take (dc_in s + 7) s 5 0 (omega arith))

  same : (f h u r : Bool) → flagged s ≡ f → heads ≡ h → user ≡ u → word_at (fault_from f h u r) part ≡ word_at (fault_from f h u r) s
  unfolding word_at
  same false h u r e i j = own-flag s (dc_in s) e
  same true false u r e i j = ap (λ (n : ℕ). 3 + n) (own-wrong s 3 (omega arith) i)
  same true true false r e i j = ap (λ (n : ℕ). 3 + n) (own-wrong s (3 + dc_in s) (omega arith) (user-wrong i j))
  same true true true false e i j = ap (λ (n : ℕ). n + 6) same-dc
  same true true true true e i j = refl

  pub cut-word : word_at (words_fault s) part ≡ word_at (words_fault s) s
  cut-word = go (leb (length s) (dc_in s + 7)) refl
    where
      go : (x : Bool) → leb (length s) (dc_in s + 7) ≡ x → word_at (words_fault s) part ≡ word_at (words_fault s) s
      go true q = ap (word_at (words_fault s)) (take_all (dc_in s + 7) s (leb-true (length s) (dc_in s + 7) q))
      go false q =
          rw (fault-is (leb-false (length s) (dc_in s + 7) q)) (same (flagged s) heads user right refl refl refl)

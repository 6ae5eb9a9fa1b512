-- The packets that a string shows, as the writing of a sheet goes through them.
--
-- In order: what is laid is shown: `shown-string`; a string from its front; counting, as `measure` goes; whole packets, and how many
-- words they have; from one packet to the next; the words of one packet.
-- Assumes nothing.
use Prim.Native.Nat.{ℕ, zero, suc, ◌+◌, ◌-◌, ◌≤◌, ◌<◌}
use mathlib.Core.Path.{◌≡◌, refl, sym, ap, ◌∙◌, subst}
use mathlib.Core.Bool.{Bool, true, false, cond, ◌||◌}
use mathlib.Core.List.{List, [], ◌∷◌, ◌++◌, map, append-nil}
use Rattle.std.proofs.Common.{Option, Some, None}
use native.Mathlib.Omega.{arith}
use lib.Dec.{eqb, ltb, leb}
use lib.ListN.{length, get_or, take, drop, length-append, length-drop, drop_of_length-le}
use lib.Seq.{length-take-le, get_or-take, get_or-drop, drop-drop}
use borrow.Author.Tests.{ltb-true, ltb-false, leb-true, leb-false, eqb-true, eqb-false, lt-ltb, le-ltb, lt-leb, le-leb, eq-eqb}
use Rattle.rules.specs.Base.{All}
use Rattle.rules.specs.Systems.{System}
use Rattle.rules.specs.Packet.{Packet, word, words}
use Rattle.rules.specs.Danc.{Item, Good, packets_of, danc, string, header}
use Rattle.rules.specs.Sheet.{all_words}
use Rattle.rules.specs.Numbers.{Outcome, listed, refused, also, packets_in}
use Rattle.rules.specs.Reading.{packet_of_bytes}
use Rattle.rules.proofs.Basics.{never}
use Rattle.rules.proofs.Rows.{Anything, row_read, row-enough}
use Rattle.rules.proofs.Words.{packet-words}
use Rattle.rules.proofs.Strings.{danc-length, bytes-packet, bytes_rest}
use Rattle.sheet.specs.Write.{size_in, shown_fault, shown_row, shown, framed, words_after, list_in, packets_shown, Whole, count_from, count_to}

-- ---- what is laid is shown

module _ (y : System) (hm : y.last < 2047) (x : Item) (r : List ℕ) (g : Good y x) where
  goes_on : shown_row.ends (danc x ++ r) ≡ false
  unfolding shown_row danc header
  goes_on = refl

  no-fault : shown_row.fault (danc x ++ r) ≡ 0
  unfolding shown_row shown_fault danc header
  no-fault =
      let k = danc-length x in
      let l = length-append (danc x) r in
      rw (le-ltb (length (danc x ++ r)) 7 (omega arith), le-ltb (length (danc x ++ r)) (length x.packet.user + 7) (omega arith))

few-items : (xs : List Item) → length xs ≤ length (string xs)
few-items [] = omega arith
few-items (x ∷ xs) = let k = few-items xs in let l = length-append (danc x) (string xs) in let m = danc-length x in omega arith

-- the string of good items shows their packets
pub shown-string : (y : System) → y.last < 2047 → (xs : List Item) → All (Good y) xs → shown (string xs) ≡ listed (packets_of xs)
unfolding shown shown_row
shown-string y hm xs g =
    ap (packets_in shown_row (length (string xs)) 0) (sym (append-nil (string xs)))
    ∙ row_read shown_row danc (λ (x : Item). x.packet) (Good y) Anything
    (record {
      follows = λ x r w. tt;
      goes = λ x r w. goes_on y hm x r w;
      fault = λ x r w z. no-fault y hm x r w;
      packet = λ x r w z. bytes-packet y hm x r w;
      rest = λ x r w z. bytes_rest y hm x r w;
    })
    [] tt refl xs (length (string xs)) 0 g (few-items xs)

-- ---- a string from its front

shown-none : (s : List ℕ) → length s ≡ 0 → shown s ≡ listed []
unfolding shown shown_row
shown-none [] h = refl
shown-none (b ∷ s) h = absurd (omega arith)

-- fewer than 7 bytes, or fewer than DC + 7
short : (s : List ℕ) (a b : Bool) → ltb (length s) 7 ≡ a → ltb (length s) (size_in s) ≡ b → (a || b) ≡ true → 0 < length s → shown s ≡ refused 14 0
unfolding shown shown_row shown_fault
short [] a b p q e h = absurd (omega arith)
short (x ∷ s) a b p q e h = rw (p, q, e)

shown-few : (s : List ℕ) → 0 < length s → length s < 7 → shown s ≡ refused 14 0
shown-few s h k = short s true (ltb (length s) (size_in s)) (lt-ltb (length s) 7 k) refl refl h

shown-cut : (s : List ℕ) → 7 ≤ length s → length s < size_in s → shown s ≡ refused 14 0
shown-cut s h k = short s false true (le-ltb (length s) 7 h) (lt-ltb (length s) (size_in s) k) refl (omega arith)

-- a whole packet is taken off, and what is left is shorter
shrinks : (s : List ℕ) → shown_row.fault s ≡ 0 → length (shown_row.rest s) < length s
unfolding shown_row shown_fault
shrinks s e = go (ltb (length s) 7) (ltb (length s) (size_in s)) refl refl e
  where
    go : (a b : Bool) → ltb (length s) 7 ≡ a → ltb (length s) (size_in s) ≡ b → ◌≡◌ {A = ℕ} (cond (a || b) 14 0) 0
        → length (drop (size_in s) s) < length s
    go true b p q e = absurd (omega arith)
    go false true p q e = absurd (omega arith)
    go false false p q e = let k = ltb-false (length s) 7 p in let l = length-drop (size_in s) s in omega arith

-- an outcome without its place: which packet of a longer string the first one is does not matter
abbrev no_place : Outcome → Outcome
no_place (listed ps) = listed ps
no_place (refused n i) = refused n 0

also-place : (p : Packet) (o q : Outcome) → no_place o ≡ no_place q → no_place (also p o) ≡ no_place (also p q)
also-place p (listed ps) (listed qs) e = let z : ps ≡ qs = cc in ap (λ (rs : List Packet). listed (p ∷ rs)) z
also-place p (listed ps) (refused n i) e = never (cc)
also-place p (refused n i) (listed qs) e = never (cc)
also-place p (refused n i) (refused m j) e = e

same_row : (left i j : ℕ) (s : List ℕ) → no_place (packets_in shown_row left i s) ≡ no_place (packets_in shown_row left j s)
same_row zero i j s = go (shown_row.ends s)
  where
    go : (d : Bool) → no_place (cond d (listed []) (refused 5 i)) ≡ no_place (cond d (listed []) (refused 5 j))
    go true = refl
    go false = refl
same_row (suc left) i j s =
    let rest : List ℕ = shown_row.rest s in
    go (shown_row.ends s) (eqb (shown_row.fault s) 0) (packets_in shown_row left (suc i) rest) (packets_in shown_row left (suc j) rest)
    (same_row left (suc i) (suc j) rest)
  where
    go : (d z : Bool) (o q : Outcome) → no_place o ≡ no_place q
        → no_place (cond d (listed []) (cond z (also (shown_row.packet s) o) (refused (shown_row.fault s) i)))
        ≡ no_place (cond d (listed []) (cond z (also (shown_row.packet s) q) (refused (shown_row.fault s) j)))
    go true z o q e = refl
    go false true o q e = also-place (shown_row.packet s) o q e
    go false false o q e = refl

-- a packet and then a string
next : (s : List ℕ) → 7 ≤ length s → size_in s ≤ length s → no_place (shown s) ≡ no_place (also (packet_of_bytes s) (shown (drop (size_in s) s)))
unfolding shown shown_row shown_fault
next [] h k = absurd (omega arith)
next (x ∷ s) h k =
    let t : List ℕ = drop (size_in (x ∷ s)) (x ∷ s) in
    let l : length t ≡ length (x ∷ s) - size_in (x ∷ s) = length-drop (size_in (x ∷ s)) (x ∷ s) in
    let e = row-enough shown_row refl shrinks (length s) (length t) 1 t (omega arith) (omega arith) in
    rw (le-ltb (length (x ∷ s)) 7 h, le-ltb (length (x ∷ s)) (size_in (x ∷ s)) k)
    (also-place (packet_of_bytes (x ∷ s)) (packets_in shown_row (length s) 1 t) (packets_in shown_row (length t) 0 t)
    (ap no_place e ∙ same_row (length t) 1 0 t))

-- ---- counting

count-place : (k : ℕ) (o q : Outcome) → no_place o ≡ no_place q → count_from k o ≡ count_from k q
count-place k (listed ps) (listed qs) e = let z : ps ≡ qs = cc in ap (λ (rs : List Packet). Some (k + length rs)) z
count-place k (listed ps) (refused n i) e = never (cc)
count-place k (refused n i) (listed qs) e = never (cc)
count-place k (refused n i) (refused m j) e = refl

count-also : (k : ℕ) (p : Packet) (o : Outcome) → count_from k (also p o) ≡ count_from (k + 1) o
count-also k p (listed ps) = let e : k + suc (length ps) ≡ k + 1 + length ps = omega arith in ap (λ (n : ℕ). Some n) e
count-also k p (refused n i) = refl

count-more : (k : ℕ) (s : List ℕ) → 7 ≤ length s → size_in s ≤ length s → count_from (k + 1) (shown (drop (size_in s) s)) ≡ count_from k (shown s)
count-more k s h l =
    sym (count-place k (shown s) (also (packet_of_bytes s) (shown (drop (size_in s) s))) (next s h l)
    ∙ count-also k (packet_of_bytes s) (shown (drop (size_in s) s)))

-- the bytes from a place on: the code reads DC five bytes past it
module _ (s : List ℕ) (at dc : ℕ) (e : dc ≡ get_or s (at + 5) 0) where
  pub size-at : size_in (drop at s) ≡ dc + 7
  size-at = ap (λ (n : ℕ). n + 7) (get_or-drop at s 5 0 ∙ sym e)

  rest_at : drop (size_in (drop at s)) (drop at s) ≡ drop (at + (dc + 7)) s
  rest_at = rw size-at (drop-drop (dc + 7) at s)

-- the string is the front of a longer run
module _ (us : List ℕ) (end at k : ℕ) (inside : end ≤ length us) where
  abbrev s : List ℕ
  s = take end us

  abbrev here : Option ℕ
  here = count_from k (shown (drop at s))

  left : length (drop at s) ≡ end - at
  left = length-drop at s ∙ ap (λ (n : ℕ). n - at) (length-take-le end us inside)

  few : at < end → end - at < 7 → here ≡ None
  few n h = let l = left in rw (shown-few (drop at s) (omega arith) (omega arith))

  -- no packet is read here: the packets end with the string, or past it, or too little of it is left
  pub measure-end : end < at + 7 → cond (eqb at end) (Some k) None ≡ count_to end at k us
  measure-end h = go (ltb at end) (eqb at end) refl refl
    where
      go : (a b : Bool) → ltb at end ≡ a → eqb at end ≡ b → cond (eqb at end) (Some k) None ≡ count_to end at k us
      go true true p q = let l = ltb-true at end p in let e = eqb-true at end q in absurd (omega arith)
      go true false p q =
          let l = ltb-true at end p in
          rw (q, le-leb at end (omega arith)) (sym (few (omega arith) (omega arith)))
      go false true p q =
          let e = eqb-true at end q in
          let n : k ≡ k + 0 = omega arith in
          rw (q, le-leb at end (omega arith), shown-none (drop at s) (left ∙ (omega arith))) (ap (λ (m : ℕ). Some m) n)
      go false false p q =
          let l = ltb-false at end p in
          let n = eqb-false at end q in
          rw (q, lt-leb at end (omega arith))

  module _ (dc : ℕ) (e : dc ≡ get_or us (at + 5) 0) (h : at < end) where
    past : end < at + (dc + 7) → here ≡ None
    past c = go (leb (at + 7) end) refl
      where
        go : (b : Bool) → leb (at + 7) end ≡ b → here ≡ None
        go true p =
            let m = leb-true (at + 7) end p in
            let l = left in
            let z = size-at s at dc (e ∙ sym (get_or-take end us (at + 5) 0 (omega arith))) in
            rw (shown-cut (drop at s) (omega arith) (omega arith))
        go false p = let m = leb-false (at + 7) end p in few h (omega arith)

    further : at + (dc + 7) ≤ end → count_from (k + 1) (shown (drop (at + (dc + 7)) s)) ≡ here
    further c =
        let f : dc ≡ get_or s (at + 5) 0 = e ∙ sym (get_or-take end us (at + 5) 0 (omega arith)) in
        let l = left in
        let z = size-at s at dc f in
        ap (λ (t : List ℕ). count_from (k + 1) (shown t)) (sym (rest_at s at dc f)) ∙ count-more k (drop at s) (omega arith) (omega arith)

    -- one packet is passed over, whether or not it is whole
    pub measure-more : count_to end (at + (dc + 7)) (k + 1) us ≡ count_to end at k us
    measure-more = rw (le-leb at end (omega arith)) (go (leb (at + (dc + 7)) end) refl)
      where
        go : (b : Bool) → leb (at + (dc + 7)) end ≡ b → count_to end (at + (dc + 7)) (k + 1) us ≡ here
        go true p = rw p (further (leb-true (at + (dc + 7)) end p))
        go false p = rw p (sym (past (leb-false (at + (dc + 7)) end p)))

-- ---- whole packets

-- one packet, and then a string that is shorter by that packet
record Cut (s : List ℕ) : Type 0 where
  long : size_in s ≤ length s
  front : packets_shown s ≡ packet_of_bytes s ∷ packets_shown (drop (size_in s) s)
  rest : Whole (drop (size_in s) s)

whole-cut : (s : List ℕ) → Whole s → 0 < length s → Cut s
whole-cut s w h = first (ltb (length s) 7) (ltb (length s) (size_in s)) refl refl
  where
    taken : (p : Packet) (o q : Outcome) → o ≡ listed (list_in o) → no_place o ≡ no_place (also p q)
        → (list_in o ≡ p ∷ list_in q) × (q ≡ listed (list_in q))
    taken p (refused n i) q w e = never (cc)
    taken p (listed ps) (refused n i) w e = never (cc)
    taken p (listed ps) (listed qs) w e = (cc, refl)

    first : (a b : Bool) → ltb (length s) 7 ≡ a → ltb (length s) (size_in s) ≡ b → Cut s
    first true b p q = never (let z = short s true b p q refl h in cc)
    first false true p q = never (let z = short s false true p q refl h in cc)
    first false false p q =
        let l = ltb-false (length s) (size_in s) q in
        let v = taken (packet_of_bytes s) (shown s) (shown (drop (size_in s) s)) w (next s (ltb-false (length s) 7 p) l) in
        record { long = l; front = v.0; rest = v.1 }

-- "A DANC packet has as many bytes as its VANC packet has words"
user-long : (s : List ℕ) → size_in s ≤ length s → length (packet_of_bytes s).user ≡ get_or s 5 0
user-long s h = length-take-le (get_or s 5 0) (drop 6 s) (let l = length-drop 6 s in omega arith)

pub words_long : (s : List ℕ) → size_in s ≤ length s → length (words (packet_of_bytes s)) ≡ size_in s
words_long s h = packet-words (packet_of_bytes s) ∙ ap (λ (n : ℕ). n + 7) (user-long s h)

-- a string that is whole packets has as many bytes as their words, and at least one for each packet
pub record Long (s : List ℕ) : Type 0 where
  pub same : length (all_words (packets_shown s)) ≡ length s
  pub few : length (packets_shown s) ≤ length s

long-more : (s : List ℕ) → Whole s → (length (drop (size_in s) s) < length s → Whole (drop (size_in s) s) → Long (drop (size_in s) s)) → Long s
long-more [] w ih = let e = shown-none [] refl in record { same = rw e; few = rw e (omega arith) }
long-more (x ∷ s) w ih =
    let t : List ℕ = x ∷ s in
    let r : List ℕ = drop (size_in t) t in
    let c = whole-cut t w (omega arith) in
    let k = c.long in
    let l : length r ≡ length t - size_in t = length-drop (size_in t) t in
    let v = ih (omega arith) c.rest in
    let a = length-append (words (packet_of_bytes t)) (all_words (packets_shown r)) in
    let b = words_long t k in
    record { same = rw c.front (omega arith); few = rw c.front (omega arith) }

long-within : (n : ℕ) (s : List ℕ) → length s ≤ n → Whole s → Long s
long-within zero s h w = long-more s w (λ l v. absurd (omega arith))
long-within (suc n) s h w = long-more s w (λ l v. long-within n (drop (size_in s) s) (omega arith) v)

pub whole_long : (s : List ℕ) → Whole s → Long s
whole_long s w = long-within (length s) s (omega arith) w

-- the W of the packets that a short string shows is a 16-bit number
pub words-short : (s : List ℕ) (ps : List Packet) → shown s ≡ listed ps → length s ≤ 9360 → leb (length (all_words ps)) 65535 ≡ true
words-short s ps e short =
    let w = (whole_long s (e ∙ ap (λ (o : Outcome). listed (list_in o)) (sym e))).same in
    let l : length (all_words (packets_shown s)) ≡ length (all_words ps) = ap (λ (o : Outcome). length (all_words (list_in o))) e in
    le-leb (length (all_words ps)) 65535 (omega arith)

-- ---- from one packet to the next

pub record Passed (s : List ℕ) (at end : ℕ) : Type 0 where
  pub inside : end ≤ length s
  pub front : packets_shown (drop at s) ≡ packet_of_bytes (drop at s) ∷ packets_shown (drop end s)
  pub rest : Whole (drop end s)

pub pass : (s : List ℕ) (at dc : ℕ) → Whole (drop at s) → at < length s → dc ≡ get_or s (at + 5) 0 → Passed s at (at + (dc + 7))
pass s at dc w h e =
    let l = length-drop at s in
    let z = size-at s at dc e in
    let c = whole-cut (drop at s) w (omega arith) in
    let k = c.long in
    record {
      inside = omega arith;
      front = c.front ∙ ap (λ (t : List ℕ). packet_of_bytes (drop at s) ∷ packets_shown t) (rest_at s at dc e);
      rest = subst Whole (rest_at s at dc e) c.rest;
    }

-- the last packet is passed
pub passed-all : (s : List ℕ) (at : ℕ) → length s ≤ at → packets_shown (drop at s) ≡ []
passed-all s at h = ap list_in (shown-none (drop at s) (ap length (drop_of_length-le s h)))

-- ---- the words of one packet

-- the buffer is as long as they are
pub words-after : (s buffer : List ℕ) → length buffer ≡ length s + 4 → words_after s buffer ≡ framed (map word s)
unfolding words_after
words-after s buffer h = rw (eq-eqb (length buffer) (length s + 4) h)

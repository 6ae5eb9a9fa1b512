-- What is written of a sheet so far, and then what is still to be written.
--
-- In order: bytes as words; locations; the words of packets; the words of one packet, and by the table; the sections; the sheet.
-- Assumes nothing.
use Prim.Native.Nat.{ℕ, zero, suc, ◌+◌, ◌-◌, ◌*◌, ◌%◌, ◌≤◌, ◌<◌}
use mathlib.Core.Path.{◌≡◌, refl, sym, ap, ap₂, ◌∙◌}
use mathlib.Core.Bool.{Bool, true, false}
use mathlib.Core.List.{List, [], ◌∷◌, ◌++◌, map}
use Rattle.std.proofs.Common.{Option, Some, None}
use native.Mathlib.Omega.{arith}
use native.Mathlib.Numerals.{add-one, add-three, add_seven}
use lib.Dec.{ltb, leb, leb-zero}
use lib.ListN.{length, get_or, take, drop, set, length-append, length-drop, length-set, length-map, take-append-drop}
use lib.Seq.{length-take-le, get_or-take, get_or-drop, drop-drop, take-add, take_at, drop_at, take_all, take-take, take-suc-set}
use borrow.Author.Tests.{ltb-true, ltb-false, lt-leb, le-leb, ne_eqb}
use Rattle.rules.specs.Packet.{Packet, body, ones, parity, word, sum9, check, coded, check_of, words}
use Rattle.rules.specs.Sheet.{locations, all_words, sheet_of}
use Rattle.rules.specs.Numbers.{Outcome, listed, refused}
use Rattle.rules.specs.Reading.{line_of, flags_of, packet_of_bytes}
use Rattle.rules.proofs.Basics.{second-false, never}
use Rattle.rules.proofs.Words.{words-room}
use Rattle.rules.proofs.Sheets.{sheet-length}
use Rattle.packet.specs.Run.{check_sum, word_table}
use Rattle.packet.proofs.Laws.{table_at, check-of-sum}
use Rattle.packet.proofs.Faults.{heads}
use Rattle.sheet.specs.Write.{size_in, shown, has_room, wrote_of, wrote, after_of, sheet_after, framed, words_after, list_in, packets_shown, Whole}
use Rattle.sheet.specs.Write.{head_of, id_sum, Measured, count_from, count_to}
use Rattle.sheet.proofs.Filling.{two-more, part-long, part-behind, part-front, part-more, all-written}
use Rattle.sheet.proofs.Filling.{three_of, back_of, three-tail, back_long, back-set, sheet-filled}
use Rattle.sheet.proofs.WriteLaws.{words-after, size-at, words_long, whole_long, words-short, pass, passed-all}

-- ---- bytes as words

-- a part of them
map-take : (n : ℕ) (s : List ℕ) → take n (map word s) ≡ map word (take n s)
map-take zero s = refl
map-take (suc n) [] = refl
map-take (suc n) (b ∷ s) = ap (λ (t : List ℕ). word b ∷ t) (map-take n s)

map-drop : (n : ℕ) (s : List ℕ) → drop n (map word s) ≡ map word (drop n s)
map-drop zero s = refl
map-drop (suc n) [] = refl
map-drop (suc n) (b ∷ s) = map-drop n s

-- ---- locations

-- the locations of the packets before `at` are written
pub record Locating (s out : List ℕ) (at i : ℕ) : Type 0 where
  pub whole : Whole (drop at s)
  pub left : i + 2 * length (packets_shown (drop at s)) ≡ length out
  pub rest : take i out ++ locations (packets_shown (drop at s)) ≡ locations (packets_shown s)

module _ (s out : List ℕ) (at i : ℕ) (was : Locating s out at i) (h : i < length out) where
  -- where numbers are left to write, so are packets
  here : at < length s
  here = go (ltb at (length s)) refl
    where
      go : (b : Bool) → ltb at (length s) ≡ b → at < length s
      go true e = ltb-true at (length s) e
      go false e =
          let n : length (packets_shown (drop at s)) ≡ 0 = ap length (passed-all s at (ltb-false at (length s) e)) in
          let k = was.left in
          absurd (omega arith)

  pub locating-inside : at + (get_or s (at + 5) 0 + 7) ≤ length s
  locating-inside = (pass s at (get_or s (at + 5) 0) was.whole here refl).inside

  pub locating-more : (dc line flags next : ℕ) → next ≡ i + 2 → dc ≡ get_or s (at + 5) 0
      → line ≡ line_of (get_or s at 0) (get_or s (at + 1) 0) → flags ≡ flags_of (get_or s (at + 1) 0)
      → Locating s (set (set out i line) (i + 1) flags) (at + (dc + 7)) next
  locating-more dc line flags next is e f g =
      let p = pass s at dc was.whole here e in
      let k = was.left in
      let qs : List Packet = packets_shown (drop (at + (dc + 7)) s) in
      let l : length (packets_shown (drop at s)) ≡ suc (length qs) = ap length p.front in
      let z : at + 0 ≡ at = omega arith in
      let a : (packet_of_bytes (drop at s)).line ≡ line = rw (get_or-drop at s 0 0, get_or-drop at s 1 0, z) (sym f) in
      let b : (packet_of_bytes (drop at s)).flags ≡ flags = rw (get_or-drop at s 1 0) (sym g) in
      let n : locations (packets_shown (drop at s)) ≡ line ∷ flags ∷ locations qs =
      ap locations p.front ∙ ap₂ (λ (x v : ℕ). x ∷ v ∷ locations qs) a b in
      rw is
      (record {
        whole = p.rest;
        left = simp length-set (omega arith);
        rest = two-more out i line flags (locations qs) (omega arith) ∙ ap (λ (t : List ℕ). take i out ++ t) (sym n) ∙ was.rest;
      })

-- ---- the words of packets

-- the bytes from DID to the last user byte
body_bytes : (s : List ℕ) → length s ≡ size_in s → take (length s - 4) (drop 3 s) ≡ body (packet_of_bytes s)
body_bytes [] h = absurd (omega arith)
body_bytes (a ∷ []) h = absurd (omega arith)
body_bytes (a ∷ b ∷ []) h = absurd (omega arith)
body_bytes (a ∷ b ∷ c ∷ []) h = absurd (omega arith)
body_bytes (a ∷ b ∷ c ∷ d ∷ []) h = absurd (omega arith)
body_bytes (a ∷ b ∷ c ∷ d ∷ e ∷ []) h = absurd (omega arith)
body_bytes (a ∷ b ∷ c ∷ d ∷ e ∷ n ∷ t) h =
    let s : List ℕ = a ∷ b ∷ c ∷ d ∷ e ∷ n ∷ t in
    let k : length s - 4 ≡ n + 3 = omega arith in
    let l : length (take n t) ≡ n = length-take-le n t (omega arith) in
    rw (k, add-three n) (ap (λ (m : ℕ). d ∷ e ∷ m ∷ take n t) (sym l))

-- between flag and CS their words are those of the packet
framed-body : (s : List ℕ) → length s ≡ size_in s → framed (map word (take (length s - 4) (drop 3 s))) ≡ words (packet_of_bytes s)
unfolding framed words coded check_of
framed-body s h = ap (λ (t : List ℕ). framed (map word t)) (body_bytes s h)

framed-bytes : (s : List ℕ) → length s ≡ size_in s → framed (take (length (map word s) - 4) (drop 3 (map word s))) ≡ words (packet_of_bytes s)
framed-bytes s h = rw (length-map s word, map-drop 3 s, map-take (length s - 4) (drop 3 s)) (framed-body s h)

-- the bytes of one packet, cut out of a string
module _ (t : List ℕ) (n : ℕ) (h : n ≡ size_in t) (k : n ≤ length t) where
  part-size : length (take n t) ≡ size_in (take n t)
  part-size = let l = length-take-le n t k in let e = get_or-take n t 5 0 (omega arith) in omega arith

  part-packet : packet_of_bytes (take n t) ≡ packet_of_bytes t
  part-packet = ap (λ (m : ℕ). packet_of_bytes (take m t)) h ∙ go t
    where
      go : (t : List ℕ) → packet_of_bytes (take (size_in t) t) ≡ packet_of_bytes t
      go [] = refl
      go (a ∷ []) = refl
      go (a ∷ b ∷ []) = refl
      go (a ∷ b ∷ c ∷ []) = refl
      go (a ∷ b ∷ c ∷ d ∷ []) = refl
      go (a ∷ b ∷ c ∷ d ∷ e ∷ []) = refl
      go (a ∷ b ∷ c ∷ d ∷ e ∷ f ∷ u) = let h : f ≤ suc f = omega arith in rw (add_seven f, take-take f (suc f) u h)

-- the words of the packets before `at` are written
pub record Wording (s out : List ℕ) (at : ℕ) : Type 0 where
  pub whole : Whole (drop at s)
  pub long : length out ≡ length s
  pub rest : take at out ++ all_words (packets_shown (drop at s)) ≡ all_words (packets_shown s)

pub wording-all : (s out : List ℕ) (at : ℕ) → Wording s out at → length s ≤ at → out ≡ all_words (packets_shown s)
wording-all s out at was h =
    let n = passed-all s at h in
    let l = was.long in
    all-written out (all_words (packets_shown (drop at s))) (all_words (packets_shown s)) at (omega arith) (ap all_words n) was.rest

module _ (s out : List ℕ) (at dc : ℕ) (was : Wording s out at) (h : at < length s) (e : dc ≡ get_or s (at + 5) 0) where
  abbrev end : ℕ
  end = at + (dc + 7)

  abbrev bytes : List ℕ
  bytes = take (end - at) (drop at s)

  inside : end ≤ length s
  inside = (pass s at dc was.whole h e).inside

  size : end - at ≡ size_in (drop at s)
  size = let z = size-at s at dc e in omega arith

  enough : end - at ≤ length (drop at s)
  enough = let k = inside in let d = length-drop at s in omega arith

  -- the words that are written there: from the bytes, or where the words of the bytes stand already
  pub words-of-bytes : framed (map word (take (length bytes - 4) (drop 3 bytes))) ≡ words (packet_of_bytes (drop at s))
  words-of-bytes = framed-body bytes (part-size (drop at s) (end - at) size enough) ∙ ap words (part-packet (drop at s) (end - at) size enough)

  pub words-of-coded : drop at out ≡ map word (drop at s)
      → framed (take (length (take (end - at) (drop at out)) - 4) (drop 3 (take (end - at) (drop at out)))) ≡ words (packet_of_bytes (drop at s))
  words-of-coded coded =
      let e : take (end - at) (drop at out) ≡ map word bytes = ap (take (end - at)) coded ∙ map-take (end - at) (drop at s) in
      ap (λ (t : List ℕ). framed (take (length t - 4) (drop 3 t))) e
      ∙ framed-bytes bytes (part-size (drop at s) (end - at) size enough)
      ∙ ap words (part-packet (drop at s) (end - at) size enough)

  -- what comes back
  module _ (ys : List ℕ) (q : ys ≡ words (packet_of_bytes (drop at s))) where
    abbrev further : List ℕ
    further = take at out ++ (ys ++ drop (end - at) (drop at out))

    ys-long : length ys ≡ end - at
    ys-long =
        let n = words_long (drop at s) (let k = enough in let z = size in omega arith) in
        ap length q ∙ n ∙ sym size

    pub wording-more : Wording s further end
    wording-more =
        let p = pass s at dc was.whole h e in
        let k = p.inside in
        let l = was.long in
        let qs : List Packet = packets_shown (drop end s) in
        let n : all_words (packets_shown (drop at s)) ≡ ys ++ all_words qs =
        ap all_words p.front ∙ ap (λ (v : List ℕ). v ++ all_words qs) (sym q) in
        record {
          whole = p.rest;
          long = part-long out ys at end (omega arith) (omega arith) ys-long ∙ l;
          rest =
              part-more out ys at end (omega arith) (omega arith) ys-long (all_words qs)
              ∙ ap (λ (v : List ℕ). take at out ++ v) (sym n)
              ∙ was.rest;
        }

    -- behind them the words of the bytes stand as they did
    pub coded-behind : drop at out ≡ map word (drop at s) → drop end further ≡ map word (drop end s)
    coded-behind coded =
        let k = inside in
        let l = was.long in
        let again : at + (end - at) ≡ end = omega arith in
        part-behind out ys at end (omega arith) (omega arith) ys-long
        ∙ ap (drop (end - at)) coded
        ∙ map-drop (end - at) (drop at s)
        ∙ ap (map word) (drop-drop (end - at) at s ∙ ap (λ (n : ℕ). drop n s) again)

-- ---- the words of one packet

-- where words stand, the flag is put in front and CS behind
module _ (out : List ℕ) (cs : ℕ) (h : 4 ≤ length out) where
  abbrev last : ℕ
  last = length out - 1

  abbrev flagged : List ℕ
  flagged = three_of out 0x000 0x3FF 0x3FF

  abbrev coded-part : List ℕ
  coded-part = take (last - 3) (drop 3 flagged)

  coded-long : length coded-part ≡ last - 3
  coded-long =
      let d : length flagged ≡ length out = simp length-set in
      length-take-le (last - 3) (drop 3 flagged) (let e = length-drop 3 flagged in omega arith)

  coded-is : coded-part ≡ take (length out - 4) (drop 3 out)
  coded-is =
      let e : last - 3 ≡ length out - 4 = omega arith in
      ap (take (last - 3)) (three-tail out 0x000 0x3FF 0x3FF) ∙ ap (λ (n : ℕ). take n (drop 3 out)) e

  -- the part is as it was
  part-back : back_of flagged coded-part last ≡ flagged
  part-back = ap (λ (t : List ℕ). take 3 flagged ++ t) (take-append-drop (last - 3) (drop 3 flagged)) ∙ take-append-drop 3 flagged

  pub words-written : cs ≡ check coded-part → set flagged last cs ≡ framed (take (length out - 4) (drop 3 out))
  unfolding framed
  words-written e =
      let n : length (set flagged last cs) ≡ last + 1 = simp length-set (omega arith) in
      sym (take_all (last + 1) (set flagged last cs) (omega arith))
      ∙ ap (λ (t : List ℕ). take (last + 1) (set t last cs)) (sym part-back)
      ∙ back-set out coded-part 0x000 0x3FF 0x3FF last cs (omega arith) (omega arith) coded-long
      ∙ ap₂ (λ (t : List ℕ) (w : ℕ). 0x000 ∷ 0x3FF ∷ 0x3FF ∷ (t ++ w ∷ [])) coded-is (e ∙ ap check coded-is)

-- the buffer is not as long as the words are
pub no_words_lem : (s out : List ℕ) → (length out ≡ length s + 4 → ⊥) → out ≡ words_after s out
unfolding words_after
no_words_lem s out h = rw (ne_eqb (length out) (length s + 4) h)

-- it is: the words of the bytes were written behind the flag's place, and then the flag and CS
module _ (s out ys : List ℕ) (h : length out ≡ length s + 4) (hy : ys ≡ map word s) where
  abbrev between : List ℕ
  between = take 3 out ++ (ys ++ drop (3 + length s - 3) (drop 3 out))

  between-part : length ys ≡ 3 + length s - 3
  between-part = ap length hy ∙ length-map s word ∙ (omega arith)

  pub between-long : length between ≡ length out
  between-long = part-long out ys 3 (3 + length s) (omega arith) (omega arith) between-part

  pub one-packet : (r : List ℕ) → r ≡ framed (take (length between - 4) (drop 3 between)) → r ≡ words_after s out
  one-packet r e =
      let n : length between - 4 ≡ length ys = let k = between-long in let l = between-part in omega arith in
      let a : drop 3 between ≡ ys ++ drop (3 + length s - 3) (drop 3 out) =
      drop_at (take 3 out) (ys ++ drop (3 + length s - 3) (drop 3 out)) 3 (length-take-le 3 out (omega arith)) in
      let b : take (length between - 4) (drop 3 between) ≡ ys =
      ap₂ take n a ∙ take_at ys (drop (3 + length s - 3) (drop 3 out)) (length ys) refl in
      e ∙ ap framed (b ∙ hy) ∙ sym (words-after s out h)

-- ---- the words of one packet, by the table

small_of : (b p : ℕ) → b < 256 → p < 2 → b + 256 * p + 512 * (1 - p) < 1024
small_of b p h k = omega arith

word_small : (b : ℕ) → b < 256 → word b < 1024
unfolding word parity
word_small b h = small_of b (ones b % 2) h (omega arith)

pub looked-up : (t : List ℕ) (b r : ℕ) → t ≡ word_table → r ≡ b → r < 256 → (get_or t r 0 ≡ word b) × (get_or t r 0 < 1024)
looked-up t b r right e h =
    let w : get_or t r 0 ≡ word r = rw right (table_at r h) in
    (w ∙ ap word e, let k = word_small r h in omega arith)

-- a number more in a sum modulo 512, its low nine bits in the other
nine-more : (a x y : ℕ) → x % 512 ≡ y % 512 → (a + x) % 512 ≡ (a % 512 + y) % 512
nine-more a x y e = omega arith

three-more : (a b c x y : ℕ) → x % 512 ≡ y % 512 → (a + b + c + x) % 512 ≡ (a % 512 + (b % 512 + (c % 512 + y))) % 512
three-more a b c x y e =
    let n : a + b + c + x ≡ a + (b + (c + x)) = omega arith in
    rw n (nine-more a (b + (c + x)) (b % 512 + (c % 512 + y)) (nine-more b (c + x) (c % 512 + y) (nine-more c x y e)))

-- from DID on: the flag, the words lent and come back, and then CS
module _ (s out ys : List ℕ) (h : length out ≡ length s + 4) (hy : ys ≡ map word s) where
  abbrev behind-flag : List ℕ
  behind-flag = back_of (three_of out 0x000 0x3FF 0x3FF) ys (length s + 3)

  few-count : length ys ≡ length s + 3 - 3
  few-count = ap length hy ∙ length-map s word ∙ (omega arith)

  pub few-long : length behind-flag ≡ length out
  few-long = back_long out ys 0x000 0x3FF 0x3FF (length s + 3) 0 (omega arith) (omega arith) few-count

  pub few-written : (sum cs : ℕ) → sum % 512 ≡ sum9 (map word s) % 512 → cs ≡ check_sum sum → set behind-flag (length s + 3) cs ≡ framed (map word s)
  unfolding framed
  few-written sum cs e g =
      let l = few-long in
      let n : length (set behind-flag (length s + 3) cs) ≡ length s + 3 + 1 = length-set behind-flag (length s + 3) cs ∙ (omega arith) in
      sym (take_all (length s + 3 + 1) (set behind-flag (length s + 3) cs) (omega arith))
      ∙ back-set out ys 0x000 0x3FF 0x3FF (length s + 3) cs (omega arith) (omega arith) few-count
      ∙ ap₂ (λ (t : List ℕ) (w : ℕ). 0x000 ∷ 0x3FF ∷ 0x3FF ∷ (t ++ w ∷ [])) hy (g ∙ check-of-sum sum (map word s) e)

-- the first six words stand in front of what was there
module _ (s out hs : List ℕ) (h : 7 ≤ length s) (l : length out ≡ length s) (hh : hs ≡ head_of s ++ drop 6 out) where
  pub headed-long : length hs ≡ length s
  headed-long =
      let k = length-append (head_of s) (drop 6 out) in
      let d = length-drop 6 out in
      ap length hh ∙ (omega arith)

  -- the user words have come back, and then CS is written
  module _ (ys : List ℕ) (hy : ys ≡ map word (take (length s - 1 - 6) (drop 6 s))) where
    abbrev users : List ℕ
    users = take 6 hs ++ (ys ++ drop (length s - 1 - 6) (drop 6 hs))

    abbrev coded-words : List ℕ
    coded-words = map word (take (length s - 4) (drop 3 s))

    count : length ys ≡ length s - 1 - 6
    count =
        let d = length-drop 6 s in
        ap length hy ∙ length-map (take (length s - 1 - 6) (drop 6 s)) word ∙ length-take-le (length s - 1 - 6) (drop 6 s) (omega arith)

    pub users-long : length users ≡ length s
    users-long = let k = headed-long in part-long hs ys 6 (length s - 1) (omega arith) (omega arith) count ∙ k

    coded-are : coded-words ≡ word (get_or s 3 0) ∷ word (get_or s 4 0) ∷ word (get_or s 5 0) ∷ ys
    coded-are =
        let n : length s - 4 ≡ 3 + (length s - 1 - 6) = omega arith in
        rw (n, take-add 3 (length s - 1 - 6) (drop 3 s), drop-drop 3 3 s, heads s (omega arith), hy)

    pub packet-written : (ids sum cs : ℕ) → ids ≡ id_sum s → sum % 512 ≡ (ids + sum9 ys) % 512 → cs ≡ check_sum sum
        → set users (length s - 1) cs ≡ framed coded-words
    unfolding framed
    packet-written ids sum cs e f g =
        let k = users-long in
        let m = headed-long in
        let c = count in
        let last : ℕ = length s - 1 in
        let n : length (set users last cs) ≡ last + 1 = length-set users last cs ∙ (omega arith) in
        let front : take last users ≡ head_of s ++ ys =
        part-front 6 (last - 6) last hs ys (omega arith) (omega arith) ∙ ap (λ (t : List ℕ). take 6 t ++ ys) hh in
        let nine : (ids + sum9 ys) % 512 ≡ sum9 coded-words % 512 =
        rw (e, coded-are) (three-more (word (get_or s 3 0)) (word (get_or s 4 0)) (word (get_or s 5 0)) (sum9 ys) (sum9 ys) refl) in
        let cs-is : cs ≡ check coded-words = g ∙ check-of-sum sum coded-words (f ∙ nine) in
        sym (take_all (last + 1) (set users last cs) (omega arith))
        ∙ rw (add-one last) (take-suc-set users last cs (omega arith))
        ∙ ap (λ (t : List ℕ). t ++ cs ∷ []) front
        ∙ ap₂ (λ (t : List ℕ) (w : ℕ). 0x000 ∷ 0x3FF ∷ 0x3FF ∷ (t ++ w ∷ [])) (sym coded-are) cs-is

-- ---- the sections

module _ (sys packets : ℕ) (s out ls : List ℕ) (m : Measured packets s out) (hl : ls ≡ locations (packets_shown s)) where
  abbrev before : List ℕ
  before = back_of (three_of out 1 sys packets) ls (3 + 2 * packets)

  abbrev counted : List ℕ
  counted = set before (3 + 2 * packets) (length s)

  all_words_lem : length s ≡ length (all_words (packets_shown s))
  all_words_lem = sym (whole_long s m.whole).same

  module _ (ws : List ℕ) (hw : ws ≡ all_words (packets_shown s)) where
    abbrev all : List ℕ
    all = take (3 + 2 * packets + 1) counted ++ (ws ++ drop (length counted - (3 + 2 * packets + 1)) (drop (3 + 2 * packets + 1) counted))

    pub sections-written : all ≡ sheet_of sys (packets_shown s)
    sections-written = sheet-filled sys packets (length s) (packets_shown s) out ls m.count all_words_lem m.room hl ws hw

-- ---- the sheet

module _ (sys : ℕ) (s buffer : List ℕ) where
  abbrev Answer : Option ℕ → List ℕ → Type 0
  Answer n after = (n ≡ wrote sys s (length buffer)) × (after ≡ sheet_after sys s buffer)

  -- nothing is written
  nothing : (o : Outcome) → shown s ≡ o → ((ps : List Packet) → o ≡ listed ps → has_room sys (length buffer) ps ≡ false) → Answer None buffer
  unfolding wrote sheet_after
  nothing (refused n i) e h = rw e (refl, refl)
  nothing (listed ps) e h = rw (e, h ps refl) (refl, refl)

  -- where the bytes are whole packets, and their sheet has n numbers
  module _ (packets n : ℕ) (w : Whole s) (c : packets ≡ length (packets_shown s)) (m : n ≡ 4 + 2 * packets + length s)
      (short : length s ≤ 9360) where
    numbers : length (sheet_of sys (packets_shown s)) ≡ n
    numbers =
        let a = sheet-length sys (packets_shown s) in
        let b = words-room (packets_shown s) in
        let d = (whole_long s w).same in
        omega arith

    pub no_room : length buffer < n → Answer None buffer
    no_room h = nothing (shown s) refl full
      where
        full : (ps : List Packet) → shown s ≡ listed ps → has_room sys (length buffer) ps ≡ false
        full ps q =
            let k : length (sheet_of sys ps) ≡ n = ap (λ (o : Outcome). length (sheet_of sys (list_in o))) (sym q) ∙ numbers in
            second-false (leb (length (all_words ps)) 65535) _ (lt-leb (length (sheet_of sys ps)) (length buffer) (omega arith))

    pub all_room : n ≤ length buffer → (ys : List ℕ) → ys ≡ sheet_of sys (packets_shown s) → Answer (Some n) (ys ++ drop n buffer)
    unfolding wrote sheet_after
    all_room h ys q = go (shown s) (packets_shown s) w q numbers (words-short s (packets_shown s) w short)
      where
        go : (o : Outcome) (ps : List Packet) → o ≡ listed ps → ys ≡ sheet_of sys ps → length (sheet_of sys ps) ≡ n
            → leb (length (all_words ps)) 65535 ≡ true → (Some n ≡ wrote_of sys (length buffer) o) × (ys ++ drop n buffer ≡ after_of sys buffer o)
        go o ps e q k x = rw (e, x, k, le-leb n (length buffer) h) (refl, ap (λ (t : List ℕ). t ++ drop n buffer) q)

  -- what `measure` answers
  module _ (r : Option ℕ) (e : r ≡ count_from 0 (shown s)) where
    pub not-whole : r ≡ None → Answer None buffer
    not-whole h = nothing (shown s) refl (λ ps q. never (let n : r ≡ count_from 0 (listed ps) = e ∙ ap (count_from 0) q in cc))

-- ---- the sheet of a string that is the front of an array

-- what is known of it once it has been measured
pub record Known (us : List ℕ) (end bytes packets : ℕ) : Type 0 where
  pub same : take bytes us ≡ take end us
  pub long : length (take bytes us) ≡ bytes
  pub short : bytes ≤ 9360
  pub whole : Whole (take bytes us)
  pub count : packets ≡ length (packets_shown (take bytes us))
  pub few : packets ≤ 9360

module _ (us : List ℕ) (end bytes : ℕ) (r : Option ℕ) (all : length us ≡ 9360)
    (w : (bytes ≤ 9360) × ((s : List ℕ) → length s ≡ 9360 → take bytes s ≡ take end s)) (e : r ≡ count_to bytes 0 0 us) where
  counted-from : r ≡ count_from 0 (shown (take bytes us))
  counted-from = e ∙ rw (leb-zero bytes)

  pub known : (packets : ℕ) → r ≡ Some packets → Known us end bytes packets
  known packets h =
      let k = is_whole (shown (take bytes us)) (sym h ∙ counted-from) in
      let b = w.0 in
      let l : length (take bytes us) ≡ bytes = length-take-le bytes us (omega arith) in
      let f = (whole_long (take bytes us) k.0).few in
      record { same = w.1 us all; long = l; short = b; whole = k.0; count = k.1; few = omega arith }
    where
      is_whole : (o : Outcome) → Some packets ≡ count_from 0 o → (o ≡ listed (list_in o)) × (packets ≡ length (list_in o))
      is_whole (listed ps) e = (refl, let n : packets ≡ 0 + length ps = cc in omega arith)
      is_whole (refused n i) e = never (cc)

  -- no whole packets, and nothing is written
  pub none-written : (sys : ℕ) (buffer : List ℕ) → r ≡ None → Answer sys (take end us) buffer None buffer
  none-written sys buffer h = rw (w.1 us all) at (not-whole sys (take bytes us) buffer r counted-from h)

module _ (sys : ℕ) (buffer : List ℕ) {us : List ℕ} {end bytes packets : ℕ} (k : Known us end bytes packets) where
  abbrev n : ℕ
  n = 4 + 2 * packets + bytes

  -- the sheet has no room, or it is written
  pub no-room-written : length buffer < n → Answer sys (take end us) buffer None buffer
  no-room-written m =
      let l = k.long in
      let b = k.short in
      rw k.same at (no_room sys (take bytes us) buffer packets n k.whole k.count (omega arith) (omega arith) m)

  pub sheet-written : n ≤ length buffer → (ys : List ℕ) → ys ≡ sheet_of sys (packets_shown (take bytes us))
      → Answer sys (take end us) buffer (Some n) (ys ++ drop n buffer)
  sheet-written m ys q =
      let l = k.long in
      let b = k.short in
      rw k.same at (all_room sys (take bytes us) buffer packets n k.whole k.count (omega arith) (omega arith) m ys q)

-- What the proofs of the functions rest on.
--
-- In order: the parity of a byte; the table of words; words tested one by one; a pass over words; a pass over a part of them; the sum that CS
-- holds; the word that a number names; the packets before the one that is named.
-- Assumes nothing.
use Prim.Native.Nat.{ℕ, zero, suc, ◌+◌, ◌-◌, ◌*◌, ◌/◌, ◌%◌, ◌≤◌, ◌<◌}
use mathlib.Core.Path.{◌≡◌, refl, ap, sym, ◌∙◌}
use mathlib.Core.Bool.{Bool, true, false, cond, ◌&&◌}
use mathlib.Core.List.{List, [], ◌∷◌, ◌++◌}
use native.Mathlib.Omega.{arith}
use native.Mathlib.Nat.{add-zero, zero-add, le_refl}
use native.Mathlib.Numerals.{add-one}
use lib.Bits.{bit_xor}
use lib.Dec.{eqb}
use lib.ListN.{length, get_or, take, drop, drop_of_length-le, take-append-drop}
use lib.Seq.{drop-cons, drop-drop, take_all}
use borrow.Author.Tests.{eq-eqb, ne_eqb, eqb-true}
use Rattle.rules.specs.Packet.{parity, word, sum9, check}
use Rattle.rules.specs.Laying.{is_word, are_words, dc_in, words_fault, words_before, flag_word, word_at, type_of, judged}
use Rattle.rules.proofs.Basics.{both, rest_part}
use Rattle.rules.proofs.Words.{words_append, fault-long}
use Rattle.packet.specs.Run.{pass_of, check_sum, words_from, word_table, SizeOf}
use Rattle.packet.specs.declared.Pass.{Pass}

-- ---- the parity of a byte

-- the test passes at every number below n
abbrev every : (ℕ → Bool) → ℕ → Bool
every test zero = true
every test (suc n) = test 0 && every (λ b. test (suc b)) n

every-at : (test : ℕ → Bool) (n b : ℕ) → every test n ≡ true → b < n → test b ≡ true
every-at test zero b e h = absurd (omega arith)
every-at test (suc n) zero e h = (both (test 0) (every (λ b. test (suc b)) n) e).0
every-at test (suc n) (suc b) e h = every-at (λ b. test (suc b)) n b (both (test 0) (every (λ b. test (suc b)) n) e).1 (omega arith)

-- each bit of b against the one that stands k times as high: 1 where they differ
abbrev fold : ℕ → ℕ → ℕ
fold k b = bit_xor b (b / k)

abbrev folded : ℕ → ℕ
folded b = fold 2 (fold 4 (fold 16 b)) % 2

-- the test of all 256 bytes is computed
pub folded-parity : (b : ℕ) → b < 256 → folded b ≡ parity b
unfolding parity
folded-parity b h = eqb-true (folded b) (parity b) (every-at (λ b. eqb (folded b) (parity b)) 256 b refl h)

-- ---- the table of words

from_at : (n b i : ℕ) → i < n → get_or (words_from b n) i 0 ≡ word (b + i)
from_at zero b i h = absurd (omega arith)
from_at (suc n) b zero h = rw (add-zero b)
from_at (suc n) b (suc i) h =
    let e : suc b + i ≡ b + suc i = omega arith in
    from_at n (suc b) i (omega arith) ∙ ap word e

pub table_at : (b : ℕ) → b < 256 → get_or word_table b 0 ≡ word b
unfolding word_table
table_at b h = from_at 256 0 b h ∙ ap word (zero-add b)

-- a word is looked up by its low byte
pub table-word : (t : List ℕ) (w b : ℕ) → t ≡ word_table → b ≡ w % 256 → eqb w (get_or t b 0) ≡ is_word w
unfolding is_word
table-word t w b right e = rw (right, e, table_at (w % 256) (omega arith))

-- ---- words tested one by one

one_right : (b x : Bool) (n k : ℕ) → suc n ≤ cond b (suc k) 0 → (n ≤ k → x ≡ true) → (b && x) ≡ true
one_right true x n k h f = f (omega arith)
one_right false x n k h f = absurd (omega arith)

one-wrong : (b x : Bool) (n k : ℕ) → cond b (suc k) 0 < suc n → (k < n → x ≡ false) → (b && x) ≡ false
one-wrong true x n k h f = f (omega arith)
one-wrong false x n k h f = refl

-- whether a test holds of all of some words, and how many stand in front of the first of which it does not
pub record Each (test : ℕ → Bool) (all : List ℕ → Bool) (before : List ℕ → ℕ) : Type 0 where
  pub nothing : all [] ≡ true
  pub first : (w : ℕ) (ws : List ℕ) → all (w ∷ ws) ≡ (test w && all ws)
  pub none : before [] ≡ 0
  pub front : (w : ℕ) (ws : List ℕ) → before (w ∷ ws) ≡ cond (test w) (suc (before ws)) 0

pub each_word : Each is_word are_words words_before
each_word = record { nothing = refl; first = λ w ws. refl; none = refl; front = λ w ws. refl }

module _ (test : ℕ → Bool) (all : List ℕ → Bool) (before : List ℕ → ℕ) (e : Each test all before) where
  -- in a pass: what the word at i adds, and the end
  pub each_next : (ok : Bool) (i : ℕ) (ws : List ℕ) → i < length ws
      → ((ok && test (get_or ws i 0)) && all (drop (i + 1) ws)) ≡ (ok && all (drop i ws))
  each_next true i ws h = rw (add-one i, drop-cons ws i 0 h) (sym (e.first (get_or ws i 0) (drop (suc i) ws)))
  each_next false i ws h = refl

  pub each-end : (ok : Bool) (i : ℕ) (ws : List ℕ) → length ws ≤ i → (ok && all (drop i ws)) ≡ ok
  each-end true i ws h = rw (drop_of_length-le ws h) e.nothing
  each-end false i ws h = refl

  -- in a search: the test holds of the word at i, or does not, or there is none
  pub search-next : (i : ℕ) (ws : List ℕ) → i < length ws → test (get_or ws i 0) ≡ true → i + 1 + before (drop (i + 1) ws) ≡ i + before (drop i ws)
  search-next i ws h q =
      let f : before (drop i ws) ≡ suc (before (drop (suc i) ws)) = rw (drop-cons ws i 0 h, e.front (get_or ws i 0) (drop (suc i) ws), q) in
      rw (add-one i) (omega arith)

  pub search-here : (i : ℕ) (ws : List ℕ) → i < length ws → test (get_or ws i 0) ≡ false → i ≡ i + before (drop i ws)
  search-here i ws h q =
      let f : before (drop i ws) ≡ 0 = rw (drop-cons ws i 0 h, e.front (get_or ws i 0) (drop (suc i) ws), q) in
      omega arith

  pub search-end : (i : ℕ) (ws : List ℕ) → length ws ≤ i → i ≡ i + before (drop i ws)
  search-end i ws h = let f : before (drop i ws) ≡ 0 = rw (drop_of_length-le ws h) e.none in omega arith

  -- of so many words the test holds, and of more it does not
  pub each-before : (n : ℕ) (s : List ℕ) → n ≤ before s → all (take n s) ≡ true
  each-before zero s h = e.nothing
  each-before (suc n) [] h = e.nothing
  each-before (suc n) (w ∷ s) h =
      let f = e.front w s in
      e.first w (take n s) ∙ one_right (test w) (all (take n s)) n (before s) (omega arith) (λ k. each-before n s k)

  pub each-past : (n : ℕ) (s : List ℕ) → n ≤ length s → before s < n → all (take n s) ≡ false
  each-past zero s l h = absurd (omega arith)
  each-past (suc n) [] l h = absurd (omega arith)
  each-past (suc n) (w ∷ s) l h =
      let f = e.front w s in
      e.first w (take n s) ∙ one-wrong (test w) (all (take n s)) n (before s) (omega arith) (λ k. each-past n s (omega arith) k)

-- ---- a pass over words: what the word at i adds, and the end

pub words-end : (ok : Bool) (i : ℕ) (ws : List ℕ) → length ws ≤ i → (ok && are_words (drop i ws)) ≡ ok
words-end ok i ws h = each-end is_word are_words words_before each_word ok i ws h

pub sum9-next : (i : ℕ) (ws : List ℕ) → i < length ws → sum9 (drop i ws) ≡ get_or ws i 0 % 512 + sum9 (drop (i + 1) ws)
sum9-next i ws h = rw (add-one i, drop-cons ws i 0 h)

pub sum9-end : (i : ℕ) (ws : List ℕ) → length ws ≤ i → sum9 (drop i ws) ≡ 0
sum9-end i ws h = rw (drop_of_length-le ws h)

-- ---- a pass over a part: what it finds of the n words from `at` on, joined with what those behind give

sum9-append : (vs ws : List ℕ) → sum9 (vs ++ ws) ≡ sum9 vs + sum9 ws
sum9-append [] ws = omega arith
sum9-append (v ∷ vs) ws = omega (arith, sum9-append vs ws)

part-joined : (n at : ℕ) (ws : List ℕ) → take n (drop at ws) ++ drop (at + n) ws ≡ drop at ws
part-joined n at ws = rw (← drop-drop n at ws) (take-append-drop n (drop at ws))

pub words-part : (ok : Bool) (n at m : ℕ) (ws : List ℕ) (r : Pass) → r ≡ pass_of (take n (drop at ws)) → at + n ≡ m
    → ((ok && r.words) && are_words (drop m ws)) ≡ (ok && are_words (drop at ws))
words-part true n at m ws r e f =
    rw (e, ← f) (sym (words_append (take n (drop at ws)) (drop (at + n) ws)) ∙ ap are_words (part-joined n at ws))
words-part false n at m ws r e f = refl

pub sum9-part : (n at m : ℕ) (ws : List ℕ) (r : Pass) → r ≡ pass_of (take n (drop at ws)) → at + n ≡ m
    → r.sum + sum9 (drop m ws) ≡ sum9 (drop at ws)
sum9-part n at m ws r e f =
    rw (e, ← f) (sym (sum9-append (take n (drop at ws)) (drop (at + n) ws)) ∙ ap sum9 (part-joined n at ws))

-- two words summed apart, and the rest reduced already
pub sum9-ids : (ws : List ℕ) (a b r : ℕ) → 2 ≤ length ws → a ≡ get_or ws 0 0 % 512 → b ≡ get_or ws 1 0 % 512
    → r ≡ sum9 (take (length ws - 2) (drop 2 ws)) % 512 → (a + b + r) % 512 ≡ sum9 ws % 512
sum9-ids [] a b r h e f g = absurd (omega arith)
sum9-ids (v ∷ []) a b r h e f g = absurd (omega arith)
sum9-ids (v ∷ w ∷ ws) a b r h e f g = let k = rw (rest_part 2 (v ∷ w ∷ ws)) at g in omega arith

-- 258 × 511 = 131,838 for the words of a packet
pub sum9-most : (n : ℕ) (ws : List ℕ) → sum9 (take n ws) ≤ 511 * n
sum9-most zero ws = omega arith
sum9-most (suc n) [] = omega arith
sum9-most (suc n) (w ∷ ws) = omega (arith, sum9-most n ws)

-- ---- the sum that CS holds, which may be reduced before

pub check-of-sum : (n : ℕ) (ws : List ℕ) → n % 512 ≡ sum9 ws % 512 → check_sum n ≡ check ws
unfolding check
check-of-sum n ws e = rw e

-- ---- the word that a number names

-- the flag, a word at a time: the first that is missing or wrong, or all three are right
pub flag-0 : (s : List ℕ) → (0 < length s → get_or s 0 0 ≡ 0x000 → ⊥) → 0 ≡ flag_word s
unfolding flag_word
flag-0 [] h = refl
flag-0 (a ∷ s) h = rw (ne_eqb a 0x000 (h (omega arith)))

pub flag-1 : (s : List ℕ) → 0 < length s → get_or s 0 0 ≡ 0x000 → (1 < length s → get_or s 1 0 ≡ 0x3FF → ⊥) → 1 ≡ flag_word s
unfolding flag_word
flag-1 [] l e h = absurd (omega arith)
flag-1 (a ∷ []) l e h = rw (eq-eqb a 0x000 e)
flag-1 (a ∷ b ∷ s) l e h = rw (eq-eqb a 0x000 e, ne_eqb b 0x3FF (h (omega arith)))

pub flag-2 : (s : List ℕ) → 1 < length s → get_or s 0 0 ≡ 0x000 → get_or s 1 0 ≡ 0x3FF → (2 < length s → get_or s 2 0 ≡ 0x3FF → ⊥) → 2 ≡ flag_word s
unfolding flag_word
flag-2 [] l e f h = absurd (omega arith)
flag-2 (a ∷ []) l e f h = absurd (omega arith)
flag-2 (a ∷ b ∷ []) l e f h = rw (eq-eqb a 0x000 e, eq-eqb b 0x3FF f)
flag-2 (a ∷ b ∷ c ∷ s) l e f h = rw (eq-eqb a 0x000 e, eq-eqb b 0x3FF f, ne_eqb c 0x3FF (h (omega arith)))

pub flag-right : (s : List ℕ) → 2 < length s → get_or s 0 0 ≡ 0x000 → get_or s 1 0 ≡ 0x3FF → get_or s 2 0 ≡ 0x3FF → length s ≡ flag_word s
unfolding flag_word
flag-right [] l e f g = absurd (omega arith)
flag-right (a ∷ []) l e f g = absurd (omega arith)
flag-right (a ∷ b ∷ []) l e f g = absurd (omega arith)
flag-right (a ∷ b ∷ c ∷ s) l e f g = rw (eq-eqb a 0x000 e, eq-eqb b 0x3FF f, eq-eqb c 0x3FF g)

-- one packet alone: no words, refused or sound
pub one_none : (s : List ℕ) → length s ≡ 0 → record { number = 7; word = 0; kind = 0 } ≡ judged s
unfolding judged words_fault word_at flag_word
one_none [] h = refl
one_none (w ∷ s) h = absurd (omega arith)

module _ (s : List ℕ) where
  pub one-refused : eqb (words_fault s) 0 ≡ false → record { number = words_fault s; word = word_at (words_fault s) s; kind = 0 } ≡ judged s
  unfolding judged
  one-refused z = rw z

  pub one-sound : (kind : ℕ) → eqb (words_fault s) 0 ≡ true → kind ≡ type_of (get_or s 3 0 % 256)
      → record { number = 0; word = 0; kind = kind } ≡ judged s
  unfolding judged word_at
  one-sound kind z k = rw (eqb-true (words_fault s) 0 z, k)

  pub one-long : eqb (words_fault s) 0 ≡ true → 3 < length s
  one-long z = let l = fault-long s (eqb-true (words_fault s) 0 z) in omega arith

-- ---- the packets before the one that is named

-- how many words a packet takes, where there are fewer and where there are as many
pub size-short : (s : List ℕ) (d : ℕ) → d ≡ dc_in s → length s < d + 7 → SizeOf s (length s)
size-short s d e h =
    let l : length s ≤ dc_in s + 7 = omega arith in
    record {
      within = le_refl (length s);
      front = take_all (length s) s (le_refl (length s)) ∙ sym (take_all (dc_in s + 7) s l);
      behind = drop_of_length-le s (le_refl (length s)) ∙ sym (drop_of_length-le s l);
    }

pub size-whole : (s : List ℕ) (d : ℕ) → d ≡ dc_in s → d + 7 ≤ length s → SizeOf s (d + 7)
size-whole s d e h =
    record { within = h; front = ap (λ (n : ℕ). take (n + 7) s) e; behind = ap (λ (n : ℕ). drop (n + 7) s) e }

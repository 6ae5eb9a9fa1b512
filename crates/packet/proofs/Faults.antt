-- The first fault of the packet in front, in the order of its tests: what the code has found where it stops says which it is.
--
-- In order: DID, SDID and DC; the tests; the tests by the place of the first wrong word.
-- Assumes nothing.
use Prim.Native.Nat.{ℕ, ◌+◌, ◌-◌, ◌%◌, ◌≤◌, ◌<◌, min}
use mathlib.Core.Path.{◌≡◌, refl, sym, ap, ap₂, ◌∙◌}
use mathlib.Core.Bool.{Bool, true, false, cond, not, ◌&&◌, ◌||◌}
use mathlib.Core.List.{List, [], ◌∷◌}
use native.Mathlib.Omega.{arith}
use lib.Dec.{eqb, ltb}
use lib.ListN.{length, get_or, take, drop, length-take, length-drop}
use lib.Seq.{take-add, take-take, drop-drop}
use borrow.Author.Tests.{ltb-false, lt-ltb, le-ltb, ne_eqb}
use Rattle.rules.specs.Packet.{sum9, check}
use Rattle.rules.specs.Laying.{is_word, are_words, flagged, dc_in, fault_by, words_fault, words_before}
use Rattle.rules.proofs.Basics.{neither, second-false, drop-take}
use Rattle.rules.proofs.Words.{words_append, front-shown}
use Rattle.packet.specs.Run.{check_sum}
use Rattle.packet.proofs.Laws.{each_word, each-before, each-past, check-of-sum}

-- ---- DID, SDID and DC

pub heads : (s : List ℕ) → 6 ≤ length s → take 3 (drop 3 s) ≡ get_or s 3 0 ∷ get_or s 4 0 ∷ get_or s 5 0 ∷ []
heads s h = front-shown 0 s h

-- each is tested apart
module _ (s : List ℕ) (h : 6 ≤ length s) where
  abbrev head_words : Bool
  head_words = are_words (take 3 (drop 3 s))

  head-is : head_words ≡ (is_word (get_or s 3 0) && (is_word (get_or s 4 0) && (is_word (get_or s 5 0) && true)))
  head-is = ap are_words (heads s h)

  pub head-words : is_word (get_or s 3 0) ≡ true → is_word (get_or s 4 0) ≡ true → is_word (get_or s 5 0) ≡ true → head_words ≡ true
  head-words a b c = rw (head-is, a, b, c)

  pub did-wrong : is_word (get_or s 3 0) ≡ false → head_words ≡ false
  did-wrong a = rw (head-is, a)

  pub sdid-wrong : is_word (get_or s 4 0) ≡ false → head_words ≡ false
  sdid-wrong b = rw (head-is, b) (second-false (is_word (get_or s 3 0)) false refl)

  pub dc-wrong : is_word (get_or s 5 0) ≡ false → head_words ≡ false
  dc-wrong c =
      rw (head-is, c)
      (second-false (is_word (get_or s 3 0)) (is_word (get_or s 4 0) && false) (second-false (is_word (get_or s 4 0)) false refl))

-- CS from their low nine bits and the sum of the user words
pub check-parts : (s : List ℕ) (a b c u : ℕ) → 6 ≤ length s
    → a ≡ get_or s 3 0 % 512 → b ≡ get_or s 4 0 % 512 → c ≡ get_or s 5 0 % 512 → u ≡ sum9 (take (dc_in s) (drop 6 s))
    → check_sum (a + b + c + u) ≡ check (take (dc_in s + 3) (drop 3 s))
check-parts s a b c u h e f g k =
    let d : ℕ = dc_in s in
    let n : d + 3 ≡ 3 + d = omega arith in
    let t : take (d + 3) (drop 3 s) ≡ get_or s 3 0 ∷ get_or s 4 0 ∷ get_or s 5 0 ∷ take d (drop 6 s) =
    rw (n, take-add 3 d (drop 3 s), drop-drop 3 3 s, heads s h) in
    let q : sum9 (take (d + 3) (drop 3 s)) ≡ a + b + c + u = ap sum9 t ∙ (omega arith) in
    check-of-sum (a + b + c + u) (take (d + 3) (drop 3 s)) (ap (λ (m : ℕ). m % 512) (sym q))

-- ---- the tests, each with what those before it have found

-- too few words, or another flag
abbrev pub unflagged : List ℕ → Bool
unflagged s = ltb (length s) 7 || not (flagged s)

pub seven-words : (s : List ℕ) → unflagged s ≡ false → 7 ≤ length s
seven-words s flag = ltb-false (length s) 7 (neither (ltb (length s) 7) (not (flagged s)) flag).0

-- whatever 8 asks of words, and whatever is said of CS
module _ (right : List ℕ → Bool) (last : ℕ) (s : List ℕ) where
  pub by_flag : unflagged s ≡ true → 7 ≡ fault_by right last s
  by_flag e = rw e

  module _ (flag : unflagged s ≡ false) where
    pub by-head : right (take 3 (drop 3 s)) ≡ false → 8 ≡ fault_by right last s
    by-head e = rw (flag, e)

    module _ (head : right (take 3 (drop 3 s)) ≡ true) where
      pub by_size : length s < dc_in s + 7 → 9 ≡ fault_by right last s
      by_size h = rw (flag, head, lt-ltb (length s) (dc_in s + 7) h)

      -- the user words and CS are left
      pub by-rest : dc_in s + 7 ≤ length s → fault_by right last s ≡ cond (not (right (take (dc_in s) (drop 6 s)))) 8 last
      by-rest long = rw (flag, head, le-ltb (length s) (dc_in s + 7) long)

module _ (s : List ℕ) where
  pub fault-flag : unflagged s ≡ true → 7 ≡ words_fault s
  unfolding words_fault
  fault-flag e = by_flag are_words _ s e

  module _ (flag : unflagged s ≡ false) where
    pub fault-head : are_words (take 3 (drop 3 s)) ≡ false → 8 ≡ words_fault s
    unfolding words_fault
    fault-head e = by-head are_words _ s flag e

    module _ (head : are_words (take 3 (drop 3 s)) ≡ true) where
      pub fault-size : length s < dc_in s + 7 → 9 ≡ words_fault s
      unfolding words_fault
      fault-size h = by_size are_words _ s flag head h

      module _ (long : dc_in s + 7 ≤ length s) where
        -- CS alone is left behind the user words
        abbrev right : Bool
        right = eqb (get_or s (dc_in s + 6) 0) (check (take (dc_in s + 3) (drop 3 s)))

        rest : words_fault s ≡ cond (not (are_words (take (dc_in s) (drop 6 s)))) 8 (cond (not right) 10 0)
        unfolding words_fault
        rest = by-rest are_words _ s flag head long

        pub fault-user : are_words (take (dc_in s) (drop 6 s)) ≡ false → 8 ≡ words_fault s
        fault-user e = rw (rest, e)

        module _ (user : are_words (take (dc_in s) (drop 6 s)) ≡ true) where
          last : words_fault s ≡ cond (not right) 10 0
          last = rw (rest, user)

          sound-is : right ≡ eqb (words_fault s) 0
          sound-is = rw last (go right)
            where
              go : (b : Bool) → b ≡ eqb (cond (not b) 10 0) 0
              go true = refl
              go false = refl

          pub sound-check : (d cs : ℕ) → d ≡ dc_in s → cs ≡ check (take (dc_in s + 3) (drop 3 s)) → eqb (get_or s (d + 6) 0) cs
              ≡ eqb (words_fault s) 0
          sound-check d cs e f = ap₂ (λ (n w : ℕ). eqb (get_or s (n + 6) 0) w) e f ∙ sound-is

          pub fault-check : eqb (words_fault s) 0 ≡ false → 10 ≡ words_fault s
          fault-check e = rw (last, sound-is ∙ e)

-- a packet at fault is not sound
pub not-fine : (n f : ℕ) → 0 < n → n ≡ f → false ≡ eqb f 0
not-fine n f h e = sym (ne_eqb f 0 (λ z. absurd (omega arith)))

pub not_sound : (n : ℕ) (s : List ℕ) → 0 < n → n ≡ words_fault s → false ≡ eqb (words_fault s) 0
not_sound n s h e = not-fine n (words_fault s) h e

-- ---- the tests by the place of the first wrong word, looked for in the packet's own words

module _ (s : List ℕ) (w : ℕ) (e : w ≡ 3 + words_before (drop 3 (take (dc_in s + 7) s))) (l : 7 ≤ length s) where
  abbrev own : List ℕ
  own = drop 3 (take (dc_in s + 7) s)

  own-long : length own ≡ min (dc_in s + 7) (length s) - 3
  own-long = length-drop 3 (take (dc_in s + 7) s) ∙ ap (λ (n : ℕ). n - 3) (length-take (dc_in s + 7) s)

  own-part : (k : ℕ) → k ≤ dc_in s + 4 → take k own ≡ take k (drop 3 s)
  own-part k h =
      let n : dc_in s + 7 - 3 ≡ dc_in s + 4 = omega arith in
      rw (drop-take 3 (dc_in s + 7) s, n) (take-take k (dc_in s + 4) (drop 3 s) h)

  pub wrong-head : w < 6 → are_words (take 3 (drop 3 s)) ≡ false
  wrong-head h =
      let k = own-long in
      rw (← own-part 3 (omega arith)) (each-past is_word are_words words_before each_word 3 own (omega arith) (omega arith))

  pub right-head : 6 ≤ w → are_words (take 3 (drop 3 s)) ≡ true
  right-head h = rw (← own-part 3 (omega arith)) (each-before is_word are_words words_before each_word 3 own (omega arith))

  module _ (head : are_words (take 3 (drop 3 s)) ≡ true) where
    user-are : are_words (take (3 + dc_in s) own) ≡ are_words (take (dc_in s) (drop 6 s))
    user-are =
        ap are_words (own-part (3 + dc_in s) (omega arith))
        ∙ rw (take-add 3 (dc_in s) (drop 3 s), drop-drop 3 3 s, words_append (take 3 (drop 3 s)) (take (dc_in s) (drop 6 s)), head)

    pub wrong-user : dc_in s + 7 ≤ length s → w < dc_in s + 6 → are_words (take (dc_in s) (drop 6 s)) ≡ false
    wrong-user m h = sym user-are
        ∙ each-past is_word are_words words_before each_word (3 + dc_in s) own (let k = own-long in omega arith) (omega arith)

    pub right-user : dc_in s + 6 ≤ w → are_words (take (dc_in s) (drop 6 s)) ≡ true
    right-user h = sym user-are ∙ each-before is_word are_words words_before each_word (3 + dc_in s) own (omega arith)

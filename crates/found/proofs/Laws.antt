-- What each way through the code says of the rules, over plain values: the proofs of the functions hand these laws what the code knows.
--
-- In order: words over 3FFh; the tests of a packet; the sheet; the contract.
-- Assumes nothing.
use Prim.Native.Nat.{ℕ, ◌+◌, ◌≤◌, ◌<◌}
use mathlib.Core.Path.{◌≡◌, refl, sym, ap, subst, ◌∙◌}
use mathlib.Core.Bool.{Bool, true, false, cond, not, ◌&&◌}
use mathlib.Core.List.{List, [], ◌∷◌, ◌++◌}
use native.Mathlib.Omega.{arith}
use lib.Dec.{eqb}
use lib.ListN.{length, get_or, take, drop, length-drop}
use lib.Seq.{get_or-drop, drop-cons, take-add}
use borrow.Author.Tests.{le-ltb, ne_eqb}
use Rattle.std.proofs.Common.{Result, Ok, Err}
use Rattle.rules.specs.Packet.{Packet}
use Rattle.rules.specs.Sheet.{system_in, words_in}
use Rattle.rules.specs.Numbers.{Outcome, listed, refused}
use Rattle.rules.specs.Laying.{dc_in}
use Rattle.rules.specs.Found.{is_ten, are_ten, ten_before, found_fault, found_of_words, found_row, packets_found, found_word_at}
use Rattle.rules.specs.Found.{found_tests, SheetFound}
use Rattle.rules.specs.Refusals.{Told, told_of}
use Rattle.rules.specs.declared.Refused.{Refused}
use Rattle.rules.proofs.Basics.{never}
use Rattle.rules.proofs.Sheets.{system-back}
use Rattle.rules.proofs.Found.{ten-append, ten-parts, found-long, found-read, found-made}
use Rattle.packet.specs.Tests.{told_by}
use Rattle.packet.proofs.Laws.{Each, each-past, each-before}
use Rattle.packet.proofs.Faults.{unflagged, by_flag, by-head, by_size}
use Rattle.sheet.specs.Telling.{header_of, told_sheet}
use Rattle.sheet.specs.declared.Header.{Header}
use Rattle.found.specs.Checked.{checked, ChecksFound}

-- ---- words over 3FFh

pub each-ten : Each is_ten are_ten ten_before
each-ten = record { nothing = refl; first = λ w ws. refl; none = refl; front = λ w ws. refl }

-- ---- the tests of a packet

module _ (s : List ℕ) where
  -- DID to CS
  own-ten : dc_in s + 7 ≤ length s
      → are_ten (take (dc_in s + 4) (drop 3 s)) ≡ (are_ten (take (dc_in s + 3) (drop 3 s)) && is_ten (get_or s (dc_in s + 6) 0))
  own-ten long =
      let d : ℕ = dc_in s in
      let n : d + 4 ≡ (d + 3) + 1 = omega arith in
      let six : 3 + (d + 3) ≡ d + 6 = omega arith in
      let l = length-drop 3 s in
      let one : take 1 (drop (d + 3) (drop 3 s)) ≡ get_or s (d + 6) 0 ∷ [] =
      rw (drop-cons (drop 3 s) (d + 3) 0 (omega arith), get_or-drop 3 s (d + 3) 0, six) in
      ap are_ten (ap (λ (m : ℕ). take m (drop 3 s)) n ∙ take-add (d + 3) 1 (drop 3 s) ∙ ap (λ (t : List ℕ). take (d + 3) (drop 3 s) ++ t) one)
      ∙ ten-append (take (d + 3) (drop 3 s)) (get_or s (d + 6) 0 ∷ [])
      ∙ ap (λ (b : Bool). are_ten (take (d + 3) (drop 3 s)) && b) (last (is_ten (get_or s (d + 6) 0)))
    where
      last : (b : Bool) → (b && true) ≡ b
      last true = refl
      last false = refl

  pub fault-flag : unflagged s ≡ true → 7 ≡ found_fault s
  unfolding found_fault
  fault-flag e = by_flag are_ten _ s e

  pub fault-head : unflagged s ≡ false → are_ten (take 3 (drop 3 s)) ≡ false → 8 ≡ found_fault s
  unfolding found_fault
  fault-head flag e = by-head are_ten _ s flag e

  pub fault-size : unflagged s ≡ false → are_ten (take 3 (drop 3 s)) ≡ true → length s < dc_in s + 7 → 9 ≡ found_fault s
  unfolding found_fault
  fault-size flag head h = by_size are_ten _ s flag head h

  -- too few words for DC
  pub not-whole : length s < dc_in s + 7 → false ≡ eqb (found_fault s) 0
  not-whole h = sym (ne_eqb (found_fault s) 0 (λ z. let l = found-long s z in absurd (omega arith)))

  module _ (flag : unflagged s ≡ false) (long : dc_in s + 7 ≤ length s) where
    -- what is left is 8, unless no word from DID to CS is over 3FFh
    abbrev told : Bool → Bool → Bool → ℕ
    told a b c = cond (not a) 8 (cond (not b) 8 (cond (not c) 8 0))

    left_is : found_fault s ≡ told (are_ten (take 3 (drop 3 s))) (are_ten (take (dc_in s) (drop 6 s))) (is_ten (get_or s (dc_in s + 6) 0))
    unfolding found_fault
    left_is = rw (flag, le-ltb (length s) (dc_in s + 7) long)

    pub one-test : (n : ℕ) → n ≡ dc_in s + 4 → are_ten (take n (drop 3 s)) ≡ eqb (found_fault s) 0
    one-test n e =
        ap (λ (m : ℕ). are_ten (take m (drop 3 s))) e
        ∙ own-ten long
        ∙ ap (λ (b : Bool). b && is_ten (get_or s (dc_in s + 6) 0)) (ten-parts (dc_in s) s)
        ∙ go (are_ten (take 3 (drop 3 s))) (are_ten (take (dc_in s) (drop 6 s))) (is_ten (get_or s (dc_in s + 6) 0))
        ∙ ap (λ (m : ℕ). eqb m 0) (sym left_is)
      where
        go : (a b c : Bool) → ((a && b) && c) ≡ eqb (told a b c) 0
        go false b c = refl
        go true false c = refl
        go true true false = refl
        go true true true = refl

    pub eight-left : eqb (found_fault s) 0 ≡ false → 8 ≡ found_fault s
    eight-left h =
        go (are_ten (take 3 (drop 3 s))) (are_ten (take (dc_in s) (drop 6 s))) (is_ten (get_or s (dc_in s + 6) 0))
        (ap (λ (m : ℕ). eqb m 0) (sym left_is) ∙ h)
        ∙ sym left_is
      where
        go : (a b c : Bool) → eqb (told a b c) 0 ≡ false → 8 ≡ told a b c
        go false b c h = refl
        go true false c h = refl
        go true true false h = refl
        go true true true h = never (cc)

-- the first word over 3FFh says whether DID, SDID or DC is
module _ (s : List ℕ) (w : ℕ) (e : w ≡ 3 + ten_before (drop 3 s)) (l : 7 ≤ length s) where
  pub over-head : w < 6 → are_ten (take 3 (drop 3 s)) ≡ false
  over-head h = let k = length-drop 3 s in each-past is_ten are_ten ten_before each-ten 3 (drop 3 s) (omega arith) (omega arith)

  pub ten-head : 6 ≤ w → are_ten (take 3 (drop 3 s)) ≡ true
  ten-head h = each-before is_ten are_ten ten_before each-ten 3 (drop 3 s) (omega arith)

-- ---- the sheet

-- a refusal names none of its packets, and a sheet that passes has its system
module _ (s : List ℕ) where
  pub sheet-refused : (t : Told) → Err t ≡ told_sheet found_fault found_of_words found_word_at s → Err t ≡ checked s
  unfolding checked found_tests packets_found found_row
  sheet-refused t e = go (found_tests s) e
    where
      go : (o : Outcome) → Err t ≡ told_by found_word_at (header_of (system_in s)) (words_in s) o
          → Err t ≡ told_by found_word_at (λ (ps : List Packet). system_in s) (words_in s) o
      go (refused n i) q = cc
      go (listed ps) q = absurd (cc)

  pub sheet-passes : (h : Header) → Ok h ≡ told_sheet found_fault found_of_words found_word_at s → Ok h.system ≡ checked s
  unfolding checked found_tests packets_found found_row
  sheet-passes h e = go (found_tests s) e
    where
      go : (o : Outcome) → Ok h ≡ told_by found_word_at (header_of (system_in s)) (words_in s) o
          → Ok h.system ≡ told_by found_word_at (λ (ps : List Packet). system_in s) (words_in s) o
      go (refused n i) q = absurd (cc)
      go (listed ps) q = let d : h ≡ header_of (system_in s) ps = cc in ap (λ (x : Header). Ok x.system) d

-- ---- the contract

-- it follows from its first field
pub checks : (s : List ℕ) (r : Result ℕ Refused) → told_of r ≡ checked s → ChecksFound s r
unfolding checked
checks s r e =
    record {
      answer = e;
      passes = λ sys ps g.
          let y : system_in s ≡ sys = ap system_in g.whole ∙ system-back sys ps in
          passes r sys (e ∙ rw (y, found-read sys ps s g));
      only = λ sys n. only (found_tests s) refl sys (ap told_of (sym n) ∙ e);
    }
  where
    passes : (r : Result ℕ Refused) (sys : ℕ) → told_of r ≡ Ok sys → r ≡ Ok sys
    passes (Ok n) sys q = cc
    passes (Err x) sys q = absurd (cc)

    only : (o : Outcome) → found_tests s ≡ o → (sys : ℕ)
        → Ok sys ≡ told_by found_word_at (λ (ps : List Packet). system_in s) (words_in s) o → (ps : List Packet) × SheetFound sys ps s
    only (refused m i) q sys p = absurd (cc)
    only (listed ps) q sys p =
        let d : system_in s ≡ sys = cc in
        (ps, subst (λ (n : ℕ). SheetFound n ps s) d (found-made s ps q))

-- What each way through the code says of the rules, over plain values: the proofs of the functions hand these laws what the code knows.
--
-- In order: the shape (2); locations (6, 20); the list (5, 6, 20, 7 to 10, 11); the sheet (2, 3).
-- Assumes nothing.
use Prim.Native.Nat.{ℕ, zero, suc, ◌+◌, ◌-◌, ◌*◌, ◌/◌, ◌≤◌, ◌<◌}
use mathlib.Core.Path.{◌≡◌, refl, sym, ap, ◌∙◌, subst}
use mathlib.Core.Bool.{Bool, true, false, cond, not, ◌&&◌}
use mathlib.Core.List.{List, [], ◌∷◌}
use Rattle.std.proofs.Common.{Some, None, Result, Ok, Err}
use native.Mathlib.Nat.{zero-add}
use native.Mathlib.Numerals.{add-one}
use native.Mathlib.Omega.{arith}
use lib.Dec.{eqb, ltb, leb, eqb-suc-suc, eqb-zero-suc}
use lib.ListN.{length, get_or, take, drop, length-drop}
use lib.Seq.{length-take-le, drop-cons, drop-drop}
use borrow.Author.Tests.{leb-true, not-true, not-false, lt-ltb, le-ltb, le-leb, lt-leb, eq-eqb, ne_eqb}
use Rattle.rules.specs.Systems.{System, system, stands, allowed}
use Rattle.rules.specs.Packet.{Packet}
use Rattle.rules.specs.Danc.{bytes_of}
use Rattle.rules.specs.Packing1.{packs_of}
use Rattle.rules.specs.Sheet.{limit, system_in, count_in, locations_in, word_count_in, words_in}
use Rattle.rules.specs.Numbers.{Outcome, listed, refused, unless, and_then}
use Rattle.rules.specs.Laying.{words_fault, packet_of_words, word_row, packets_of_words, word_at, from_packet}
use Rattle.rules.specs.Laying.{shaped, unless_at, location_stands, location_allowed, located, list_tests_by, list_tests, sheet_tests}
use Rattle.rules.specs.Lister.{tested_in, tested}
use Rattle.rules.specs.Refusals.{number, Told, tell, told, told_of}
use Rattle.rules.specs.declared.Refused.{Refused}
use Rattle.rules.proofs.Basics.{both, second-false, rest_part}
use Rattle.rules.proofs.Lines.{allowed-stands}
use Rattle.packet.specs.Tests.{packets_by, counts_of, told_by, WordLaws}
use Rattle.packet.specs.declared.Counts.{Counts}
use Rattle.frame.specs.Systems.{figures_found}
use Rattle.frame.specs.declared.Figures.{Figures}
use Rattle.frame.proofs.Laws.{last-is, found_known, found_is, found_none}
use Rattle.sheet.specs.Standing.{location_tests, in_front, in_place, AllInPlace}
use Rattle.sheet.specs.Telling.{Misplaced, header_of, told_sheet, tested_from}
use Rattle.sheet.specs.declared.Header.{Header}

-- ---- the shape

-- "section A's count is not 1"
pub not-one : (s : List ℕ) → not (eqb (get_or s 0 0) 1) ≡ true → false ≡ shaped s
unfolding shaped
not-one s h = rw (not-true (eqb (get_or s 0 0) 1) h)

-- "the sheet ends early"
pub ends-early : (s : List ℕ) → length s < 4 + 2 * count_in s → false ≡ shaped s
unfolding shaped
ends-early s h = sym (second-false (eqb (get_or s 0 0) 1) _ (rw (lt-leb (4 + 2 * count_in s) (length s) h)))

-- "or numbers follow section C"
pub follows : (s : List ℕ) (p w : ℕ) → not (eqb (get_or s 0 0) 1) ≡ false → p ≡ count_in s → 4 + 2 * p ≤ length s
    → w ≡ get_or s (4 + 2 * p - 1) 0 → eqb (length s) (4 + 2 * p + w) ≡ shaped s
unfolding shaped
follows s p w a e l f =
    let k : 4 + 2 * p - 1 ≡ 3 + 2 * count_in s = omega arith in
    let v : w ≡ word_count_in s = f ∙ ap (λ (n : ℕ). get_or s n 0) k in
    rw (not-false (eqb (get_or s 0 0) 1) a, le-leb (4 + 2 * count_in s) (length s) (omega arith), e, v)

-- "A sheet has 4 + 2P + W numbers."
pub shaped-long : (s : List ℕ) → shaped s ≡ true → 4 + 2 * count_in s ≤ length s
unfolding shaped
shaped-long s e =
    let a = both (eqb (get_or s 0 0) 1) (leb (4 + 2 * count_in s) (length s) && eqb (length s) (4 + 2 * count_in s + word_count_in s)) e in
    let b = both (leb (4 + 2 * count_in s) (length s)) (eqb (length s) (4 + 2 * count_in s + word_count_in s)) a.1 in
    leb-true (4 + 2 * count_in s) (length s) b.0

-- ---- locations

-- a test of P pairs by how many of them are in front
pub count_at : (n : ℕ) (test : ℕ → ℕ → Bool) (i p : ℕ) (ls : List ℕ) (o : Outcome) → length ls ≡ 2 * p
    → unless_at n test i ls o ≡ cond (eqb (in_front test ls) p) o (refused n (i + in_front test ls))
count_at n test i zero [] o h = refl
count_at n test i (suc p) [] o h = absurd (omega arith)
count_at n test i p (l ∷ []) o h = absurd (omega arith)
count_at n test i zero (l ∷ f ∷ ls) o h = absurd (omega arith)
count_at n test i (suc p) (l ∷ f ∷ ls) o h = go (test l f) (count_at n test (suc i) p ls o (omega arith))
  where
    go : (t : Bool) → unless_at n test (suc i) ls o ≡ cond (eqb (in_front test ls) p) o (refused n (suc i + in_front test ls))
        → cond t (unless_at n test (suc i) ls o) (refused n i)
        ≡ cond (eqb (cond t (suc (in_front test ls)) 0) (suc p)) o (refused n (i + cond t (suc (in_front test ls)) 0))
    go true ih =
        let k : suc i + in_front test ls ≡ i + suc (in_front test ls) = omega arith in
        ih ∙ rw (k, eqb-suc-suc (in_front test ls) p)
    go false ih = let k : i ≡ i + 0 = omega arith in rw (eqb-zero-suc, ← k)

-- of n pairs at most n are in front
front_most : (f : ℕ → ℕ → Bool) (n : ℕ) (ls : List ℕ) → length ls ≡ 2 * n → in_front f ls ≤ n
front_most f n [] h = omega arith
front_most f n (l ∷ []) h = omega arith
front_most f zero (l ∷ m ∷ ls) h = absurd (omega arith)
front_most f (suc n) (l ∷ m ∷ ls) h = go (f l m) (front_most f n ls (omega arith))
  where
    go : (t : Bool) → in_front f ls ≤ n → cond t (suc (in_front f ls)) 0 ≤ suc n
    go true ih = omega arith
    go false ih = omega arith

-- where all of the first n pairs are in front, so are as many of those behind them as there are of these alone
front_two : (f : ℕ → ℕ → Bool) (n : ℕ) (ls : List ℕ) → 2 * n ≤ length ls → in_front f (take (2 * n) ls) ≡ n
    → in_front f ls ≡ n + in_front f (drop (2 * n) ls)
front_two f zero ls h e = sym (zero-add (in_front f ls))
front_two f (suc n) [] h e = absurd (omega arith)
front_two f (suc n) (l ∷ []) h e = absurd (omega arith)
front_two f (suc n) (l ∷ m ∷ ls) h e =
    let k : 2 * suc n ≡ suc (suc (2 * n)) = omega arith in
    rw k (go (f l m) (front_two f n ls (omega arith)) (subst (λ (z : ℕ). in_front f (take z (l ∷ m ∷ ls)) ≡ suc n) k e))
  where
    go : (t : Bool) → (in_front f (take (2 * n) ls) ≡ n → in_front f ls ≡ n + in_front f (drop (2 * n) ls))
        → cond t (suc (in_front f (take (2 * n) ls))) 0 ≡ suc n
        → cond t (suc (in_front f ls)) 0 ≡ suc n + in_front f (drop (2 * n) ls)
    go true ih e = let q = ih (omega arith) in omega arith
    go false ih e = absurd (omega arith)

-- where fewer are, those behind them are none
front_one : (f : ℕ → ℕ → Bool) (n : ℕ) (ls : List ℕ) → 2 * n ≤ length ls → in_front f (take (2 * n) ls) < n
    → in_front f ls ≡ in_front f (take (2 * n) ls)
front_one f zero ls h e = absurd (omega arith)
front_one f (suc n) [] h e = absurd (omega arith)
front_one f (suc n) (l ∷ []) h e = absurd (omega arith)
front_one f (suc n) (l ∷ m ∷ ls) h e =
    let k : 2 * suc n ≡ suc (suc (2 * n)) = omega arith in
    rw k (go (f l m) (front_one f n ls (omega arith)) (subst (λ (z : ℕ). in_front f (take z (l ∷ m ∷ ls)) < suc n) k e))
  where
    go : (t : Bool) → (in_front f (take (2 * n) ls) < n → in_front f ls ≡ in_front f (take (2 * n) ls))
        → cond t (suc (in_front f (take (2 * n) ls))) 0 < suc n
        → cond t (suc (in_front f ls)) 0 ≡ cond t (suc (in_front f (take (2 * n) ls))) 0
    go true ih e = ap suc (ih (omega arith))
    go false ih e = refl

-- the pairs that are tested in one pass, behind those that have passed
module _ (f : ℕ → ℕ → Bool) (ls : List ℕ) (p from to : ℕ) (h : length ls ≡ 2 * p) (a : from ≤ to) (b : to ≤ p)
    (behind : in_front f ls ≡ from + in_front f (drop (2 * from) ls)) where
  abbrev pub run : List ℕ
  run = take (2 * to - 2 * from) (drop (2 * from) ls)

  twice : 2 * to - 2 * from ≡ 2 * (to - from)
  twice = omega arith

  rest-long : 2 * (to - from) ≤ length (drop (2 * from) ls)
  rest-long = let d = length-drop (2 * from) ls in omega arith

  pub run-length : length run ≡ 2 * (to - from)
  run-length = length-take-le (2 * to - 2 * from) (drop (2 * from) ls) (let r = rest-long in omega arith) ∙ twice

  pub run-passed : in_front f run ≡ to - from → in_front f ls ≡ to + in_front f (drop (2 * to) ls)
  run-passed e =
      let n : in_front f (take (2 * (to - from)) (drop (2 * from) ls)) ≡ to - from =
      subst (λ (z : ℕ). in_front f (take z (drop (2 * from) ls)) ≡ to - from) twice e in
      let q = front_two f (to - from) (drop (2 * from) ls) rest-long n in
      let s : 2 * from + 2 * (to - from) ≡ 2 * to = omega arith in
      let d : drop (2 * (to - from)) (drop (2 * from) ls) ≡ drop (2 * to) ls =
      drop-drop (2 * (to - from)) (2 * from) ls ∙ ap (λ (z : ℕ). drop z ls) s in
      let r : in_front f (drop (2 * (to - from)) (drop (2 * from) ls)) ≡ in_front f (drop (2 * to) ls) = ap (in_front f) d in
      omega arith

  pub run-stopped : in_front f run < to - from → in_front f ls ≡ from + in_front f run
  run-stopped e =
      let n : in_front f (take (2 * (to - from)) (drop (2 * from) ls)) < to - from =
      subst (λ (z : ℕ). in_front f (take z (drop (2 * from) ls)) < to - from) twice e in
      let q = front_one f (to - from) (drop (2 * from) ls) rest-long n in
      let r : in_front f run ≡ in_front f (take (2 * (to - from)) (drop (2 * from) ls)) =
      ap (λ (z : ℕ). in_front f (take z (drop (2 * from) ls))) twice in
      omega arith

  pub run-all : in_front f run ≡ length run / 2 → in_front f run ≡ to - from
  run-all e = let l = run-length in omega arith

  pub run-full : (k : ℕ) → k ≡ in_front f run → to - from ≤ k → in_front f run ≡ to - from
  run-full k e g = let m = front_most f (to - from) run run-length in omega arith

-- where a test holds of all pairs, so does what follows from it
front-all : (f g : ℕ → ℕ → Bool) → ((l m : ℕ) → f l m ≡ true → g l m ≡ true) → (p : ℕ) (ls : List ℕ) → length ls ≡ 2 * p
    → in_front f ls ≡ p → in_front g ls ≡ p
front-all f g w zero [] h e = refl
front-all f g w (suc p) [] h e = absurd (omega arith)
front-all f g w p (l ∷ []) h e = absurd (omega arith)
front-all f g w zero (l ∷ m ∷ ls) h e = absurd (omega arith)
front-all f g w (suc p) (l ∷ m ∷ ls) h e = go (f l m) refl (front-all f g w p ls (omega arith)) e
  where
    go : (t : Bool) → f l m ≡ t → (in_front f ls ≡ p → in_front g ls ≡ p) → cond t (suc (in_front f ls)) 0 ≡ suc p
        → cond (g l m) (suc (in_front g ls)) 0 ≡ suc p
    go true q ih e = rw (w l m q) (ap suc (ih (omega arith)))
    go false q ih e = absurd (omega arith)

-- where a test holds of all pairs, two others that then say the same have as many in front
front_same : (f g h : ℕ → ℕ → Bool) → ((l m : ℕ) → f l m ≡ true → g l m ≡ h l m) → (p : ℕ) (ls : List ℕ) → length ls ≡ 2 * p
    → in_front f ls ≡ p → in_front g ls ≡ in_front h ls
front_same f g h w p [] k e = refl
front_same f g h w p (l ∷ []) k e = refl
front_same f g h w zero (l ∷ m ∷ ls) k e = absurd (omega arith)
front_same f g h w (suc p) (l ∷ m ∷ ls) k e = go (f l m) refl (front_same f g h w p ls (omega arith)) e
  where
    go : (t : Bool) → f l m ≡ t → (in_front f ls ≡ p → in_front g ls ≡ in_front h ls) → cond t (suc (in_front f ls)) 0 ≡ suc p
        → cond (g l m) (suc (in_front g ls)) 0 ≡ cond (h l m) (suc (in_front h ls)) 0
    go true q ih e = rw (w l m q, ih (omega arith))
    go false q ih e = absurd (omega arith)

-- P locations: the tests 6 and 20 from how many are in place, and how many stand
module _ (y : System) (p : ℕ) (ls : List ℕ) (h : length ls ≡ 2 * p) (o : Outcome) where
  all-stand : in_front (location_stands y) ls ≡ p → location_tests y ls o ≡ unless_at 20 (location_allowed y) 0 ls o
  all-stand e = rw (count_at 6 (location_stands y) 0 p ls _ h, eq-eqb (in_front (location_stands y) ls) p e)

  -- all stand, and one is on a line that is not allowed
  allowed-past : in_front (location_stands y) ls ≡ p → (k : ℕ) → k ≡ in_front (in_place y) ls → (k ≡ p → ⊥) → location_tests y ls o ≡ refused 20 k
  allowed-past z k f g =
      let q : k ≡ in_front (location_allowed y) ls = f ∙ front_same (location_stands y) (in_place y) (location_allowed y) flags p ls h z in
      rw (all-stand z, count_at 20 (location_allowed y) 0 p ls o h, zero-add (in_front (location_allowed y) ls), ← q, ne_eqb k p g)
    where
      flags : (l m : ℕ) → location_stands y l m ≡ true → in_place y l m ≡ allowed y l
      flags l m e = rw (both (stands y l) (ltb m 4) e).1

  -- one is out of range
  range-past : (n : ℕ) → n ≡ in_front (location_stands y) ls → (n ≡ p → ⊥) → location_tests y ls o ≡ refused 6 n
  range-past n e d = rw (count_at 6 (location_stands y) 0 p ls _ h, zero-add (in_front (location_stands y) ls), ← e, ne_eqb n p d)

  module _ (e : Refused) (first : ℕ) (f : first ≡ in_front (location_stands y) ls) where
    -- "line or flags out of range"
    pub out_of_range : told e ≡ tell 6 first 0 → (first ≡ p → ⊥) → Misplaced e (location_tests y ls o)
    out_of_range q d =
        let n : number e.refusal ≡ 6 = ap (λ (t : Told). t.number) q in
        record {
          outcome = range-past first f d ∙ ap (λ (t : Told). refused t.number t.place) (sym q);
          word = λ fault packet word w s. w.early (number e.refusal) s (omega arith) ∙ ap (λ (t : Told). t.word) (sym q);
        }

    -- all stand, and the k-th is the first on a line that is not allowed
    pub not-allowed : (k : ℕ) → told e ≡ tell 20 k 0 → first ≡ p → k ≡ in_front (in_place y) ls → (k ≡ p → ⊥)
        → Misplaced e (location_tests y ls o)
    not-allowed k q d g h =
        let n : number e.refusal ≡ 20 = ap (λ (t : Told). t.number) q in
        record {
          outcome = allowed-past (sym f ∙ d) k g h ∙ ap (λ (t : Told). refused t.number t.place) (sym q);
          word = λ fault packet word w s. w.late (number e.refusal) s (omega arith) ∙ ap (λ (t : Told). t.word) (sym q);
        }

  -- all are in place
  pub all-in-place : (k : ℕ) → k ≡ in_front (in_place y) ls → k ≡ p → location_tests y ls o ≡ o
  all-in-place k e d =
      let z : in_front (in_place y) ls ≡ p = sym e ∙ d in
      rw (
        all-stand (front-all (in_place y) (location_stands y) standing p ls h z),
        count_at 20 (location_allowed y) 0 p ls o h,
        eq-eqb (in_front (location_allowed y) ls) p
            (front-all (in_place y) (location_allowed y) (λ l m q. (both (ltb m 4) (allowed y l) q).1) p ls h z),
      )
    where
      standing : (l m : ℕ) → in_place y l m ≡ true → location_stands y l m ≡ true
      standing l m q = let w = both (ltb m 4) (allowed y l) q in rw (allowed-stands y l w.1, w.0)

-- the pair at k
drop-pair : (k : ℕ) (ls : List ℕ) → 2 * k + 1 < length ls
    → drop (2 * k) ls ≡ get_or ls (2 * k) 0 ∷ get_or ls (2 * k + 1) 0 ∷ drop (2 * (k + 1)) ls
drop-pair k ls h =
    let e : 2 * (k + 1) ≡ suc (suc (2 * k)) = omega arith in
    rw (e, add-one (2 * k), drop-cons ls (2 * k) 0 (omega arith), drop-cons ls (suc (2 * k)) 0 (omega arith))

-- a test holds of the pair at k, or does not
module _ (test : ℕ → ℕ → Bool) (k : ℕ) (ls : List ℕ) (h : 2 * k + 1 < length ls) where
  front-more : test (get_or ls (2 * k) 0) (get_or ls (2 * k + 1) 0) ≡ true
      → k + 1 + in_front test (drop (2 * (k + 1)) ls) ≡ k + in_front test (drop (2 * k) ls)
  front-more e = rw (drop-pair k ls h, e) (omega arith)

  front-stop : test (get_or ls (2 * k) 0) (get_or ls (2 * k + 1) 0) ≡ false → k ≡ k + in_front test (drop (2 * k) ls)
  front-stop e = rw (drop-pair k ls h, e) (omega arith)

-- the tests of the pair at k: its line, its flags
module _ (y : System) (last : ℕ) (is : y.last ≡ last) (k : ℕ) (ls : List ℕ) (h : 2 * k + 1 < length ls) where
  abbrev line : ℕ
  line = get_or ls (2 * k) 0

  abbrev flags : ℕ
  flags = get_or ls (2 * k + 1) 0

  pub stand-more : line ≤ last → flags ≤ 3
      → k + 1 + in_front (location_stands y) (drop (2 * (k + 1)) ls) ≡ k + in_front (location_stands y) (drop (2 * k) ls)
  unfolding stands
  stand-more a b = front-more (location_stands y) k ls h (rw (is, le-leb line last a, lt-ltb flags 4 (omega arith)))

  pub line-past : last < line → k ≡ k + in_front (location_stands y) (drop (2 * k) ls)
  unfolding stands
  line-past a = front-stop (location_stands y) k ls h (rw (is, lt-leb line last a))

  pub flags-past : 3 < flags → k ≡ k + in_front (location_stands y) (drop (2 * k) ls)
  flags-past a = front-stop (location_stands y) k ls h (second-false (stands y line) _ (le-ltb flags 4 a))

  pub place-more : flags ≤ 3 → allowed y line ≡ true
      → k + 1 + in_front (in_place y) (drop (2 * (k + 1)) ls) ≡ k + in_front (in_place y) (drop (2 * k) ls)
  place-more a b = front-more (in_place y) k ls h (rw (lt-ltb flags 4 (omega arith), b))

  pub place-flags : 3 < flags → k ≡ k + in_front (in_place y) (drop (2 * k) ls)
  place-flags a = front-stop (in_place y) k ls h (rw (le-ltb flags 4 a))

  pub place-line : allowed y line ≡ false → k ≡ k + in_front (in_place y) (drop (2 * k) ls)
  place-line a = front-stop (in_place y) k ls h (second-false (ltb flags 4) _ a)

-- no pair is left
pub front-end : (test : ℕ → ℕ → Bool) (k : ℕ) (ls : List ℕ) → length ls ≤ 2 * k + 1 → k ≡ k + in_front test (drop (2 * k) ls)
front-end test k ls h = let l = length-drop (2 * k) ls in go (drop (2 * k) ls) (omega arith)
  where
    go : (t : List ℕ) → length t ≤ 1 → k ≡ k + in_front test t
    go [] h = omega arith
    go (x ∷ []) h = omega arith
    go (x ∷ z ∷ t) h = absurd (omega arith)

-- the pass over all pairs: where the answer so far is true, those in front of k are in place
module _ (y : System) (ls : List ℕ) (k : ℕ) (all : Bool) where
  abbrev pub Passed : Type 0
  Passed = all ≡ true → k + in_front (in_place y) (drop (2 * k) ls) ≡ in_front (in_place y) ls

  pub pass-end : length ls / 2 ≤ k → 2 * k ≤ length ls → Passed → all ≡ true → AllInPlace y ls
  pass-end h l p e = let a = front-end (in_place y) k ls (omega arith) in let b = p e in omega arith

pub pass-more : (y : System) (ls : List ℕ) (k : ℕ) (all t : Bool) → 2 * k + 1 < length ls → t ≡ allowed y (get_or ls (2 * k) 0) → Passed y ls k all
    → Passed y ls (k + 1) ((all && leb (get_or ls (2 * k + 1) 0) 3) && t)
pass-more y ls k all t h f p e =
    let m : Bool = leb (get_or ls (2 * k + 1) 0) 3 in
    let w = both (all && m) t e in
    let v = both all m w.0 in
    place-more y y.last refl k ls h (leb-true (get_or ls (2 * k + 1) 0) 3 v.1) (sym f ∙ w.1) ∙ p v.0

-- ---- the list

-- a packet's location is not in the figures
abbrev plus : Packet → Counts → Counts
plus p c = record { packets = suc c.packets; bytes = bytes_of p + c.bytes; packs = packs_of p + c.packs }

located-counts : (ls : List ℕ) (ps : List Packet) → length ls ≡ 2 * length ps → counts_of (located ls ps) ≡ counts_of ps
located-counts [] [] h = refl
located-counts [] (p ∷ ps) h = absurd (omega arith)
located-counts (l ∷ []) ps h = absurd (omega arith)
located-counts (l ∷ f ∷ ls) [] h = absurd (omega arith)
located-counts (l ∷ f ∷ ls) (p ∷ ps) h = ap (plus p) (located-counts ls ps (omega arith))

-- "Packet k belongs to location k", where there are as many
abbrev pub paired : List ℕ → List Packet → Outcome
paired s ps = unless 11 (eqb (length ps) (count_in s)) (listed (located (locations_in s) ps))

-- what the code lends as locations, by a sheet's count
abbrev pub lent_locations : List ℕ → ℕ → List ℕ
lent_locations s p = take (3 + 2 * p - 3) (drop 3 s)

pub pairs : (s : List ℕ) (p : ℕ) → p ≡ count_in s → shaped s ≡ true → length (lent_locations s p) ≡ 2 * p
pairs s p is sh =
    let l = length-drop 3 s in
    let m = shaped-long s sh in
    length-take-le (3 + 2 * p - 3) (drop 3 s) (omega arith) ∙ (omega arith)

-- a sheet's count, as the code has it: what it lends as locations, and as words
module _ (s : List ℕ) (p : ℕ) (is : p ≡ count_in s) where
  locations-are : lent_locations s p ≡ locations_in s
  locations-are = let e : 3 + 2 * p - 3 ≡ 2 * count_in s = omega arith in ap (λ (n : ℕ). take n (drop 3 s)) e

  pub words_are : take (length s - (3 + 2 * p + 1)) (drop (3 + 2 * p + 1) s) ≡ words_in s
  words_are = let e : 3 + 2 * p + 1 ≡ 4 + 2 * count_in s = omega arith in rest_part (3 + 2 * p + 1) s ∙ ap (λ (n : ℕ). drop n s) e

-- with any reader of its words
module _ (packets : List ℕ → Outcome) (y : System) (s : List ℕ) (p : ℕ) (is : p ≡ count_in s) where
  -- "laying: P over [1,275]"
  pub many-outcome : limit < p → list_tests_by packets y s ≡ refused 5 0
  many-outcome h = rw (lt-leb (count_in s) limit (omega arith))

  -- the locations, then the words
  pub from-six-by : p ≤ limit → list_tests_by packets y s ≡ location_tests y (lent_locations s p) (and_then (packets (words_in s)) (paired s))
  from-six-by few = rw (le-leb (count_in s) limit (omega arith), locations-are s p is)

  pub from-words-by : p ≤ limit → shaped s ≡ true → (k : ℕ) → k ≡ in_front (in_place y) (lent_locations s p) → k ≡ p
      → list_tests_by packets y s ≡ and_then (packets (words_in s)) (paired s)
  from-words-by few sh k in_place all = from-six-by few ∙ all-in-place y p (lent_locations s p) (pairs s p is sh) _ k in_place all

-- in either way of testing the packets
module _ (fault : List ℕ → ℕ) (packet : List ℕ → Packet) (word : ℕ → List ℕ → ℕ) (w : WordLaws fault packet word) where
  module _ (y : System) (s : List ℕ) (p : ℕ) (is : p ≡ count_in s) where
    abbrev answer : Result Counts Told
    answer = told_by word counts_of (words_in s) (list_tests_by (packets_by fault packet) y s)

    pub too_many : limit < p → Err (tell 5 0 0) ≡ answer
    too_many h =
        rw (many-outcome (packets_by fault packet) y s p is h)
        (ap (λ (v : ℕ). Err (tell 5 0 v)) (sym (w.early 5 (words_in s) (omega arith))))

    abbrev ls : List ℕ
    ls = lent_locations s p

    module _ (sh : shaped s ≡ true) (few : p ≤ limit) where
      -- a location at fault
      pub location-refused : (e : Refused) → ((o : Outcome) → Misplaced e (location_tests y ls o)) → Err (told e) ≡ answer
      location-refused e h =
          let m = h (and_then (packets_by fault packet (words_in s)) (paired s)) in
          rw (from-six-by (packets_by fault packet) y s p is few, m.outcome)
          (ap (λ (v : ℕ). Err (tell (number e.refusal) e.place v)) (sym (m.word fault packet word w (from_packet e.place (words_in s)))))

      -- what the code found in the words that it lends
      module _ (k : ℕ) (in_place : k ≡ in_front (in_place y) ls) (all : k ≡ p) where
        abbrev pub lent_words : List ℕ
        lent_words = take (length s - (3 + 2 * p + 1)) (drop (3 + 2 * p + 1) s)

        of-words : {A : Type 0} (f : List Packet → A)
            → told_by word f lent_words (packets_by fault packet lent_words) ≡ told_by word f (words_in s) (packets_by fault packet (words_in s))
        of-words f = ap (λ (ws : List ℕ). told_by word f ws (packets_by fault packet ws)) (words_are s p is)

        from-words : answer ≡ told_by word counts_of (words_in s) (and_then (packets_by fault packet (words_in s)) (paired s))
        from-words =
            ap (told_by word counts_of (words_in s)) (from-words-by (packets_by fault packet) y s p is few sh k in_place all)

        -- a packet at fault
        pub packet-refused : (t : Told) → Err t ≡ told_by word counts_of lent_words (packets_by fault packet lent_words) → Err t ≡ answer
        packet-refused t e = go (packets_by fault packet (words_in s)) (e ∙ of-words counts_of) ∙ sym from-words
          where
            go : (o : Outcome) → Err t ≡ told_by word counts_of (words_in s) o → Err t ≡ told_by word counts_of (words_in s) (and_then o (paired s))
            go (refused n i) q = q
            go (listed ps) q = absurd (cc)

        module _ (c : Counts) (e : Ok c ≡ told_by word counts_of lent_words (packets_by fault packet lent_words)) where
          -- there is a list
          list_of : (ps : List Packet) × (packets_by fault packet (words_in s) ≡ listed ps) × (c ≡ counts_of ps)
          list_of = go (packets_by fault packet (words_in s)) refl (e ∙ of-words counts_of)
            where
              go : (o : Outcome) → packets_by fault packet (words_in s) ≡ o → Ok c ≡ told_by word counts_of (words_in s) o
                  → (ps : List Packet) × (packets_by fault packet (words_in s) ≡ listed ps) × (c ≡ counts_of ps)
              go (listed ps) q f = (ps, q, cc)
              go (refused n i) q f = absurd (cc)

          -- "packets and locations differ in number"
          pub differ : (c.packets ≡ p → ⊥) → Err (tell 11 0 0) ≡ answer
          differ h =
              let l = list_of in
              let n : c.packets ≡ length l.0 = ap (λ (x : Counts). x.packets) l.2 in
              rw (from-words, l.1, ne_eqb (length l.0) (count_in s) (λ e. h (n ∙ e ∙ sym is)))
              (ap (λ (v : ℕ). Err (tell 11 0 v)) (sym (w.late 11 (words_in s) (omega arith))))

          -- and the list stands
          pub whole : c.packets ≡ p → Ok c ≡ answer
          whole h =
              let l = list_of in
              let n : length l.0 ≡ p = ap (λ (x : Counts). x.packets) (sym l.2) ∙ h in
              let two : length (locations_in s) ≡ 2 * length l.0 =
              ap length (sym (locations-are s p is)) ∙ pairs s p is sh ∙ ap (λ (m : ℕ). 2 * m) (sym n) in
              rw (from-words, l.1, eq-eqb (length l.0) (count_in s) (n ∙ is))
              (ap Ok (l.2 ∙ sym (located-counts (locations_in s) l.0 two)))

  -- ---- the sheet

  module _ (s : List ℕ) where
    pub misshapen : shaped s ≡ false → Err (tell 2 0 0) ≡ told_sheet fault packet word s
    misshapen e = rw e (ap (λ (v : ℕ). Err (tell 2 0 v)) (sym (w.early 2 (words_in s) (omega arith))))

    -- a sheet of the right shape, and the figures of the system that it names
    module _ (sh : shaped s ≡ true) (sys : ℕ) (is : sys ≡ system_in s) where
      -- "system not 1 to 3"
      pub unknown : None ≡ figures_found sys → Err (tell 3 0 0) ≡ told_sheet fault packet word s
      unknown e =
          rw (sh, found_none (system_in s) (e ∙ ap figures_found is))
          (ap (λ (v : ℕ). Err (tell 3 0 v)) (sym (w.early 3 (words_in s) (omega arith))))

      -- and the list's own tests
      module _ (x : Figures) (found : Some x ≡ figures_found sys) where
        abbrev own : System
        own = system (system_in s)

        named : Some x ≡ figures_found (system_in s)
        named = found ∙ ap figures_found is

        tests-are : told_sheet fault packet word s
            ≡ told_by word (header_of (system_in s)) (words_in s) (list_tests_by (packets_by fault packet) own s)
        tests-are = rw (sh, found_known (system_in s) x named)

        its-last : own.last ≡ x.last_line.0
        its-last = sym (last-is (system_in s) x (found_is (system_in s) x named))

        pub list-refused : (t : Told)
            → ((y : System) → y.last ≡ x.last_line.0
            → Err t ≡ told_by word counts_of (words_in s) (list_tests_by (packets_by fault packet) y s))
            → Err t ≡ told_sheet fault packet word s
        list-refused t h = go (list_tests_by (packets_by fault packet) own s) (h own its-last) ∙ sym tests-are
          where
            go : (o : Outcome) → Err t ≡ told_by word counts_of (words_in s) o → Err t ≡ told_by word (header_of (system_in s)) (words_in s) o
            go (refused n i) q = cc
            go (listed ps) q = absurd (cc)

        pub list-stands : (c : Counts)
            → ((y : System) → y.last ≡ x.last_line.0
            → Ok c ≡ told_by word counts_of (words_in s) (list_tests_by (packets_by fault packet) y s))
            → Ok (record { system = sys; counts = c }) ≡ told_sheet fault packet word s
        list-stands c h = go (list_tests_by (packets_by fault packet) own s) (h own its-last) ∙ sym tests-are
          where
            go : (o : Outcome) → Ok c ≡ told_by word counts_of (words_in s) o
                → Ok (record { system = sys; counts = c }) ≡ told_by word (header_of (system_in s)) (words_in s) o
            go (refused n i) q = absurd (cc)
            go (listed ps) q = cc

-- ---- the lister's tests

pub told-tests : (s : List ℕ)
    → told_sheet words_fault packet_of_words word_at s ≡ told_by word_at (header_of (system_in s)) (words_in s) (sheet_tests s)
unfolding sheet_tests list_tests packets_of_words word_row
told-tests s = refl

-- as they are given back
pub tested-is : (s : List ℕ) (r : Result Header Refused)
    → told_of r ≡ told_by word_at (header_of (system_in s)) (words_in s) (sheet_tests s) → tested_from r ≡ tested s
unfolding tested
tested-is s r e = go r (sheet_tests s) e
  where
    go : (r : Result Header Refused) (o : Outcome) → told_of r ≡ told_by word_at (header_of (system_in s)) (words_in s) o
        → tested_from r ≡ tested_in (system_in s) (words_in s) o
    go (Ok h) (listed ps) q = let d : h ≡ header_of (system_in s) ps = cc in ap (λ (x : Header). tested_from (Ok x)) d
    go (Ok h) (refused n i) q = absurd (cc)
    go (Err x) (listed ps) q = absurd (cc)
    go (Err x) (refused n i) q =
        let d : told x ≡ tell n i (word_at n (from_packet i (words_in s))) = cc in
        ap
        (λ (t : Told). record { number = t.number; place = t.place; word = t.word; system = 0; packets = 0; bytes = 0; packs = 0 })
        d

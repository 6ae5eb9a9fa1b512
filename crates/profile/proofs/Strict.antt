-- Laying with the profile beside laying without it, and the contract of the call.
--
-- In order: the list; the numbers in front of 12; the two side by side ('Lists that pass are laid as before' is `laid-as-before`); the contract; the
-- ways through the code.
-- Assumes nothing.
use Prim.Native.Nat.{ℕ, suc, ◌+◌, ◌≤◌}
use mathlib.Core.Path.{◌≡◌, refl, sym, ap, ◌∙◌, subst}
use mathlib.Core.Logic.{◌⊎◌, inl, inr, ⊎_elim}
use mathlib.Core.Bool.{Bool, true, false, cond}
use mathlib.Core.List.{List, [], ◌∷◌, ◌++◌}
use native.Mathlib.Nat.{zero-add}
use native.Mathlib.Omega.{arith}
use lib.Dec.{eqb, leb}
use lib.ListN.{length}
use borrow.Author.Tests.{eqb-true, eq-eqb}
use Rattle.std.proofs.Common.{Option, Some, None}
use Rattle.rules.specs.Base.{All, none, one}
use Rattle.rules.specs.Systems.{System, known, system}
use Rattle.rules.specs.Packet.{Packet}
use Rattle.rules.specs.Sheet.{limit, system_in, count_in, locations_in, words_in}
use Rattle.rules.specs.Blocks.{block_sizes, area_size}
use Rattle.rules.specs.Packings.{is_packing, fits}
use Rattle.rules.specs.Numbers.{Outcome, listed, refused, unless, and_then}
use Rattle.rules.specs.Laying.{
  word_at,
  shaped,
  packets_of_words,
  unless_at,
  location_stands,
  location_allowed,
  located,
  list_tests,
  laying,
  laid_of,
  laid_in,
  area_of,
  lay,
  area_after,
}
use Rattle.rules.specs.Demands.{Asked, Unlaid, Lays}
use Rattle.rules.specs.declared.Laid.{Laid}
use Rattle.rules.proofs.Basics.{never}
use Rattle.rules.proofs.Words.{words-refused}
use Rattle.rules.proofs.Sheets.{system-back, words_back, shaped-back, list_read, list-laid}
use Rattle.rules.proofs.Laying.{lays}
use Rattle.profile.specs.Profile.{eight_bit, Eight, profiled, strict_laying, lay_strict, area_strict}
use Rattle.profile.specs.Demands.{AskedStrict, FirstOutside, LaysStrict}
use Rattle.profile.specs.Search.{stopped, Seeks, Answers}

-- ---- the list

-- within the profile, and with a packet outside
all-within : (i : ℕ) (ps : List Packet) (o : Outcome) → All Eight ps → profiled i ps o ≡ o
all-within i [] o none = refl
all-within i (p ∷ ps) o (one e es) = rw e (all-within (suc i) ps o es)

one_outside : (i : ℕ) (front : List Packet) (p : Packet) (rest : List Packet) (o : Outcome) → All Eight front → eight_bit p ≡ false
    → profiled i (front ++ p ∷ rest) o ≡ refused 29 (i + length front)
one_outside i [] p rest o none f = let e : i ≡ i + 0 = omega arith in rw f (ap (refused 29) e)
one_outside i (q ∷ front) p rest o (one e es) f =
    let n : suc i + length front ≡ i + suc (length front) = omega arith in
    rw e (one_outside (suc i) front p rest o es f ∙ ap (refused 29) n)

first-named : (ps : List Packet) (i : ℕ) (o : Outcome) → FirstOutside ps i → profiled 0 ps o ≡ refused 29 i
first-named ps i o w =
    ap (λ (qs : List Packet). profiled 0 qs o) w.whole
    ∙ one_outside 0 w.front w.packet w.rest o w.within w.without
    ∙ ap (refused 29) (zero-add (length w.front) ∙ w.number)

-- every list is one of the two
within_or_not : (ps : List Packet) → All Eight ps ⊎ ((i : ℕ) × FirstOutside ps i)
within_or_not [] = inl none
within_or_not (p ∷ ps) = go (eight_bit p) refl (within_or_not ps)
  where
    go : (b : Bool) → eight_bit p ≡ b → All Eight ps ⊎ ((i : ℕ) × FirstOutside ps i) → All Eight (p ∷ ps) ⊎ ((i : ℕ) × FirstOutside (p ∷ ps) i)
    go false e w = inr (0, record { front = []; packet = p; rest = ps; whole = refl; number = refl; within = none; without = e })
    go true e (inl es) = inl (one e es)
    go true e (inr w) =
        let v = w.1 in
        inr (
          suc w.0,
          record {
            front = p ∷ v.front;
            packet = v.packet;
            rest = v.rest;
            whole = ap (λ (qs : List Packet). p ∷ qs) v.whole;
            number = ap suc v.number;
            within = one e v.within;
            without = v.without;
          },
        )

-- ---- the numbers in front of 12

-- what holds of the number of a refusal: of a test's own, and of those behind it
unless-has : (P : ℕ → Type 0) (m : ℕ) (t : Bool) (o : Outcome) (n i : ℕ) → P m → (o ≡ refused n i → P n) → unless m t o ≡ refused n i → P n
unless-has P m true o n i p f e = f e
unless-has P m false o n i p f e = let z : m ≡ n = cc in subst P z p

at_has : (P : ℕ → Type 0) (m : ℕ) (test : ℕ → ℕ → Bool) (j : ℕ) (ls : List ℕ) (o : Outcome) (n i : ℕ) → P m → (o ≡ refused n i → P n)
    → unless_at m test j ls o ≡ refused n i → P n
at_has P m test j [] o n i p f e = f e
at_has P m test j (line ∷ []) o n i p f e = f e
at_has P m test j (line ∷ flags ∷ ls) o n i p f e = go (test line flags) (at_has P m test (suc j) ls o n i p f) e
  where
    go : (b : Bool) → (unless_at m test (suc j) ls o ≡ refused n i → P n) → cond b (unless_at m test (suc j) ls o) (refused m j) ≡ refused n i → P n
    go true later e = later e
    go false later e = let z : m ≡ n = cc in subst P z p

-- not 0, and not 29
abbrev Earlier : ℕ → Type 0
Earlier n = (1 ≤ n) × (n ≤ 20)

list-numbers : (y : System) (s : List ℕ) (n i : ℕ) → list_tests y s ≡ refused n i → Earlier n
unfolding list_tests
list-numbers y s n i e =
    unless-has Earlier 5 (leb (count_in s) limit) _ n i (omega arith, omega arith)
    (at_has Earlier 6 (location_stands y) 0 (locations_in s) _ n i (omega arith, omega arith)
    (at_has Earlier 20 (location_allowed y) 0 (locations_in s) _ n i (omega arith, omega arith) (from-words (packets_of_words (words_in s)) refl))) e
  where
    from-words : (o : Outcome) → packets_of_words (words_in s) ≡ o
        → and_then o (λ (ps : List Packet). unless 11 (eqb (length ps) (count_in s)) (listed (located (locations_in s) ps))) ≡ refused n i → Earlier n
    from-words (refused m j) q e = let w = words-refused (words_in s) m j q in let z : m ≡ n = cc in (omega arith, omega arith)
    from-words (listed ps) q e =
        unless-has Earlier 11 (eqb (length ps) (count_in s)) (listed (located (locations_in s) ps)) n i (omega arith, omega arith) (λ f. never (cc)) e

-- ---- the two side by side

module _ (k : ℕ) (s area : List ℕ) where
  abbrev y : System
  y = system (system_in s)

  -- 12
  abbrev last : List Packet → Outcome
  last ps = unless 12 (fits k (block_sizes y) ps) (listed ps)

  -- 29, and then 12
  abbrev last_two : List Packet → Outcome
  last_two ps = profiled 0 ps (last ps)

  -- the tests in front of these, which both have
  abbrev front : Outcome
  front =
      unless 1 (is_packing k) (unless 2 (shaped s) (unless 3 (known (system_in s)) (unless 4 (eqb (length area) (area_size y)) (list_tests y s))))

  through : (a b c d : Bool) (o : Outcome) (f : List Packet → Outcome)
      → unless 1 a (unless 2 b (unless 3 c (unless 4 d (and_then o f)))) ≡ and_then (unless 1 a (unless 2 b (unless 3 c (unless 4 d o)))) f
  through false b c d o f = refl
  through true false c d o f = refl
  through true true false d o f = refl
  through true true true false o f = refl
  through true true true true o f = refl

  laying-front : laying k s area ≡ and_then front last
  unfolding laying
  laying-front = through (is_packing k) (shaped s) (known (system_in s)) (eqb (length area) (area_size y)) (list_tests y s) last

  strict-front : strict_laying k s area ≡ and_then front last_two
  unfolding strict_laying
  strict-front =
      through (is_packing k) (shaped s) (known (system_in s)) (eqb (length area) (area_size y)) (list_tests y s) last_two

  -- they pass the sheet of a sound list, and no other
  front-asked : (sys : ℕ) (ps : List Packet) → Asked k sys ps s area → (front ≡ listed ps) × (system_in s ≡ sys)
  front-asked sys ps a =
      let e : system_in s ≡ sys = ap system_in a.sheet.whole ∙ system-back sys ps in (
        rw (
          a.packing,
          ap shaped a.sheet.whole ∙ shaped-back sys ps,
          e,
          a.sheet.known,
          eq-eqb (length area) (area_size (system sys)) a.own,
          ap (list_tests (system sys)) a.sheet.whole ∙ list_read sys ps (system sys) a.sheet.sound a.sheet.few,
        ),
        e,
      )

  front-only : (ps : List Packet) → front ≡ listed ps → Asked k (system_in s) ps s area
  front-only ps e = go (is_packing k) refl (shaped s) refl (known (system_in s)) refl (eqb (length area) (area_size y)) refl e
    where
      go : (a : Bool) → is_packing k ≡ a → (b : Bool) → shaped s ≡ b → (c : Bool) → known (system_in s) ≡ c
          → (d : Bool) → eqb (length area) (area_size y) ≡ d
          → unless 1 a (unless 2 b (unless 3 c (unless 4 d (list_tests y s)))) ≡ listed ps → Asked k (system_in s) ps s area
      go false p b q c r d t e = never (cc)
      go true p false q c r d t e = never (cc)
      go true p true q false r d t e = never (cc)
      go true p true q true r false t e = never (cc)
      go true p true q true r true t e = record { packing = p; sheet = list-laid s ps r q e; own = eqb-true (length area) (area_size y) t }

  front-numbers : (n i : ℕ) → front ≡ refused n i → Earlier n
  front-numbers n i e =
      unless-has Earlier 1 (is_packing k) _ n i (omega arith, omega arith)
      (unless-has Earlier 2 (shaped s) _ n i (omega arith, omega arith)
      (unless-has Earlier 3 (known (system_in s)) _ n i (omega arith, omega arith)
      (unless-has Earlier 4 (eqb (length area) (area_size y)) _ n i (omega arith, omega arith) (list-numbers y s n i)))) e

  strict-asked : (sys : ℕ) (ps : List Packet) → Asked k sys ps s area → strict_laying k s area ≡ last_two ps
  strict-asked sys ps a = strict-front ∙ ap (λ (o : Outcome). and_then o last_two) (front-asked sys ps a).0

  -- the two answer alike where 29 makes no difference: that is so where no list that is asked for has a packet outside the profile
  alike_from : (o : Outcome) → front ≡ o → and_then o last_two ≡ and_then o last → strict_laying k s area ≡ laying k s area
  alike_from o e q =
      strict-front
      ∙ ap (λ (x : Outcome). and_then x last_two) e
      ∙ q
      ∙ sym (laying-front ∙ ap (λ (x : Outcome). and_then x last) e)

  laid-alike : ((ps : List Packet) → Asked k (system_in s) ps s area → last_two ps ≡ last ps) → strict_laying k s area ≡ laying k s area
  laid-alike w = alike_from front refl (go front refl)
    where
      go : (o : Outcome) → front ≡ o → and_then o last_two ≡ and_then o last
      go (refused n i) e = refl
      go (listed ps) e = w ps (front-only ps e)

  -- a test in front refuses; a list within the profile; a list with a packet outside
  data Way : Type 0 where
    early : (n i : ℕ) → Earlier n → strict_laying k s area ≡ refused n i → strict_laying k s area ≡ laying k s area → Way
    within : (ps : List Packet) → AskedStrict k (system_in s) ps s area → strict_laying k s area ≡ last ps
        → strict_laying k s area ≡ laying k s area → Way
    outside : (ps : List Packet) (i : ℕ) → Asked k (system_in s) ps s area → FirstOutside ps i → strict_laying k s area ≡ refused 29 i → Way

  way : Way
  way = go front refl
    where
      go : (o : Outcome) → front ≡ o → Way
      go (refused n i) e =
          let q = strict-front ∙ ap (λ (x : Outcome). and_then x last_two) e in
          early n i (front-numbers n i e) q (alike_from (refused n i) e refl)
      go (listed ps) e =
          let a = front-only ps e in
          let q = strict-asked (system_in s) ps a in
          ⊎_elim
          (λ w.
          let l = all-within 0 ps (last ps) w in
          within ps (record { asked = a; eight = w }) (q ∙ l) (alike_from (listed ps) e l))
          (λ w. outside ps w.0 a w.1 (q ∙ first-named ps w.0 (last ps) w.1))
          (within_or_not ps)

  -- "Lists that pass are laid as before": the same answer, and the same area, byte for byte
  pub laid-as-before : (sys : ℕ) (ps : List Packet) → AskedStrict k sys ps s area
      → (lay_strict k s area ≡ lay k s area) × (area_strict k s area ≡ area_after k s area)
  unfolding lay_strict area_strict lay area_after
  laid-as-before sys ps a =
      let q = alike_from (listed ps) (front-asked sys ps a.asked).0 (all-within 0 ps (last ps) a.eight) in
      (ap (laid_in k y (words_in s)) q, ap (area_of k y area) q)

  -- ---- the contract

  -- it follows from its first two fields
  pub lays-strict : (r : Laid) (after : List ℕ) → r ≡ lay_strict k s area → after ≡ area_strict k s area → LaysStrict k s area r after
  unfolding lay_strict area_strict lay area_after word_at
  lays-strict r after er ea =
      record {
        answer = er;
        buffer = ea;
        demand1 = λ n. unlaid (strict_laying k s area) er ea n;
        demand2 =
            record {
              laid = λ sys ps a f. let e = laid-as-before sys ps a in rw (er ∙ e.0, ea ∙ e.1) (plain.demand2.laid sys ps a.asked f);
              full = λ sys ps a f. er ∙ (laid-as-before sys ps a).0 ∙ plain.demand2.full sys ps a.asked f;
              only = λ n. only way n;
            };
        profile =
            record {
              outside = λ sys ps i a w. er ∙ ap (laid_in k y (words_in s)) (strict-asked sys ps a ∙ first-named ps i (last ps) w);
              only = λ n. named way n;
            };
        before = λ n. before way n;
      }
    where
      plain : Lays k s area (lay k s area) (area_after k s area)
      plain = lays k s area (lay k s area) (area_after k s area) refl refl

      number_of : (o : Outcome) → strict_laying k s area ≡ o → r.number ≡ (laid_of k y o).number
      number_of o e = ap (λ (x : Laid). x.number) er ∙ ap (λ (x : Outcome). (laid_of k y x).number) e

      alike : strict_laying k s area ≡ laying k s area → (r ≡ lay k s area) × (after ≡ area_after k s area)
      alike e = (er ∙ ap (laid_in k y (words_in s)) e, ea ∙ ap (area_of k y area) e)

      unlaid : (o : Outcome) → r ≡ laid_in k y (words_in s) o → after ≡ area_of k y area o → (r.number ≡ 0 → ⊥) → Unlaid r area after
      unlaid (listed ps) p q n = absurd (n (ap (λ (x : Laid). x.number) p))
      unlaid (refused m i) p q n = record { kept = q; packs = ap (λ (x : Laid). x.packs) p; bytes = ap (λ (x : Laid). x.bytes) p }

      -- 0 or 12
      fitted : (ps : List Packet) (t : Bool) → fits k (block_sizes y) ps ≡ t → r.number ≡ (laid_of k y (unless 12 t (listed ps))).number
          → (r.number ≡ 29 → ⊥) × (r.number ≡ 0 → fits k (block_sizes y) ps ≡ true)
      fitted ps true f m = (λ z. omega arith, λ z. f)
      fitted ps false f m = (λ z. omega arith, λ z. absurd (omega arith))

      only : Way → r.number ≡ 0
          → (sys : ℕ) × (ps : List Packet) × AskedStrict k sys ps s area × (fits k (block_sizes (system sys)) ps ≡ true)
      only (early n i h e q) z = let m = number_of (refused n i) e in absurd (omega arith)
      only (outside ps i a w e) z = let m = number_of (refused 29 i) e in absurd (omega arith)
      only (within ps a e q) z = (system_in s, ps, a, (fitted ps (fits k (block_sizes y) ps) refl (number_of (last ps) e)).1 z)

      named : Way → r.number ≡ 29 → (sys : ℕ) × (ps : List Packet) × Asked k sys ps s area × FirstOutside ps r.place
      named (early n i h e q) z = let m = number_of (refused n i) e in absurd (omega arith)
      named (within ps a e q) z = absurd ((fitted ps (fits k (block_sizes y) ps) refl (number_of (last ps) e)).0 z)
      named (outside ps i a w e) z =
          let p : r.place ≡ i = ap (λ (x : Laid). x.place) er ∙ ap (λ (x : Outcome). (laid_of k y x).place) e in
          (system_in s, ps, a, subst (FirstOutside ps) (sym p) w)

      before : Way → (r.number ≡ 29 → ⊥) → (r ≡ lay k s area) × (after ≡ area_after k s area)
      before (early n i h e q) z = alike q
      before (within ps a e q) z = alike q
      before (outside ps i a w e) z = absurd (z (number_of (refused 29 i) e))

  -- ---- the ways through the code

  -- what the search says of a list that is asked for
  found_in : (ws : List ℕ) → ws ≡ words_in s → (f : Option ℕ) → Seeks ws f → (sys : ℕ) (ps : List Packet) → Asked k sys ps s area
      → last_two ps ≡ stopped f (last ps)
  found_in ws c f w sys ps a =
      w.first (system sys) ps a.sheet.sound (c ∙ ap words_in a.sheet.whole ∙ words_back sys ps) (last ps)

  module _ (ws : List ℕ) (c : ws ≡ words_in s) (f : Option ℕ) (w : Seeks ws f) where
    -- 29
    pub refuses-outside : (place : ℕ) → f ≡ Some place → Answers k s (length area) true
        → LaysStrict k s area (record { number = 29; place = place; word = 0; packs = 0; bytes = 0 }) area
    unfolding lay_strict area_strict word_at
    refuses-outside place b t =
        let a = t.yes refl area refl in
        let e : strict_laying k s area ≡ refused 29 place =
        strict-asked a.0 a.1 a.2 ∙ found_in ws c f w a.0 a.1 a.2 ∙ rw b in
        lays-strict _ _ (sym (ap (laid_in k y (words_in s)) e)) (sym (ap (area_of k y area) e))

    -- laying's answer, where no packet is outside, and where no list is asked for
    answers-as : strict_laying k s area ≡ laying k s area → (r : Laid) (after : List ℕ) → Lays k s area r after → LaysStrict k s area r after
    unfolding lay_strict area_strict lay area_after
    answers-as e r after v =
        lays-strict r after (v.answer ∙ sym (ap (laid_in k y (words_in s)) e)) (v.buffer ∙ sym (ap (area_of k y area) e))

    pub lays-within : f ≡ None → (r : Laid) (after : List ℕ) → Lays k s area r after → LaysStrict k s area r after
    lays-within b r after v = answers-as (laid-alike (λ ps a. found_in ws c f w (system_in s) ps a ∙ rw b)) r after v

    pub lays-early : Answers k s (length area) false → (r : Laid) (after : List ℕ) → Lays k s area r after → LaysStrict k s area r after
    lays-early t r after v = answers-as (laid-alike (λ ps a. absurd (t.no refl area refl (system_in s) ps a))) r after v

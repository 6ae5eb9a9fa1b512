-- Demands 1 and 2: what laying gives back and the area afterwards meet the contract `Lays`.
--
-- In order: laying a sound list's sheet; number 0 only for such a sheet; success; no second area (`laid_one`); the contract (`lays`);
-- laying by the sheet's tests, for code that starts with them.
-- Assumes nothing.
use Prim.Native.Nat.{ℕ, ◌≤◌}
use mathlib.Core.Path.{◌≡◌, refl, sym, ap, ◌∙◌, subst}
use mathlib.Core.Bool.{Bool, true, false}
use mathlib.Core.List.{List, [], map}
use native.Mathlib.Nat.{le_of_eq}
use native.Mathlib.Omega.{arith}
use lib.Dec.{eqb}
use lib.ListN.{length}
use borrow.Author.Tests.{eqb-true, eq-eqb, ne_eqb}
use Rattle.rules.specs.Base.{sum}
use Rattle.rules.specs.Systems.{System, known, system}
use Rattle.rules.specs.Packet.{Packet}
use Rattle.rules.specs.Danc.{written, packets_of}
use Rattle.rules.specs.Sheet.{system_in, words_in}
use Rattle.rules.specs.Blocks.{runs, block_sizes, area_size, scatter, user_bytes_in}
use Rattle.rules.specs.Packings.{is_packing, laid_bytes, fits, packs_laid, packs_in}
use Rattle.rules.specs.Numbers.{Outcome, listed, refused, unless, and_then}
use Rattle.rules.specs.Laying.{word_at, shaped, list_tests, sheet_tests, laying, laid_of, laid_in, area_of, lay, area_after}
use Rattle.rules.specs.Lister.{tested_of, tested_in, tested}
use Rattle.rules.specs.Demands.{SheetOf, Tests, Asked, Success, Unlaid, Lays}
use Rattle.rules.specs.declared.Laid.{Laid}
use Rattle.rules.specs.declared.Tested.{Tested}
use Rattle.rules.proofs.Basics.{never, written_back}
use Rattle.rules.proofs.Blocks.{scatter-length, scatter-outside, gather-scatter, scatter-one, Facts, facts-of}
use Rattle.rules.proofs.Users.{users-length, users-counted, users-ceiling}
use Rattle.rules.proofs.Sheets.{system-back, shaped-back, list_read, list-laid, unless-from, list-refused, Told, sheet-told}

-- the tests of laying on the sheet of a sound list come down to the room
laying-asked : (k sys : ℕ) (ps : List Packet) (s area : List ℕ) → Asked k sys ps s area
    → (laying k s area ≡ unless 12 (fits k (block_sizes (system sys)) ps) (listed ps)) × (system_in s ≡ sys)
unfolding laying
laying-asked k sys ps s area a =
    let y : system_in s ≡ sys = ap system_in a.sheet.whole ∙ system-back sys ps in (
      rw (
        a.packing,
        ap shaped a.sheet.whole ∙ shaped-back sys ps,
        y,
        a.sheet.known,
        eq-eqb (length area) (area_size (system sys)) a.own,
        ap (list_tests (system sys)) a.sheet.whole ∙ list_read sys ps (system sys) a.sheet.sound a.sheet.few,
      ),
      y,
    )

-- number 0 only for the sheet of a sound list within the limit that fits
laying-only : (k : ℕ) (s area : List ℕ) (ps : List Packet) → laying k s area ≡ listed ps
    → Asked k (system_in s) ps s area × (fits k (block_sizes (system (system_in s))) ps ≡ true)
unfolding laying
laying-only k s area ps e =
    go (is_packing k) refl (shaped s) refl (known (system_in s)) refl (eqb (length area) (area_size y)) refl e
  where
    y : System
    y = system (system_in s)

    within : List Packet → Outcome
    within qs = unless 12 (fits k (block_sizes y) qs) (listed qs)

    fitted : (qs : List Packet) (t : Bool) → fits k (block_sizes y) qs ≡ t → unless 12 t (listed qs) ≡ listed ps
        → (qs ≡ ps) × (fits k (block_sizes y) qs ≡ true)
    fitted qs true q e = (cc, q)
    fitted qs false q e = never (cc)

    from_list : is_packing k ≡ true → shaped s ≡ true → known (system_in s) ≡ true → length area ≡ area_size y → (o : Outcome) → list_tests y s ≡ o
        → and_then o within ≡ listed ps → Asked k (system_in s) ps s area × (fits k (block_sizes y) ps ≡ true)
    from_list p sh kn l (refused n i) q e = never (cc)
    from_list p sh kn l (listed qs) q e =
        let w = fitted qs (fits k (block_sizes y) qs) refl e in
        let z = list-laid s qs kn sh q in
        subst (λ (rs : List Packet). Asked k (system_in s) rs s area × (fits k (block_sizes y) rs ≡ true)) w.0
        (record { packing = p; sheet = z; own = l }, w.1)

    go : (a : Bool) → is_packing k ≡ a → (b : Bool) → shaped s ≡ b → (c : Bool) → known (system_in s) ≡ c
        → (d : Bool) → eqb (length area) (area_size y) ≡ d
        → unless 1 a (unless 2 b (unless 3 c (unless 4 d (and_then (list_tests y s) within)))) ≡ listed ps
        → Asked k (system_in s) ps s area × (fits k (block_sizes y) ps ≡ true)
    go false p b q c r d t e = never (cc)
    go true p false q c r d t e = never (cc)
    go true p true q false r d t e = never (cc)
    go true p true q true r false t e = never (cc)
    go true p true q true r true t e = from_list p q r (eqb-true (length area) (area_size y) t) (list_tests y s) refl e

-- a refusal's number is not 0
laying_refused : (k : ℕ) (s area : List ℕ) (n i : ℕ) → laying k s area ≡ refused n i → 1 ≤ n
unfolding laying
laying_refused k s area n i e =
    unless-from 1 1 (is_packing k) _ n i
    (unless-from 1 2 (shaped s) _ n i
    (unless-from 1 3 (known (system_in s)) _ n i
    (unless-from 1 4 (eqb (length area) (area_size y)) _ n i (from_list (list_tests y s) refl)
    (omega arith)) (omega arith)) (omega arith)) (omega arith) e
  where
    y : System
    y = system (system_in s)

    from_list : (o : Outcome) → list_tests y s ≡ o
        → and_then o (λ (ps : List Packet). unless 12 (fits k (block_sizes y) ps) (listed ps)) ≡ refused n i → 1 ≤ n
    from_list (refused m j) q e = let h = list-refused y s n i (q ∙ e) in omega arith
    from_list (listed ps) q e = unless-from 1 12 (fits k (block_sizes y) ps) (listed ps) n i (λ f. never (cc)) (omega arith) e

-- a list that fits, laid into the frame's own area
module _ (k sys : ℕ) (ps : List Packet) (s area : List ℕ) (a : Asked k sys ps s area) (f : fits k (block_sizes (system sys)) ps ≡ true) where
  abbrev y : System
  y = system sys

  abbrev us : List ℕ
  us = laid_bytes k (block_sizes y) ps

  facts : Facts y
  facts = facts-of sys a.sheet.known

  fits-written : fits k (block_sizes y) (packets_of (map written ps)) ≡ true
  fits-written = rw (written_back ps) f

  us-length : length us ≡ sum (block_sizes y)
  us-length = users-length y facts.last (block_sizes y) facts.packs facts.roomy facts.whole k [] (map written ps) fits-written

  success : Success k sys ps area (laid_of k y (listed ps)) (area_of k y area (listed ps))
  success =
      let g : user_bytes_in y (scatter (runs y) us area) ≡ us =
      gather-scatter (area_size y) (runs y) us area facts.within facts.apart us-length a.own in
      record {
        number = refl;
        place = refl;
        users = g;
        others = λ i o. scatter-outside (area_size y) (runs y) us area i facts.within (le_of_eq (sym us-length)) a.own o;
        length = scatter-length (area_size y) (runs y) us area facts.within (le_of_eq (sym us-length)) a.own ∙ sym a.own;
        bytes = refl;
        packs = refl;
        counted =
            ap (packs_in k (block_sizes y)) g
            ∙ users-counted y facts.last (block_sizes y) facts.packs facts.roomy facts.whole k [] (map written ps) fits-written
            ∙ ap (packs_laid k (block_sizes y)) (written_back ps);
        ceiling = users-ceiling y facts.last (block_sizes y) facts.packs facts.roomy facts.whole k ps f;
      }

  -- no second area has these user bytes and the other bytes as they were
  pub laid_one : (r : Laid) (after : List ℕ) → Success k sys ps area r after → after ≡ area_of k y area (listed ps)
  laid_one r after w =
      scatter-one (area_size y) (runs y) us area after facts.within facts.apart us-length a.own (w.length ∙ a.own) w.users w.others

-- ---- the contract

-- the contract of laying follows from its first two fields
pub lays : (k : ℕ) (s area : List ℕ) (r : Laid) (after : List ℕ) → r ≡ lay k s area → after ≡ area_after k s area → Lays k s area r after
unfolding lay area_after word_at
lays k s area r after er ea =
    record {
      answer = er;
      buffer = ea;
      demand1 = λ n. unlaid (laying k s area) er ea n;
      demand2 =
          record {
            laid = λ sys ps a f. laid sys ps a f;
            full = λ sys ps a f. let w = laying-asked k sys ps s area a in er ∙ rw (w.1, w.0, f);
            only = λ n. only (laying k s area) refl (ap (λ (x : Laid). x.number) er) n;
          };
    }
  where
    y : System
    y = system (system_in s)

    unlaid : (o : Outcome) → r ≡ laid_in k y (words_in s) o → after ≡ area_of k y area o → (r.number ≡ 0 → ⊥) → Unlaid r area after
    unlaid (listed ps) p q n = absurd (n (ap (λ (x : Laid). x.number) p))
    unlaid (refused m i) p q n = record { kept = q; packs = ap (λ (x : Laid). x.packs) p; bytes = ap (λ (x : Laid). x.bytes) p }

    laid : (sys : ℕ) (ps : List Packet) → Asked k sys ps s area → fits k (block_sizes (system sys)) ps ≡ true → Success k sys ps area r after
    laid sys ps a f =
        let w = laying-asked k sys ps s area a in
        let p : r ≡ laid_of k (system sys) (listed ps) = er ∙ rw (w.1, w.0, f) in
        let q : after ≡ area_of k (system sys) area (listed ps) = ea ∙ rw (w.1, w.0, f) in
        rw (p, q) (success k sys ps s area a f)

    only : (o : Outcome) → laying k s area ≡ o → r.number ≡ (laid_of k y o).number → r.number ≡ 0
        → (sys : ℕ) × (ps : List Packet) × Asked k sys ps s area × (fits k (block_sizes (system sys)) ps ≡ true)
    only (refused m i) q p n = let h = laying_refused k s area m i q in absurd (omega arith)
    only (listed ps) q p n = let w = laying-only k s area ps q in (system_in s, ps, w.0, w.1)

-- ---- laying by the sheet's tests, for code that starts with them

module _ (k : ℕ) (s area : List ℕ) where
  -- the two fields of the contract, from the outcome
  abbrev pub Lain : Laid → List ℕ → Outcome → Type 0
  Lain r after o = (r ≡ laid_in k (system (system_in s)) (words_in s) o) × (after ≡ area_of k (system (system_in s)) area o)

  pub lays-outcome : (r : Laid) (after : List ℕ) (o : Outcome) → laying k s area ≡ o → Lain r after o → Lays k s area r after
  unfolding lay area_after
  lays-outcome r after o e w =
      let y = system (system_in s) in
      lays k s area r after (w.0 ∙ sym (ap (laid_in k y (words_in s)) e)) (w.1 ∙ sym (ap (area_of k y area) e))

  -- 1: the packing
  pub refuses-packing : is_packing k ≡ false → laying k s area ≡ refused 1 0
  unfolding laying
  refuses-packing p = rw p

  module _ (p : is_packing k ≡ true) (t : Tested) (w : Tests s t) where
    told : Told s t.number
    unfolding tested
    told = go (sheet_tests s) refl (ap (λ (x : Tested). x.number) w.answer)
      where
        go : (o : Outcome) → sheet_tests s ≡ o → t.number ≡ (tested_of (system_in s) o).number → Told s t.number
        go (listed ps) e n = subst (Told s) (sym n) (sheet-told s (listed ps) e)
        go (refused m i) e n = subst (Told s) (sym n) (sheet-told s (refused m i) e)

    -- 2 and 3: the sheet's shape and its system
    pub refuses-shape : t.number ≡ 2 → laying k s area ≡ refused 2 0
    unfolding laying
    refuses-shape n = rw (p, told.two n)

    pub refuses-system : t.number ≡ 3 → laying k s area ≡ refused 3 0
    unfolding laying
    refuses-system n = let v = told.three n in rw (p, v.0, v.1)

    module _ (n2 : t.number ≡ 2 → ⊥) (n3 : t.number ≡ 3 → ⊥) where
      -- what is known past these: the sheet's shape, and its system
      pub past-system : (shaped s ≡ true) × (known (system_in s) ≡ true)
      past-system = told.rest n2 n3

      -- 4: the area
      pub refuses-area : (length area ≡ area_size (system (system_in s)) → ⊥) → laying k s area ≡ refused 4 0
      unfolding laying
      refuses-area l = let v = past-system in rw (p, v.0, v.1, ne_eqb (length area) (area_size (system (system_in s))) l)

      module _ (l : length area ≡ area_size (system (system_in s))) where
        -- 5 to 11: the list
        pub refuses-list : (t.number ≡ 0 → ⊥) → laying k s area ≡ refused t.number t.place
        unfolding laying tested sheet_tests
        refuses-list n0 =
            let v = past-system in
            let y = system (system_in s) in
            let a : t ≡ tested_in (system_in s) (words_in s) (list_tests y s) = w.answer ∙ rw (v.0, v.1) in
            rw (p, v.0, v.1, eq-eqb (length area) (area_size y) l) (go (list_tests y s) a)
          where
            go : (o : Outcome) → t ≡ tested_in (system_in s) (words_in s) o
                → and_then o (λ (ps : List Packet). unless 12 (fits k (block_sizes (system (system_in s))) ps) (listed ps))
                ≡ refused t.number t.place
            go (listed ps) e = absurd (n0 (ap (λ (x : Tested). x.number) e))
            go (refused m i) e = λ j. refused (sym (ap (λ (x : Tested). x.number) e) j) (sym (ap (λ (x : Tested). x.place) e) j)

        -- what a list that passes its tests is, and its figures
        pub passed-list : t.number ≡ 0
            → (ps : List Packet) × Asked k (system_in s) ps s area × (t ≡ tested_of (system_in s) (listed ps))
            × (laying k s area ≡ unless 12 (fits k (block_sizes (system (system_in s))) ps) (listed ps))
        passed-list n0 =
            let o = w.only n0 in
            let y : system_in s ≡ o.0 = ap system_in o.2.whole ∙ system-back o.0 o.1 in
            let g : SheetOf (system_in s) o.1 s = subst (λ (z : ℕ). SheetOf z o.1 s) (sym y) o.2 in
            let a : Asked k (system_in s) o.1 s area = record { packing = p; sheet = g; own = l } in
            (o.1, a, w.passes (system_in s) o.1 g, (laying-asked k (system_in s) o.1 s area a).0)

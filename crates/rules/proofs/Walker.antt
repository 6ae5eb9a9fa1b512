-- The walker's k-th answer is the k-th packet of the string's definition.
--
-- In order: a step at a packet, and at the end; `walk-packet`, `walk_end`; after the end or a refusal (`walk-stays`); what the walker
-- finds is there (`walk-laid`).
-- Assumes nothing.
use Prim.Native.Nat.{ℕ, zero, suc, ◌+◌, ◌-◌, ◌≤◌, ◌<◌}
use mathlib.Core.Path.{◌≡◌, refl, sym, ap, ◌∙◌, subst}
use mathlib.Core.Bool.{Bool, true, false, cond}
use mathlib.Core.List.{List, [], ◌∷◌, ◌++◌, append_assoc, append-nil}
use native.Mathlib.Nat.{add-zero, zero-add, le_refl}
use native.Mathlib.Omega.{arith}
use lib.Dec.{eqb, leb}
use lib.ListN.{length, get_or, drop, length-append, length-drop}
use lib.Seq.{drop-append_seam, drop-drop}
use borrow.Author.Tests.{eqb-true, le-leb, lt-leb}
use Rattle.rules.specs.Base.{All, none, one, Bytes}
use Rattle.rules.specs.Systems.{System, known, system}
use Rattle.rules.specs.Danc.{Item, Good, header, danc, string, bytes_of}
use Rattle.rules.specs.Reading.{string_fault, string_row}
use Rattle.rules.specs.Walker.{step, walk, place_of, answer}
use Rattle.rules.specs.declared.Step.{Step}
use Rattle.rules.proofs.Basics.{joined-append, all-before, all_append, drop-bytes}
use Rattle.rules.proofs.Blocks.{facts-of}
use Rattle.rules.proofs.Strings.{danc-length, string-fine, string-uncut}

module _ (sys : ℕ) (k : known sys ≡ true) where
  abbrev y : System
  y = system sys

  -- a step at a good packet
  step-packet : (s : List ℕ) (at : ℕ) (x : Item) (r : List ℕ) → drop at s ≡ danc x ++ r → Good y x
      → walk sys s at ≡ step 0 at (bytes_of x.packet)
  unfolding walk danc header
  step-packet s at x r e g =
      let l : length s - at ≡ length (danc x ++ r) = sym (length-drop at s) ∙ ap length e in
      rw (k, lt-leb (length s) at (omega arith), e, string-fine y (facts-of sys k).last x r g)

  -- a step at the end, or past it
  pub step_end : (s : List ℕ) (at : ℕ) → length s ≤ at → walk sys s at ≡ step 0 at 0
  unfolding walk
  step_end s at h = rw (k, le-leb (length s) at h)

  -- the place behind good packets, from the place before them on
  place-behind : (s : List ℕ) (i at : ℕ) (xs : List Item) (r : List ℕ) → place_of sys s i ≡ at → drop at s ≡ string xs ++ r → All (Good y) xs
      → (place_of sys s (i + length xs) ≡ at + length (string xs)) × (drop (at + length (string xs)) s ≡ r)
  unfolding place_of
  place-behind s i at [] r p e g = rw (add-zero i, add-zero at) (p, e)
  place-behind s i at (x ∷ xs) r p e (one g gs) =
      let f : drop at s ≡ danc x ++ (string xs ++ r) = e ∙ append_assoc (danc x) (string xs) r in
      let n = danc-length x in
      let q : place_of sys s (suc i) ≡ at + length (danc x) = rw (p, step-packet s at x (string xs ++ r) f g, n) in
      let d : drop (at + length (danc x)) s ≡ string xs ++ r =
      sym (drop-drop (length (danc x)) at s) ∙ ap (drop (length (danc x))) f ∙ drop-append_seam (danc x) (string xs ++ r) in
      let w = place-behind s (suc i) (at + length (danc x)) xs r q d gs in
      let a : suc i + length xs ≡ i + suc (length xs) = omega arith in
      let b : at + length (danc x) + length (string xs) ≡ at + length (danc x ++ string xs) =
      let c = length-append (danc x) (string xs) in omega arith in
      (ap (place_of sys s) (sym a) ∙ w.0 ∙ b, ap (λ (m : ℕ). drop m s) (sym b) ∙ w.1)

  -- the k-th answer is the k-th packet: it stands behind the string of those before it
  pub walk-packet : (xs : List Item) (x : Item) (zs : List Item) → All (Good y) (xs ++ x ∷ zs)
      → answer sys (string (xs ++ x ∷ zs)) (length xs) ≡ step 0 (length (string xs)) (bytes_of x.packet)
  unfolding answer place_of
  walk-packet xs x zs g =
      let s : List ℕ = string (xs ++ x ∷ zs) in
      let w = place-behind s 0 0 xs (danc x ++ string zs) refl (joined-append danc xs (x ∷ zs)) (all-before (Good y) xs (x ∷ zs) g) in
      let p : place_of sys s (length xs) ≡ length (string xs) =
      ap (place_of sys s) (sym (zero-add (length xs))) ∙ w.0 ∙ zero-add (length (string xs)) in
      let d : drop (length (string xs)) s ≡ danc x ++ string zs = ap (λ (m : ℕ). drop m s) (sym (zero-add (length (string xs)))) ∙ w.1 in
      ap (walk sys s) p ∙ step-packet s (length (string xs)) x (string zs) d (first_good xs x zs g)
    where
      first_good : (xs : List Item) (x : Item) (zs : List Item) → All (Good y) (xs ++ x ∷ zs) → Good y x
      first_good [] x zs (one g gs) = g
      first_good (z ∷ xs) x zs (one g gs) = first_good xs x zs gs

  -- after the end or a refusal the place stays, and each further step answers the same
  pub walk-stays : (s : List ℕ) (i : ℕ) → (answer sys s i).length ≡ 0 → answer sys s (suc i) ≡ answer sys s i
  unfolding answer place_of
  walk-stays s i e = ap (walk sys s) (ap (λ (n : ℕ). place_of sys s i + n) e ∙ add-zero (place_of sys s i))

  -- behind the last packet is the string's end, and stays
  pub walk_end : (xs : List Item) (i : ℕ) → All (Good y) xs → answer sys (string xs) (i + length xs) ≡ step 0 (length (string xs)) 0
  unfolding answer place_of
  walk_end xs zero g =
      let s : List ℕ = string xs in
      let w = place-behind s 0 0 xs [] refl (sym (append-nil s)) g in
      ap (walk sys s) (w.0 ∙ zero-add (length s)) ∙ step_end s (length s) (le_refl (length s))
  walk_end xs (suc i) g =
      let e = walk_end xs i g in
      let a : suc i + length xs ≡ suc (i + length xs) = omega arith in
      ap (answer sys (string xs)) a ∙ walk-stays (string xs) (i + length xs) (ap (λ (t : Step). t.length) e) ∙ e

  -- what the walker has found by its i-th answer, where that is a packet: so many packets stand in front of it
  pub record Found (s : List ℕ) (i : ℕ) : Type 0 where
    pub before : List Item
    pub item : Item
    pub rest : List ℕ
    pub count : length before ≡ i
    pub good : All (Good y) (before ++ item ∷ [])
    pub whole : s ≡ string before ++ (danc item ++ rest)
    pub place : place_of sys s i ≡ length (string before)
    pub is : answer sys s i ≡ step 0 (length (string before)) (bytes_of item.packet)

  -- a packet that a step answers with is there
  step-laid : (s : List ℕ) (at : ℕ) → Bytes s → 0 < (walk sys s at).length
      → (x : Item) × (drop at s ≡ danc x ++ drop (get_or (drop at s) 5 0 + 7) (drop at s)) × Good y x
  unfolding walk string_row
  step-laid s at b h = go (leb (length s) at) (eqb (string_fault y (drop at s)) 0) refl (subst (λ (t : Step). 0 < t.length) known-walk h)
    where
      known-walk : walk sys s at
          ≡ cond (leb (length s) at) (step 0 at 0)
          (cond (eqb (string_fault y (drop at s)) 0) (step 0 at (get_or (drop at s) 5 0 + 7)) (step (string_fault y (drop at s)) at 0))
      known-walk = rw k

      go : (a c : Bool) → eqb (string_fault y (drop at s)) 0 ≡ c
          → 0 < (cond a (step 0 at 0) (cond c (step 0 at (get_or (drop at s) 5 0 + 7)) (step (string_fault y (drop at s)) at 0))).length
          → (x : Item) × (drop at s ≡ danc x ++ drop (get_or (drop at s) 5 0 + 7) (drop at s)) × Good y x
      go true c q h = absurd (omega arith)
      go false false q h = absurd (omega arith)
      go false true q h =
          let w = string-uncut y 1 (drop at s) (drop-bytes at s b) (eqb-true (string_fault y (drop at s)) 0 q) in
          (w.0, w.2, w.3)

  -- what the walker finds is there: an answer that is a packet is the next packet of a string that s begins with
  pub walk-laid : (s : List ℕ) → Bytes s → (i : ℕ) → 0 < (answer sys s i).length → Found s i
  unfolding answer place_of
  walk-laid s b zero h =
      let w = step-laid s 0 b h in
      record {
        before = [];
        item = w.0;
        rest = drop (get_or s 5 0 + 7) s;
        count = refl;
        good = one w.2 none;
        whole = w.1;
        place = refl;
        is = step-packet s 0 w.0 (drop (get_or s 5 0 + 7) s) w.1 w.2;
      }
  walk-laid s b (suc i) h = go (answer sys s i).length refl (λ l. walk-laid s b i l)
    where
      next : Found s i → Found s (suc i)
      next f =
          let c = f.before in
          let x = f.item in
          let d : string (c ++ x ∷ []) ≡ string c ++ danc x =
          joined-append danc c (x ∷ []) ∙ ap (λ (t : List ℕ). string c ++ t) (append-nil (danc x)) in
          let at : place_of sys s (suc i) ≡ length (string (c ++ x ∷ [])) =
          (let l = length-append (string c) (danc x) in
          let m = danc-length x in
          let n : (walk sys s (place_of sys s i)).length ≡ bytes_of x.packet = ap (λ (t : Step). t.length) f.is in
          let o = f.place in
          let q : length (string (c ++ x ∷ [])) ≡ length (string c ++ danc x) = ap length d in
          omega arith) in
          let whole : s ≡ string (c ++ x ∷ []) ++ f.rest =
          f.whole ∙ sym (append_assoc (string c) (danc x) f.rest) ∙ ap (λ (t : List ℕ). t ++ f.rest) (sym d) in
          let rest : drop (length (string (c ++ x ∷ []))) s ≡ f.rest =
          ap (drop (length (string (c ++ x ∷ [])))) whole ∙ drop-append_seam (string (c ++ x ∷ [])) f.rest in
          let w = step-laid s (length (string (c ++ x ∷ []))) b (subst (λ (n : ℕ). 0 < (walk sys s n).length) at h) in
          let r : List ℕ = drop (get_or (drop (length (string (c ++ x ∷ []))) s) 5 0 + 7) (drop (length (string (c ++ x ∷ []))) s) in
          record {
            before = c ++ x ∷ [];
            item = w.0;
            rest = r;
            count = length-append c (x ∷ []) ∙ (let n = f.count in omega arith);
            good = all_append (Good y) (c ++ x ∷ []) (w.0 ∷ []) f.good (one w.2 none);
            whole = whole ∙ ap (λ (t : List ℕ). string (c ++ x ∷ []) ++ t) (sym rest ∙ w.1);
            place = at;
            is = ap (walk sys s) at ∙ step-packet s (length (string (c ++ x ∷ []))) w.0 r w.1 w.2;
          }

      go : (n : ℕ) → (answer sys s i).length ≡ n → (0 < (answer sys s i).length → Found s i) → Found s (suc i)
      go zero e ih =
          let q : (answer sys s (suc i)).length ≡ 0 = ap (λ (t : Step). t.length) (walk-stays s i e) ∙ e in
          absurd (omega arith)
      go (suc n) e ih = next (ih (omega arith))

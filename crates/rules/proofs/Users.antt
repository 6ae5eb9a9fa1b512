-- User bytes: those of a list laid in either packing are read as that list, what is read was laid so, and they are as many as the
-- blocks hold. Over the sizes of any blocks that have room for a string byte each and make whole packs of 5 together.
--
-- In order: fill; refusals; `users-read`; `users-laid`; `users-unique`; length, packs and room; what we lay (`written-gives`).
-- Assumes nothing.
use Prim.Native.Nat.{ℕ, zero, suc, ◌+◌, ◌-◌, ◌*◌, ◌/◌, ◌≤◌, ◌<◌}
use mathlib.Core.Path.{◌≡◌, refl, sym, ap, ◌∙◌, subst}
use mathlib.Core.Logic.{◌⊎◌, inl, inr, ⊎_elim}
use mathlib.Core.Bool.{Bool, true, false, cond, ◌||◌}
use mathlib.Core.List.{List, [], ◌∷◌, ◌++◌, map}
use native.Mathlib.Omega.{arith}
use native.Mathlib.Nat.{sub-zero}
use lib.Dec.{eqb, ltb, leb}
use lib.ListN.{length, length-append, length-map, length-replicate}
use borrow.Author.Tests.{eqb-true, leb-true, le-leb, lt-ltb, ltb-true}
use Rattle.rules.specs.Base.{all_is, sum, joined, All, none, one, Bytes}
use Rattle.rules.specs.Systems.{System}
use Rattle.rules.specs.Packet.{Packet, Sound}
use Rattle.rules.specs.Danc.{Item, Good, written, packets_of, header, danc, string, string_byte_count}
use Rattle.rules.specs.Sheet.{limit}
use Rattle.rules.specs.Packing1.{flat, fives, packs, packs_of, packs_in1}
use Rattle.rules.specs.Packing2.{fill, filled, Spare, Spares, long_packs, Opened, opened, shut, open_long, string_room, long_count, packs_in2}
use Rattle.rules.specs.Packings.{is_packing, user_bytes, laid_bytes, capacity, needed, fits, packs_laid, packs_in, most_packs}
use Rattle.rules.specs.Numbers.{listed, refused, unless, packets_in}
use Rattle.rules.specs.Reading.{string_ends, string_row, packs_end, pack_row, in_order, first_byte, packets_of_opened}
use Rattle.rules.specs.Reading.{packets_of_user_bytes, packing_found}
use Rattle.rules.specs.Demands.{Gives, named}
use Rattle.rules.proofs.Basics.{never, both, all_is-fill, fill-all_is, written_back}
use Rattle.rules.proofs.Rows.{row-refused}
use Rattle.rules.proofs.Strings.{string-read, string-laid, string-room}
use Rattle.rules.proofs.Packs.{fives-flat, flat-fives, flat_append, flat-length, fills}
use Rattle.rules.proofs.Packs.{packs-filled, packs-read, packs-laid, packs-order, packs-length, packs-counted}
use Rattle.rules.proofs.Long.{Roomy, long-none, long-length, long-read, long-laid, long-bytes, long-counted, long-ceiling}

-- ---- fill

fill-first : (n : ℕ) → first_byte (fill n) ≡ 0xFF
fill-first zero = refl
fill-first (suc n) = refl

-- fill that is less than the last pack's room ends a string
pub fill-ends : (room n : ℕ) → n < room → string_ends room (fill n) ≡ true
unfolding string_ends
fill-ends room n h = rw (length-replicate {A = ℕ} n 0xFF, lt-ltb n room h) (all_is-fill 0xFF n)

end-is-fill : (room : ℕ) (s : List ℕ) → string_ends room s ≡ true → (length s < room) × (all_is 0xFF s ≡ true)
unfolding string_ends
end-is-fill room s e = let w = both (ltb (length s) room) (all_is 0xFF s) e in (ltb-true (length s) room w.0, w.1)

few-items : (xs : List Item) (ps : List Packet) (n : ℕ) → packets_of xs ≡ ps → length ps ≤ n → length xs ≤ n
few-items xs ps n e h = let l = length-map xs (λ (x : Item). x.packet) in let k = ap length e in omega arith

few-packets : (xs : List Item) (ps : List Packet) (n : ℕ) → packets_of xs ≡ ps → length xs ≤ n → length ps ≤ n
few-packets xs ps n e h = let l = length-map xs (λ (x : Item). x.packet) in let k = ap length e in omega arith

-- ---- refusals

module _ (y : System) (sizes ub : List ℕ) (n i : ℕ) where
  -- 13, or the refusal of the packets in packs of 5, or that of the packets in the string that opens
  abbrev pub Refusal : Type 0
  Refusal =
      (n ≡ 13)
      ⊎ (packets_in (pack_row y) limit 0 (fives ub) ≡ refused n i)
      ⊎ ((t : List ℕ) × (room : ℕ) × (open_long sizes ub ≡ opened t room) × (packets_in (string_row y room) limit 0 t ≡ refused n i))

  refused-opened : (o : Opened) → open_long sizes ub ≡ o → packets_of_opened y o ≡ refused n i → Refusal
  refused-opened (opened t room) w e = inr (inr (t, room, w, e))
  refused-opened shut w e = inl (cc)

  refused-cases : (a b c d f : Bool)
      → cond a (unless 13 b (listed []))
      (cond c (unless 13 d (packets_in (pack_row y) limit 0 (fives ub)))
      (cond f (packets_of_opened y (open_long sizes ub)) (refused 13 0))) ≡ refused n i
      → Refusal
  refused-cases true true c d f e = never (cc)
  refused-cases true false c d f e = inl (cc)
  refused-cases false b true true f e = inr (inl e)
  refused-cases false b true false f e = inl (cc)
  refused-cases false b false d true e = refused-opened (open_long sizes ub) refl e
  refused-cases false b false d false e = inl (cc)

  -- user bytes are refused with 13, or as their packets are
  pub users-refusal : packets_of_user_bytes y sizes ub ≡ refused n i → Refusal
  unfolding packets_of_user_bytes
  users-refusal e =
      refused-cases (eqb (first_byte ub) 0xFF) (all_is 0xFF ub) (eqb (first_byte ub) 0xE1) (in_order false (fives ub)) (eqb (first_byte ub) 0xE3) e

  -- a refusal's number is not 0
  pub users-refused : packets_of_user_bytes y sizes ub ≡ refused n i → 1 ≤ n
  users-refused e =
      ⊎_elim (λ z. omega arith)
      (⊎_elim (row-refused (pack_row y) limit 0 (fives ub) n i) (λ w. row-refused (string_row y w.1) limit 0 w.0 n i w.3))
      (users-refusal e)

module _ (y : System) (hm : y.last < 2047) (sizes : List ℕ) (m : ℕ) (roomy : Roomy sizes) (whole : sum sizes ≡ 5 * m) where
  -- ---- what is laid is read

  -- of an area's user bytes: the list, and the packing that a reader names
  abbrev Read : List ℕ → ℕ → List Packet → Type 0
  Read ub k ps = (packets_of_user_bytes y sizes ub ≡ listed ps) × (packing_found ub ≡ named k ps)

  read-fill : (k n : ℕ) → Read (fill n) k []
  unfolding packets_of_user_bytes
  read-fill k n = (rw (fill-first n, all_is-fill 0xFF n), rw (fill-first n))

  read-packs : (x : Item) (xs : List Item) (n : ℕ) → All (Good y) (x ∷ xs) → length (x ∷ xs) ≤ limit
      → Read (flat (joined packs (x ∷ xs) ++ fills n)) 1 (packets_of (x ∷ xs))
  unfolding packets_of_user_bytes packs
  read-packs x xs n g few =
      (rw (fives-flat (joined packs (x ∷ xs) ++ fills n), packs-order (x ∷ xs) n) (packs-read y hm limit 0 (x ∷ xs) n g few), refl)

  read-long : (ns : List ℕ) (fs : List Spare) (x : Item) (xs : List Item) → Roomy ns → length (string (x ∷ xs)) ≤ string_room ns
      → All (Good y) (x ∷ xs) → length (x ∷ xs) ≤ limit
      → (packets_of_user_bytes y ns (long_packs ns fs (string (x ∷ xs))) ≡ listed (packets_of (x ∷ xs)))
      × (packing_found (long_packs ns fs (string (x ∷ xs))) ≡ 2)
  unfolding packets_of_user_bytes danc header
  read-long [] fs x xs r h g few = absurd (omega arith)
  read-long (n ∷ ns) fs x xs r h g few =
      let o = long-read (n ∷ ns) fs (string (x ∷ xs)) r (omega arith) h in (
        rw o.is (string-read y hm o.last limit 0 (x ∷ xs) (fill o.over) g few (fill-ends o.last o.over o.less)),
        refl,
      )

  read-items : (k : ℕ) (fs : List Spare) (xs : List Item) → All (Good y) xs → length xs ≤ limit → (t : Bool) → eqb k 1 ≡ t
      → cond t 1 2 ≡ k
      → cond t (sum (map packs_of (packets_of xs))) (string_byte_count (packets_of xs)) ≤ cond t (sum sizes / 5) (string_room sizes)
      → Read (cond t (filled (sum sizes) (flat (joined packs xs))) (long_packs sizes fs (string xs))) k (packets_of xs)
  read-items k fs [] g few true q e h = read-fill k (sum sizes - 0)
  read-items k fs [] g few false q e h = subst (λ (ub : List ℕ). Read ub k []) (sym (long-none sizes fs)) (read-fill k (sum sizes))
  read-items k fs (x ∷ xs) g few true q e h =
      let l = packs-length (x ∷ xs) in
      let b : filled (sum sizes) (flat (joined packs (x ∷ xs))) ≡ flat (joined packs (x ∷ xs) ++ fills (m - length (joined packs (x ∷ xs)))) =
      ap (λ (n : ℕ). filled n (flat (joined packs (x ∷ xs)))) whole ∙ packs-filled m (joined packs (x ∷ xs)) (omega arith) in
      let r = read-packs x xs (m - length (joined packs (x ∷ xs))) g few in
      subst (λ (ub : List ℕ). Read ub k (packets_of (x ∷ xs))) (sym b) (r.0, r.1 ∙ e)
  read-items k fs (x ∷ xs) g few false q e h =
      let l = string-room (x ∷ xs) in
      let r = read-long sizes fs x xs roomy (omega arith) g few in
      (r.0, r.1 ∙ e)

  packing-is : (k : ℕ) → is_packing k ≡ true → cond (eqb k 1) 1 2 ≡ k
  unfolding is_packing
  packing-is k e = go (eqb k 1) refl (eqb k 2) refl e
    where
      go : (a : Bool) → eqb k 1 ≡ a → (b : Bool) → eqb k 2 ≡ b → (a || b) ≡ true → cond a 1 2 ≡ k
      go true p b q e = sym (eqb-true k 1 p)
      go false p true q e = sym (eqb-true k 2 q)
      go false p false q e = never (cc)

  -- what a list gives by the rules is read as that list, and the packing named
  pub users-read : (k : ℕ) (ps : List Packet) (ub : List ℕ) → Gives y sizes k ps ub → Read ub k ps
  unfolding user_bytes capacity needed
  users-read k ps ub g =
      let h : needed k (packets_of g.items) ≤ capacity k sizes =
      leb-true (needed k (packets_of g.items)) (capacity k sizes)
      (subst (λ (qs : List Packet). fits k sizes qs ≡ true) (sym g.packets) g.room) in
      let few : length g.items ≤ limit = few-items g.items ps limit g.packets g.few in
      subst (λ (qs : List Packet). Read ub k qs) g.packets
      (subst (λ (us : List ℕ). Read us k (packets_of g.items)) (sym g.bytes)
      (read-items k g.spares g.items g.good few (eqb k 1) refl (packing-is k g.packing) h))

  -- ---- what is read was laid

  -- the bits of long packs, where none stands
  no-spares : Spares []
  no-spares = record { upper = λ k. omega arith; third = λ k. omega arith }

  fill_gives : (ub : List ℕ) → length ub ≡ sum sizes → all_is 0xFF ub ≡ true → Gives y sizes 1 [] ub
  unfolding is_packing user_bytes needed
  fill_gives ub l a =
      record {
        packing = refl;
        items = [];
        spares = [];
        packets = refl;
        good = none;
        fine = no-spares;
        few = omega arith;
        room = le-leb 0 (capacity 1 sizes) (omega arith);
        bytes = fill-all_is 0xFF ub a ∙ ap fill (l ∙ sym (sub-zero (sum sizes)));
      }

  packs-give : (ps : List Packet) (ub : List ℕ) → length ub ≡ sum sizes → Bytes ub → packets_in (pack_row y) limit 0 (fives ub) ≡ listed ps
      → Gives y sizes 1 ps ub
  unfolding is_packing user_bytes capacity needed packs_end
  packs-give ps ub l h e =
      let ff : flat (fives ub) ≡ ub = flat-fives m ub (l ∙ whole) in
      let w = packs-laid y limit 0 (fives ub) ps (subst Bytes (sym ff) h) e in
      let J = joined packs w.items in
      let u : ub ≡ flat J ++ flat w.tail = sym ff ∙ ap flat w.whole ∙ flat_append J w.tail in
      let lu : sum sizes ≡ length (flat J) + length (flat w.tail) = sym l ∙ ap length u ∙ length-append (flat J) (flat w.tail) in
      let lt : length (flat w.tail) ≡ sum sizes - length (flat J) = omega arith in
      let lj = flat-length J in
      let lp : length J ≡ sum (map packs_of ps) = packs-length w.items ∙ ap (λ (qs : List Packet). sum (map packs_of qs)) w.packets in
      record {
        packing = refl;
        items = w.items;
        spares = [];
        packets = w.packets;
        good = w.good;
        fine = no-spares;
        few = few-packets w.items ps limit w.packets w.few;
        room = le-leb (sum (map packs_of ps)) (sum sizes / 5) (omega arith);
        bytes = u ∙ ap (λ (t : List ℕ). flat J ++ t) (fill-all_is 0xFF (flat w.tail) w.ends ∙ ap fill lt);
      }

  long-gives : (ps : List Packet) (ub t : List ℕ) (room : ℕ) → length ub ≡ sum sizes → Bytes ub → open_long sizes ub ≡ opened t room
      → packets_in (string_row y room) limit 0 t ≡ listed ps → Gives y sizes 2 ps ub
  unfolding is_packing user_bytes capacity needed
  long-gives ps ub t room l h o e =
      let w = string-laid y room limit 0 t ps (long-bytes sizes ub t room roomy h o) e in
      let v = end-is-fill room w.tail w.ends in
      let z = long-laid sizes ub roomy l h t room o (string w.items) w.tail w.whole v.1 v.0 in
      let lp : length (string w.items) ≡ string_byte_count ps = string-room w.items ∙ ap string_byte_count w.packets in
      let lr = z.room in
      record {
        packing = refl;
        items = w.items;
        spares = z.spares;
        packets = w.packets;
        good = w.good;
        fine = z.fine;
        few = few-packets w.items ps limit w.packets w.few;
        room = le-leb (string_byte_count ps) (string_room sizes) (omega arith);
        bytes = z.whole;
      }

  module _ (ps : List Packet) (ub : List ℕ) (l : length ub ≡ sum sizes) (h : Bytes ub) where
    from-opened : (o : Opened) → open_long sizes ub ≡ o → packets_of_opened y o ≡ listed ps → (k : ℕ) × Gives y sizes k ps ub
    from-opened (opened t room) w e = (2, long-gives ps ub t room l h w e)
    from-opened shut w e = never (cc)

    from-cases : (a b c d f : Bool) → all_is 0xFF ub ≡ b
        → cond a (unless 13 b (listed []))
        (cond c (unless 13 d (packets_in (pack_row y) limit 0 (fives ub)))
        (cond f (packets_of_opened y (open_long sizes ub)) (refused 13 0))) ≡ listed ps
        → (k : ℕ) × Gives y sizes k ps ub
    from-cases true true c d f q e =
        let z : [] ≡ ps = cc in
        (1, subst (λ (qs : List Packet). Gives y sizes 1 qs ub) z (fill_gives ub l q))
    from-cases true false c d f q e = never (cc)
    from-cases false b true true f q e = (1, packs-give ps ub l h e)
    from-cases false b true false f q e = never (cc)
    from-cases false b false d true q e = from-opened (open_long sizes ub) refl e
    from-cases false b false d false q e = never (cc)

    -- what is read is what the list gives by the rules, in some packing
    pub users-laid : packets_of_user_bytes y sizes ub ≡ listed ps → (k : ℕ) × Gives y sizes k ps ub
    unfolding packets_of_user_bytes
    users-laid e =
        from-cases (eqb (first_byte ub) 0xFF) (all_is 0xFF ub) (eqb (first_byte ub) 0xE1) (in_order false (fives ub))
        (eqb (first_byte ub) 0xE3) refl e

  -- from one list only, and in one packing only unless the list is empty
  pub users-unique : (j k : ℕ) (ps qs : List Packet) (ub : List ℕ) → Gives y sizes j ps ub → Gives y sizes k qs ub
      → (ps ≡ qs) × ((ps ≡ []) ⊎ (j ≡ k))
  users-unique j k ps qs ub g w =
      let a = users-read j ps ub g in
      let b = users-read k qs ub w in
      let s : ps ≡ qs = let c = a.0 in let d = b.0 in cc in
      (s, packing ps (sym a.1 ∙ b.1 ∙ ap (named k) (sym s)))
    where
      packing : (ps : List Packet) → named j ps ≡ named k ps → (ps ≡ []) ⊎ (j ≡ k)
      packing [] t = inl refl
      packing (p ∷ ps) t = inr t

  -- ---- length, packs and room

  -- what fits, laid with any values of the free bits, is as many user bytes as the blocks hold
  pub users-length : (k : ℕ) (fs : List Spare) (xs : List Item) → fits k sizes (packets_of xs) ≡ true → length (user_bytes k sizes fs xs) ≡ sum sizes
  unfolding user_bytes capacity needed
  users-length k fs xs f = go (eqb k 1) f
    where
      go : (t : Bool)
          → leb (cond t (sum (map packs_of (packets_of xs))) (string_byte_count (packets_of xs))) (cond t (sum sizes / 5) (string_room sizes)) ≡ true
          → length (cond t (filled (sum sizes) (flat (joined packs xs))) (long_packs sizes fs (string xs))) ≡ sum sizes
      go true f =
          let a = flat-length (joined packs xs) in
          let b = packs-length xs in
          let c = leb-true (sum (map packs_of (packets_of xs))) (sum sizes / 5) f in
          let d = length-append (flat (joined packs xs)) (fill (sum sizes - length (flat (joined packs xs)))) in
          let e : length (fill (sum sizes - length (flat (joined packs xs)))) ≡ sum sizes - length (flat (joined packs xs)) =
          length-replicate (sum sizes - length (flat (joined packs xs))) 0xFF in
          omega arith
      go false f = long-length sizes fs (string xs) roomy

  -- the packs that stand in the bytes laid are as many as the count says
  pub users-counted : (k : ℕ) (fs : List Spare) (xs : List Item) → fits k sizes (packets_of xs) ≡ true
      → packs_in k sizes (user_bytes k sizes fs xs) ≡ packs_laid k sizes (packets_of xs)
  unfolding user_bytes capacity needed packs_in packs_laid
  users-counted k fs xs f = go (eqb k 1) f
    where
      go : (t : Bool)
          → leb (cond t (sum (map packs_of (packets_of xs))) (string_byte_count (packets_of xs))) (cond t (sum sizes / 5) (string_room sizes)) ≡ true
          → cond t (packs_in1 (fives (cond t (filled (sum sizes) (flat (joined packs xs))) (long_packs sizes fs (string xs)))))
          (packs_in2 sizes (cond t (filled (sum sizes) (flat (joined packs xs))) (long_packs sizes fs (string xs))))
          ≡ cond t (sum (map packs_of (packets_of xs))) (long_count sizes (string_byte_count (packets_of xs)))
      go true f =
          let b = packs-length xs in
          let c = leb-true (sum (map packs_of (packets_of xs))) (sum sizes / 5) f in
          rw (whole, packs-filled m (joined packs xs) (omega arith), fives-flat (joined packs xs ++ fills (m - length (joined packs xs))))
          (packs-counted xs (m - length (joined packs xs)))
      go false f = long-counted sizes fs (string xs) roomy ∙ ap (long_count sizes) (string-room xs)

  -- and under the frame's ceiling
  pub users-ceiling : (k : ℕ) (ps : List Packet) → fits k sizes ps ≡ true → packs_laid k sizes ps ≤ most_packs k sizes
  unfolding capacity needed packs_laid most_packs
  users-ceiling k ps f = go (eqb k 1) f
    where
      go : (t : Bool) → leb (cond t (sum (map packs_of ps)) (string_byte_count ps)) (cond t (sum sizes / 5) (string_room sizes)) ≡ true
          → cond t (sum (map packs_of ps)) (long_count sizes (string_byte_count ps)) ≤ cond t (sum sizes / 5) (length sizes)
      go true f = leb-true (sum (map packs_of ps)) (sum sizes / 5) f
      go false f = long-ceiling sizes (string_byte_count ps)

  -- what we lay is what the list gives by the rules
  pub written-gives : (k : ℕ) (ps : List Packet) → is_packing k ≡ true → All (Sound y) ps → length ps ≤ limit → fits k sizes ps ≡ true
      → Gives y sizes k ps (laid_bytes k sizes ps)
  written-gives k ps pk g few f =
      record {
        packing = pk;
        items = map written ps;
        spares = [];
        packets = written_back ps;
        good = all-good ps g;
        fine = no-spares;
        few = few;
        room = f;
        bytes = refl;
      }
    where
      good-one : (p : Packet) → Sound y p → Good y (written p)
      good-one p g = record { sound = g; bits = omega arith; third = omega arith; junk = omega arith; starter = omega arith }

      all-good : (ps : List Packet) → All (Sound y) ps → All (Good y) (map written ps)
      all-good [] g = none
      all-good (p ∷ ps) (one g gs) = one {x = written p} (good-one p g) (all-good ps gs)

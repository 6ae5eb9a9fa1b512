-- What an element says that has been judged and found right: from a list, which is no refusal, back to the facts of each field.
--
--   field-listed       a field: its bytes are there, it is right, and what comes after it is a list
--   Structure          the facts of a structure without fault
--   structures-listed  one structure and more: the first is without fault and shows the first packet, the others show the others
--   structures-none    no structure: no byte, no packet
--   structures-count   N structures show N packets
--   Head               the facts of key, length and N
--   judged-listed      the whole element
--   judged-number      a refusal is 19
--   other-coding       what one coding reads is 19 for the other
-- Assumes nothing.
use Prim.Native.Nat.{ℕ, zero, suc, ◌+◌, ◌≤◌}
use mathlib.Core.Path.{◌≡◌, refl, sym, ap, ap₂, ◌∙◌}
use mathlib.Core.Logic.{◌⊎◌, inl, inr}
use mathlib.Core.Bool.{Bool, true, false, cond, ◌&&◌, ◌||◌}
use mathlib.Core.List.{List, [], ◌∷◌}
use native.Mathlib.Omega.{arith}
use lib.Dec.{eqb, ltb, leb}
use lib.ListN.{length, get_or, take, drop}
use lib.Seq.{drop-cons}
use borrow.Author.Tests.{ltb-false, le-ltb, leb-true, eqb-true, eqb-false, ne_eqb, not-true}
use Rattle.rules.specs.Systems.{system}
use Rattle.rules.specs.Packet.{Packet}
use Rattle.rules.specs.Numbers.{Outcome, listed, refused, also}
use Rattle.rules.proofs.Basics.{never, both, either}
use Rattle.mxf.specs.Element.{key, wrapping, Coding, eight, ten}
use Rattle.mxf.specs.Judging.{two_in, three_in, four_in, field, in_frame, is_coding, others, is_count, array_for, size_in, dc_in, dc_bytes}
use Rattle.mxf.specs.Judging.{front_then, array_then, packet_in, structures, key_then, head_then, judged_as}

-- ---- a field

pub record Right (s : List ℕ) (i size : ℕ) (right : Bool) (o : Outcome) (ps : List Packet) : Type 0 where
  pub there : i + size ≤ length s
  pub holds : right ≡ true
  pub later : o ≡ listed ps

pub field-listed : (at : ℕ) (s : List ℕ) (i size : ℕ) (right : Bool) (o : Outcome) (ps : List Packet)
    → field at s i size right o ≡ listed ps → Right s i size right o ps
field-listed at s i size right o ps e = go (ltb (length s) (i + size)) right refl e
  where
    go : (a r : Bool) → ltb (length s) (i + size) ≡ a → cond a (refused 19 (at + length s)) (cond r o (refused 19 (at + i))) ≡ listed ps
        → Right s i size r o ps
    go true r h e = never (cc)
    go false true h e = record { there = ltb-false (length s) (i + size) h; holds = refl; later = e }
    go false false h e = never (cc)

-- ---- a structure

pub record Front (c : Coding) (sys : ℕ) (s : List ℕ) (o : Outcome) (ps : List Packet) : Type 0 where
  pub lined : two_in s 0 ≡ 0 → ⊥
  pub wrapped : get_or s 2 0 ≡ wrapping sys
  pub coded : is_coding c (get_or s 3 0) ≡ true
  pub later : o ≡ listed ps

pub front-listed : (c : Coding) (sys at : ℕ) (s : List ℕ) (o : Outcome) (ps : List Packet) → front_then c sys at s o ≡ listed ps → Front c sys s o ps
unfolding front_then
front-listed c sys at s o ps e =
    let a = field-listed at s 0 2 _ _ ps e in
    let b = field-listed at s 2 1 _ _ ps a.later in
    let k = field-listed at s 3 1 _ _ ps b.later in
    let l = both _ _ a.holds in
    record {
      lined = eqb-false (two_in s 0) 0 (not-true (eqb (two_in s 0) 0) l.0);
      wrapped = eqb-true (get_or s 2 0) (wrapping sys) b.holds;
      coded = k.holds;
      later = k.later;
    }

pub record Array (c : Coding) (s : List ℕ) (o : Outcome) (ps : List Packet) : Type 0 where
  pub least : others c ≤ two_in s 4
  pub most : two_in s 4 ≤ others c + 255
  pub enough : array_for c (two_in s 4) ≤ four_in s 6
  pub inside : size_in s ≤ length s
  pub single : four_in s 10 ≡ 1
  pub dc : dc_in c s + others c ≡ two_in s 4
  pub later : o ≡ listed ps

pub array-listed : (c : Coding) (at : ℕ) (s : List ℕ) (o : Outcome) (ps : List Packet) → array_then c at s o ≡ listed ps → Array c s o ps
unfolding array_then
array-listed c at s o ps e =
    let a = field-listed at s 4 2 _ _ ps e in
    let b = field-listed at s 6 4 _ _ ps a.later in
    let f = field-listed at s 10 4 _ _ ps b.later in
    let d = field-listed at s 16 (dc_bytes c) _ _ ps f.later in
    let m = both _ _ a.holds in
    let n = both _ _ b.holds in
    record {
      least = leb-true (others c) (two_in s 4) m.0;
      most = leb-true (two_in s 4) (others c + 255) m.1;
      enough = leb-true (array_for c (two_in s 4)) (four_in s 6) n.0;
      inside = leb-true (size_in s) (length s) n.1;
      single = eqb-true (four_in s 10) 1 f.holds;
      dc = eqb-true (dc_in c s + others c) (two_in s 4) d.holds;
      later = d.later;
    }

-- ---- the structures

pub record Structure (c : Coding) (sys : ℕ) (s : List ℕ) : Type 0 where
  pub lined : two_in s 0 ≡ 0 → ⊥
  pub wrapped : get_or s 2 0 ≡ wrapping sys
  pub coded : is_coding c (get_or s 3 0) ≡ true
  pub least : others c ≤ two_in s 4
  pub most : two_in s 4 ≤ others c + 255
  pub enough : array_for c (two_in s 4) ≤ four_in s 6
  pub inside : size_in s ≤ length s
  pub single : four_in s 10 ≡ 1
  pub dc : dc_in c s + others c ≡ two_in s 4

pub record More (c : Coding) (sys : ℕ) (fi : Bool) (n at : ℕ) (s : List ℕ) (ps : List Packet) : Type 0 where
  pub structure : Structure c sys s
  pub rest : List Packet
  pub front : ps ≡ packet_in c sys fi s ∷ rest
  pub later : structures c sys fi n (at + size_in s) (drop (size_in s) s) ≡ listed rest

pub structures-listed : (c : Coding) (sys : ℕ) (fi : Bool) (n at : ℕ) (s : List ℕ) (ps : List Packet) → structures c sys fi (suc n) at s ≡ listed ps
    → More c sys fi n at s ps
structures-listed c sys fi n at s ps e =
    let a = front-listed c sys at s _ ps e in
    let b = array-listed c at s _ ps a.later in
    go (structures c sys fi n (at + size_in s) (drop (size_in s) s)) refl b.later
    (record {
      lined = a.lined;
      wrapped = a.wrapped;
      coded = a.coded;
      least = b.least;
      most = b.most;
      enough = b.enough;
      inside = b.inside;
      single = b.single;
      dc = b.dc;
    })
  where
    go : (o : Outcome) → structures c sys fi n (at + size_in s) (drop (size_in s) s) ≡ o → also (packet_in c sys fi s) o ≡ listed ps
        → Structure c sys s → More c sys fi n at s ps
    go (listed qs) q e t = record { structure = t; rest = qs; front = (let z : packet_in c sys fi s ∷ qs ≡ ps = cc in sym z); later = q }
    go (refused m i) q e t = never (cc)

pub structures-none : (c : Coding) (sys : ℕ) (fi : Bool) (at : ℕ) (s : List ℕ) (ps : List Packet) → structures c sys fi zero at s ≡ listed ps
    → (s ≡ []) × (ps ≡ [])
structures-none c sys fi at [] ps e = (refl, cc)
structures-none c sys fi at (b ∷ s) ps e = never (cc)

pub structures-count : (c : Coding) (sys : ℕ) (fi : Bool) (n at : ℕ) (s : List ℕ) (ps : List Packet) → structures c sys fi n at s ≡ listed ps
    → length ps ≡ n
structures-count c sys fi zero at s ps e = ap length (structures-none c sys fi at s ps e).1
structures-count c sys fi (suc n) at s ps e =
    let m = structures-listed c sys fi n at s ps e in
    ap length m.front ∙ ap suc (structures-count c sys fi n (at + size_in s) (drop (size_in s) s) m.rest m.later)

-- ---- key, length and N

pub record Keyed (i : ℕ) (ks e : List ℕ) (o : Outcome) (ps : List Packet) : Type 0 where
  pub key : take (length ks) (drop i e) ≡ ks
  pub later : o ≡ listed ps

pub key-listed : (i : ℕ) (ks e : List ℕ) (o : Outcome) (ps : List Packet) → key_then i ks e o ≡ listed ps → Keyed i ks e o ps
key-listed i [] e o ps h = record { key = refl; later = h }
key-listed i (k ∷ ks) e o ps h =
    let a = field-listed 0 e i 1 _ _ ps h in
    let b = key-listed (suc i) ks e o ps a.later in
    let l = a.there in
    let c : drop i e ≡ get_or e i 0 ∷ drop (suc i) e = drop-cons e i 0 (omega arith) in
    record {
      key = ap (take (length (k ∷ ks))) c ∙ ap₂ (λ (x : ℕ) (r : List ℕ). x ∷ r) (eqb-true (get_or e i 0) k a.holds) b.key;
      later = b.later;
    }

pub record Head (e : List ℕ) : Type 0 where
  pub keyed : take 16 e ≡ key
  pub long_form : get_or e 16 0 ≡ 0x83
  pub measured : 20 + three_in e 17 ≡ length e
  pub counted : 22 ≤ length e

pub record Element (c : Coding) (sys : ℕ) (fi : Bool) (e : List ℕ) (ps : List Packet) : Type 0 where
  pub head : Head e
  pub later : structures c sys fi (two_in e 20) 22 (drop 22 e) ≡ listed ps

pub judged-listed : (c : Coding) (sys : ℕ) (fi : Bool) (e : List ℕ) (ps : List Packet) → judged_as c sys fi e ≡ listed ps → Element c sys fi e ps
unfolding judged_as head_then key
judged-listed c sys fi e ps h =
    let k = key-listed 0 key e _ ps h in
    let a = field-listed 0 e 16 1 _ _ ps k.later in
    let b = field-listed 0 e 17 3 _ _ ps a.later in
    let d = field-listed 0 e 20 2 true _ ps b.later in
    record {
      head = record {
        keyed = k.key;
        long_form = eqb-true (get_or e 16 0) 0x83 a.holds;
        measured = eqb-true (20 + three_in e 17) (length e) b.holds;
        counted = d.there;
      };
      later = d.later;
    }

-- ---- a refusal is 19

record Nineteen (o : Outcome) : Type 0 where
  is : (n i : ℕ) → o ≡ refused n i → n ≡ 19

refused-number : (at : ℕ) → Nineteen (refused 19 at)
refused-number at = record { is = λ n i e. cc }

listed-number : (ps : List Packet) → Nineteen (listed ps)
listed-number ps = record { is = λ n i e. never (cc) }

field-number : (at : ℕ) (s : List ℕ) (i size : ℕ) (right : Bool) (o : Outcome) → Nineteen o → Nineteen (field at s i size right o)
field-number at s i size right o h = go (ltb (length s) (i + size)) right
  where
    go : (a r : Bool) → Nineteen (cond a (refused 19 (at + length s)) (cond r o (refused 19 (at + i))))
    go true r = refused-number (at + length s)
    go false true = h
    go false false = refused-number (at + i)

also-number : (p : Packet) (o : Outcome) → Nineteen o → Nineteen (also p o)
also-number p (listed ps) h = listed-number (p ∷ ps)
also-number p (refused n i) h = h

structures-number : (c : Coding) (sys : ℕ) (fi : Bool) (n at : ℕ) (s : List ℕ) → Nineteen (structures c sys fi n at s)
unfolding front_then array_then
structures-number c sys fi zero at [] = listed-number []
structures-number c sys fi zero at (b ∷ s) = refused-number at
structures-number c sys fi (suc n) at s =
    field-number at s 0 2 (in_frame (system sys) (two_in s 0)) _
    (field-number at s 2 1 (eqb (get_or s 2 0) (wrapping sys)) _
    (field-number at s 3 1 (is_coding c (get_or s 3 0)) _
    (field-number at s 4 2 (is_count c (two_in s 4)) _
    (field-number at s 6 4 (leb (array_for c (two_in s 4)) (four_in s 6) && leb (size_in s) (length s)) _
    (field-number at s 10 4 (eqb (four_in s 10) 1) _
    (field-number at s 16 (dc_bytes c) (eqb (dc_in c s + others c) (two_in s 4)) _
    (also-number (packet_in c sys fi s) _ (structures-number c sys fi n (at + size_in s) (drop (size_in s) s)))))))))

key-number : (i : ℕ) (ks e : List ℕ) (o : Outcome) → Nineteen o → Nineteen (key_then i ks e o)
key-number i [] e o h = h
key-number i (k ∷ ks) e o h = field-number 0 e i 1 (eqb (get_or e i 0) k) _ (key-number (suc i) ks e o h)

pub judged-number : (c : Coding) (sys : ℕ) (fi : Bool) (e : List ℕ) (n i : ℕ) → judged_as c sys fi e ≡ refused n i → n ≡ 19
unfolding judged_as head_then
judged-number c sys fi e =
    (key-number 0 key e _
    (field-number 0 e 16 1 (eqb (get_or e 16 0) 0x83) _
    (field-number 0 e 17 3 (eqb (20 + three_in e 17) (length e)) _
    (field-number 0 e 20 2 true _ (structures-number c sys fi (two_in e 20) 22 (drop 22 e)))))
    ).is

-- ---- one coding is not the other

-- a field that has passed is right, whatever follows it
field-passes : (at : ℕ) (s : List ℕ) (i size : ℕ) (right : Bool) (o : Outcome) (ps : List Packet) → field at s i size right o ≡ listed ps
    → (q : Outcome) → field at s i size right q ≡ q
field-passes at s i size right o ps e q =
    let r = field-listed at s i size right o ps e in
    rw (le-ltb (length s) (i + size) r.there, r.holds)

key-passes : (i : ℕ) (ks e : List ℕ) (o : Outcome) (ps : List Packet) → key_then i ks e o ≡ listed ps → (q : Outcome) → key_then i ks e q ≡ q
key-passes i [] e o ps h q = refl
key-passes i (k ∷ ks) e o ps h q =
    let right : Bool = eqb (get_or e i 0) k in
    field-passes 0 e i 1 right (key_then (suc i) ks e o) ps h (key_then (suc i) ks e q)
    ∙ key-passes (suc i) ks e o ps (field-listed 0 e i 1 right (key_then (suc i) ks e o) ps h).later q

head-passes : (e : List ℕ) (o : Outcome) (ps : List Packet) → head_then e o ≡ listed ps → (q : Outcome) → head_then e q ≡ q
unfolding head_then
head-passes e o ps h q =
    let form : Bool = eqb (get_or e 16 0) 0x83 in
    let measure : Bool = eqb (20 + three_in e 17) (length e) in
    let a = key-listed 0 key e _ ps h in
    let b = field-listed 0 e 16 1 form _ ps a.later in
    let c = field-listed 0 e 17 3 measure _ ps b.later in
    let count : Outcome = field 0 e 20 2 true q in
    key-passes 0 key e _ ps h (field 0 e 16 1 form (field 0 e 17 3 measure count))
    ∙ field-passes 0 e 16 1 form _ ps a.later (field 0 e 17 3 measure count)
    ∙ field-passes 0 e 17 3 measure _ ps b.later count
    ∙ field-passes 0 e 20 2 true _ ps c.later q

abbrev pub other : Coding → Coding
other eight = ten
other ten = eight

codings-differ : (c : Coding) (n : ℕ) → is_coding c n ≡ true → is_coding (other c) n ≡ false
codings-differ eight n e = go (either (eqb n 4) (eqb n 5) e)
  where
    go : (eqb n 4 ≡ true) ⊎ (eqb n 5 ≡ true) → (eqb n 7 || eqb n 8) ≡ false
    go (inl h) = let z = eqb-true n 4 h in rw (ne_eqb n 7 (λ w. omega arith), ne_eqb n 8 (λ w. omega arith))
    go (inr h) = let z = eqb-true n 5 h in rw (ne_eqb n 7 (λ w. omega arith), ne_eqb n 8 (λ w. omega arith))
codings-differ ten n e = go (either (eqb n 7) (eqb n 8) e)
  where
    go : (eqb n 7 ≡ true) ⊎ (eqb n 8 ≡ true) → (eqb n 4 || eqb n 5) ≡ false
    go (inl h) = let z = eqb-true n 7 h in rw (ne_eqb n 4 (λ w. omega arith), ne_eqb n 5 (λ w. omega arith))
    go (inr h) = let z = eqb-true n 8 h in rw (ne_eqb n 4 (λ w. omega arith), ne_eqb n 5 (λ w. omega arith))

front-differs : (c : Coding) (sys at : ℕ) (s : List ℕ) (o : Outcome) (ps : List Packet) → front_then c sys at s o ≡ listed ps
    → (q : Outcome) → front_then (other c) sys at s q ≡ refused 19 (at + 3)
unfolding front_then
front-differs c sys at s o ps e q =
    let line : Bool = in_frame (system sys) (two_in s 0) in
    let wraps : Bool = eqb (get_or s 2 0) (wrapping sys) in
    let a = field-listed at s 0 2 line _ ps e in
    let b = field-listed at s 2 1 wraps _ ps a.later in
    let k = field-listed at s 3 1 (is_coding c (get_or s 3 0)) o ps b.later in
    let coded : Outcome = field at s 3 1 (is_coding (other c) (get_or s 3 0)) q in
    let refuses : coded ≡ refused 19 (at + 3) = rw (le-ltb (length s) 4 k.there, codings-differ c (get_or s 3 0) k.holds) in
    field-passes at s 0 2 line _ ps e (field at s 2 1 wraps coded) ∙ field-passes at s 2 1 wraps _ ps a.later coded ∙ refuses

-- an element with a packet is refused by the other coding, at its first coding byte
pub other-coding : (c : Coding) (sys : ℕ) (fi : Bool) (e : List ℕ) (p : Packet) (ps : List Packet) → judged_as c sys fi e ≡ listed (p ∷ ps)
    → judged_as (other c) sys fi e ≡ refused 19 25
unfolding judged_as
other-coding c sys fi e p ps h =
    head-passes e _ (p ∷ ps) h _ ∙ go (two_in e 20) (judged-listed c sys fi e (p ∷ ps) h).later
  where
    go : (n : ℕ) → structures c sys fi n 22 (drop 22 e) ≡ listed (p ∷ ps) → structures (other c) sys fi n 22 (drop 22 e) ≡ refused 19 25
    go zero z = never (let w = (structures-none c sys fi 22 (drop 22 e) (p ∷ ps) z).1 in cc)
    go (suc n) z = front-differs c sys 22 (drop 22 e) _ (p ∷ ps) z _

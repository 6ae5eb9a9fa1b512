-- Reading packet after packet, once for every carrier: the words of a sheet, a string, packs of 5. What each carrier shows of one
-- packet gives here the same of a whole row.
--
-- In order: what is laid is read (`row_read`), and a packet too many is 5 (`row-over-read`); what is read was laid (`row_laid`), and 5 is a
-- packet too many (`row-over-laid`); a refusal has a number (`row-refused`); how many packets there may be does not matter once they are
-- enough (`row-enough`), and then 5 is never given (`row-fault`); there are no more packets than there may be (`row-few`), nor a refusal
-- past them (`row-place`).
-- Assumes nothing.
use Prim.Native.Nat.{ℕ, zero, suc, ◌+◌, ◌≤◌, ◌<◌, suc-le-suc}
use mathlib.Core.Path.{◌≡◌, refl, sym, ap, ap₂, ◌∙◌, subst}
use mathlib.Core.Bool.{Bool, true, false, cond}
use mathlib.Core.List.{List, [], ◌∷◌, ◌++◌, map, append_assoc}
use native.Mathlib.Nat.{le_of_suc-le-suc, not-suc-le-zero}
use native.Mathlib.Omega.{arith}
use lib.Dec.{eqb}
use lib.ListN.{length}
use borrow.Author.Tests.{eqb-true, eqb-false}
use Rattle.rules.specs.Base.{joined, All, none, one}
use Rattle.rules.specs.Packet.{Packet}
use Rattle.rules.specs.Numbers.{Outcome, listed, refused, also, Row, packets_in}
use Rattle.rules.proofs.Basics.{never}

-- what may follow an item of a row of numbers, where it does not matter
abbrev pub Anything : List ℕ → Type 0
Anything s = Unit {0}

-- items of a row: what each gives, and the packet that it stands for
module _ {A X : Type 0} (row : Row A) (gives : X → List A) (view : X → Packet) (Good : X → Type 0) where
  -- a good item at the front, before what may follow one (`Follows`), is no end, has no fault, and is cut off whole
  pub record Cut (Follows : List A → Type 0) : Type 0 where
    pub follows : (x : X) (r : List A) → Good x → Follows (gives x ++ r)
    pub goes : (x : X) (r : List A) → Good x → row.ends (gives x ++ r) ≡ false
    pub fault : (x : X) (r : List A) → Good x → Follows r → row.fault (gives x ++ r) ≡ 0
    pub packet : (x : X) (r : List A) → Good x → Follows r → row.packet (gives x ++ r) ≡ view x
    pub rest : (x : X) (r : List A) → Good x → Follows r → row.rest (gives x ++ r) ≡ r

  module _ (Follows : List A → Type 0) (c : Cut Follows) (tail : List A) (last : Follows tail) where
    all-follow : (xs : List X) → All Good xs → Follows (joined gives xs ++ tail)
    all-follow [] g = last
    all-follow (x ∷ xs) (one g gs) = rw append_assoc (c.follows x _ g)

    -- the packet of the first item is read, and then those of the others
    first_read : (x : X) (xs : List X) (left i : ℕ) → Good x → All Good xs
        → packets_in row (suc left) i (joined gives (x ∷ xs) ++ tail) ≡ also (view x) (packets_in row left (suc i) (joined gives xs ++ tail))
    first_read x xs left i g gs =
        let r : List A = joined gives xs ++ tail in
        let f : Follows r = all-follow xs gs in
        rw (
          append_assoc (gives x) (joined gives xs) tail,
          c.goes x r g,
          c.fault x r g f,
          c.packet x r g f,
          c.rest x r g f,
        )

    -- what is laid is read
    pub row_read : row.ends tail ≡ true → (xs : List X) (left i : ℕ) → All Good xs → length xs ≤ left
        → packets_in row left i (joined gives xs ++ tail) ≡ listed (map view xs)
    row_read ends [] zero i g h = rw ends
    row_read ends [] (suc left) i g h = rw ends
    row_read ends (x ∷ xs) zero i g h = absurd (not-suc-le-zero h)
    row_read ends (x ∷ xs) (suc left) i (one g gs) h =
        first_read x xs left i g gs ∙ ap (also (view x)) (row_read ends xs left (suc i) gs (le_of_suc-le-suc h))

    -- behind as many items as there may be, what is no end is 5
    pub row-over-read : row.ends tail ≡ false → (xs : List X) (i : ℕ) → All Good xs
        → packets_in row (length xs) i (joined gives xs ++ tail) ≡ refused 5 (i + length xs)
    row-over-read goes [] i g = let e : i ≡ i + 0 = omega arith in rw goes (ap (refused 5) e)
    row-over-read goes (x ∷ xs) i (one g gs) =
        let e : suc i + length xs ≡ i + suc (length xs) = omega arith in
        first_read x xs (length xs) i g gs ∙ ap (also (view x)) (row-over-read goes xs (suc i) gs) ∙ ap (refused 5) e

  -- the row s is items of the packets ps, and then its end or, where `end` is false, what is no end
  pub record Front (end : Bool) (s : List A) (ps : List Packet) (left : ℕ) : Type 0 where
    pub items : List X
    pub tail : List A
    pub packets : map view items ≡ ps
    pub whole : s ≡ joined gives items ++ tail
    pub good : All Good items
    pub ends : row.ends tail ≡ end
    pub few : length items ≤ left

  -- items and then the end
  abbrev pub Laid : List A → List Packet → ℕ → Type 0
  Laid s ps left = Front true s ps left

  -- as many items as there may be, the first of them number i, and then no end; k is the number of the packet that would be next
  abbrev pub Over : List A → ℕ → ℕ → ℕ → Type 0
  Over s left i k = (ps : List Packet) × (l : Front false s ps left) × (length l.items ≡ left) × (k ≡ i + left)

  -- a front without a fault is that of a good item
  abbrev pub Uncut : (List A → Type 0) → Type 0
  Uncut Fine = (s : List A) → Fine s → row.fault s ≡ 0 → (x : X) × (view x ≡ row.packet s) × (s ≡ gives x ++ row.rest s) × Good x

  module _ (Fine : List A → Type 0) (later : (x : X) (r : List A) → Fine (gives x ++ r) → Fine r) (u : Uncut Fine) where
    -- no item, and all is the tail
    no_item : (end : Bool) (s : List A) (left : ℕ) → row.ends s ≡ end → Front end s [] left
    no_item end s left d = record { items = []; tail = s; packets = refl; whole = refl; good = none; ends = d; few = omega arith }

    -- one item more in front
    more : (s : List A) → Fine s → row.fault s ≡ 0 → (end : Bool) (ps : List Packet) (left : ℕ) → Front end (row.rest s) ps left
        → Front end s (row.packet s ∷ ps) (suc left)
    more s f z end ps left l =
        let w = u s f z in
        let x : X = w.0 in
        record {
          items = x ∷ l.items;
          tail = l.tail;
          packets = ap₂ (λ (q : Packet) (t : List Packet). q ∷ t) w.1 l.packets;
          whole = w.2 ∙ ap (λ (t : List A). gives x ++ t) l.whole ∙ sym (append_assoc (gives x) (joined gives l.items) l.tail);
          good = one w.3 l.good;
          ends = l.ends;
          few = suc-le-suc l.few;
        }

    -- what an outcome says of the row that it is read from: a list was laid, and a refusal whose number is no fault's is a packet too many
    abbrev Says : List A → ℕ → ℕ → Outcome → Type 0
    Says s left i (listed ps) = Laid s ps left
    Says s left i (refused n k) = ((t : List A) → row.fault t ≡ n → ⊥) → Over s left i k

    -- the packet in front added, an outcome says it of one item more
    says-more : (s : List A) → Fine s → row.fault s ≡ 0 → (left i : ℕ) (o : Outcome) → Says (row.rest s) left (suc i) o
        → Says s (suc left) i (also (row.packet s) o)
    unfolding more
    says-more s f z left i (listed ps) l = more s f z true ps left l
    says-more s f z left i (refused n k) v = λ h.
        let w = v h in
        let e : k ≡ suc i + left = w.3 in
        (row.packet s ∷ w.0, more s f z false w.0 left w.1, ap suc w.2, omega arith)

    -- a packet, and what the outcome of the others says of them
    says-turn : (s : List A) (left i : ℕ) → Fine s → (o : Outcome) → (Fine (row.rest s) → Says (row.rest s) left (suc i) o)
        → (d : Bool) → row.ends s ≡ d → (z : Bool) → eqb (row.fault s) 0 ≡ z
        → Says s (suc left) i (cond d (listed []) (cond z (also (row.packet s) o) (refused (row.fault s) i)))
    says-turn s left i f o ih true d z q = no_item true s (suc left) d
    says-turn s left i f o ih false d false q = λ h. absurd (h s refl)
    says-turn s left i f o ih false d true q =
        let z = eqb-true (row.fault s) 0 q in
        let w = u s f z in
        says-more s f z left i o (ih (later w.0 (row.rest s) (subst Fine w.2 f)))

    -- what the outcome of a row says of it
    row-says : (left i : ℕ) (s : List A) → Fine s → Says s left i (packets_in row left i s)
    unfolding no_item
    row-says zero i s f = go (row.ends s) refl
      where
        go : (d : Bool) → row.ends s ≡ d → Says s zero i (cond d (listed []) (refused 5 i))
        go true d = no_item true s zero d
        go false d = λ h. ([], no_item false s zero d, refl, omega arith)
    row-says (suc left) i s f =
        says-turn s left i f (packets_in row left (suc i) (row.rest s)) (row-says left (suc i) (row.rest s))
        (row.ends s) refl (eqb (row.fault s) 0) refl

    -- what is read was laid
    pub row_laid : (left i : ℕ) (s : List A) (ps : List Packet) → Fine s → packets_in row left i s ≡ listed ps → Laid s ps left
    row_laid left i s ps f e = subst (Says s left i) e (row-says left i s f)

    -- where a refusal's number is no fault's, there are as many items as there may be, and no end behind them
    pub row-over-laid : (left i : ℕ) (s : List A) (n k : ℕ) → Fine s → ((t : List A) → row.fault t ≡ n → ⊥) → packets_in row left i s ≡ refused n k
        → Over s left i k
    row-over-laid left i s n k f h e = subst (Says s left i) e (row-says left i s f) h

-- a refusal's number is not 0
module _ {A : Type 0} (row : Row A) where
  also-refused : (p : Packet) (o : Outcome) (n k : ℕ) → also p o ≡ refused n k → o ≡ refused n k
  also-refused p (listed ps) n k e = never (cc)
  also-refused p (refused m j) n k e = e

  end-number : (i n k : ℕ) (d : Bool) → cond d (listed []) (refused 5 i) ≡ refused n k → 1 ≤ n
  end-number i n k true e = never (cc)
  end-number i n k false e = let z : 5 ≡ n = cc in omega arith

  turn-number : (s : List A) (i n k : ℕ) (o : Outcome) → (o ≡ refused n k → 1 ≤ n) → (d z : Bool) → eqb (row.fault s) 0 ≡ z
      → cond d (listed []) (cond z (also (row.packet s) o) (refused (row.fault s) i)) ≡ refused n k → 1 ≤ n
  turn-number s i n k o ih true z q e = never (cc)
  turn-number s i n k o ih false true q e = ih (also-refused (row.packet s) o n k e)
  turn-number s i n k o ih false false q e =
      let h = eqb-false (row.fault s) 0 q in
      let w : row.fault s ≡ n = cc in
      positive n (λ z. h (w ∙ z))
    where
      positive : (m : ℕ) → (m ≡ 0 → ⊥) → 1 ≤ m
      positive m h = omega arith

  pub row-refused : (left i : ℕ) (s : List A) (n k : ℕ) → packets_in row left i s ≡ refused n k → 1 ≤ n
  row-refused zero i s n k e = end-number i n k (row.ends s) e
  row-refused (suc left) i s n k e =
      turn-number s i n k (packets_in row left (suc i) (row.rest s)) (λ q. row-refused left (suc i) (row.rest s) n k q)
      (row.ends s) (eqb (row.fault s) 0) refl e

  -- where a packet is never empty and nothing is an end, as many packets as elements are enough
  module _ (nothing : row.ends [] ≡ true) (shrinks : (s : List A) → row.fault s ≡ 0 → length (row.rest s) < length s) where
    at-nothing : (left i : ℕ) (s : List A) → length s ≤ 0 → packets_in row left i s ≡ listed []
    at-nothing zero i [] h = rw nothing
    at-nothing (suc left) i [] h = rw nothing
    at-nothing left i (x ∷ s) h = absurd (omega arith)

    turn-enough : (s : List A) (i : ℕ) (o p : Outcome) → (row.fault s ≡ 0 → o ≡ p) → (d z : Bool) → eqb (row.fault s) 0 ≡ z
        → cond d (listed []) (cond z (also (row.packet s) o) (refused (row.fault s) i))
        ≡ cond d (listed []) (cond z (also (row.packet s) p) (refused (row.fault s) i))
    turn-enough s i o p ih true z q = refl
    turn-enough s i o p ih false false q = refl
    turn-enough s i o p ih false true q = ap (also (row.packet s)) (ih (eqb-true (row.fault s) 0 q))

    -- how many packets there may be does not matter
    pub row-enough : (f g i : ℕ) (s : List A) → length s ≤ f → length s ≤ g → packets_in row f i s ≡ packets_in row g i s
    row-enough zero g i s h k = at-nothing zero i s h ∙ sym (at-nothing g i s h)
    row-enough (suc f) zero i s h k = at-nothing (suc f) i s k ∙ sym (at-nothing zero i s k)
    row-enough (suc f) (suc g) i s h k =
        turn-enough s i (packets_in row f (suc i) (row.rest s)) (packets_in row g (suc i) (row.rest s))
        (λ q. let l = shrinks s q in row-enough f g (suc i) (row.rest s) (omega arith) (omega arith))
        (row.ends s) (eqb (row.fault s) 0) refl

    turn-fault : (P : ℕ → Type 0) → ((s : List A) → (row.fault s ≡ 0 → ⊥) → P (row.fault s)) → (s : List A) (i n k : ℕ) (o : Outcome)
        → (row.fault s ≡ 0 → o ≡ refused n k → P n) → (d z : Bool) → eqb (row.fault s) 0 ≡ z
        → cond d (listed []) (cond z (also (row.packet s) o) (refused (row.fault s) i)) ≡ refused n k → P n
    turn-fault P h s i n k o ih true z q e = never (cc)
    turn-fault P h s i n k o ih false false q e = subst P (let w : row.fault s ≡ n = cc in w) (h s (eqb-false (row.fault s) 0 q))
    turn-fault P h s i n k o ih false true q e = ih (eqb-true (row.fault s) 0 q) (also-refused (row.packet s) o n k e)

    -- a refusal is a packet's fault, and never 5
    pub row-fault : (P : ℕ → Type 0) → ((s : List A) → (row.fault s ≡ 0 → ⊥) → P (row.fault s)) → (left i : ℕ) (s : List A) (n k : ℕ)
        → length s ≤ left → packets_in row left i s ≡ refused n k → P n
    row-fault P h zero i s n k l e = never (let z : listed [] ≡ refused n k = sym (at-nothing zero i s l) ∙ e in cc)
    row-fault P h (suc left) i s n k l e =
        turn-fault P h s i n k (packets_in row left (suc i) (row.rest s))
        (λ q. let m = shrinks s q in row-fault P h left (suc i) (row.rest s) n k (omega arith))
        (row.ends s) (eqb (row.fault s) 0) refl e

-- the limit of a row
module _ {A : Type 0} (row : Row A) where
  -- no more packets than there may be
  pub row-few : (left i : ℕ) (s : List A) (ps : List Packet) → packets_in row left i s ≡ listed ps → length ps ≤ left
  row-few zero i s ps e = go (row.ends s) e
    where
      go : (d : Bool) → cond d (listed []) (refused 5 i) ≡ listed ps → length ps ≤ 0
      go true e = let z : [] ≡ ps = cc in let l : 0 ≡ length ps = ap length z in omega arith
      go false e = never (cc)
  row-few (suc left) i s ps e =
      go (row.ends s) (eqb (row.fault s) 0) (packets_in row left (suc i) (row.rest s)) (row-few left (suc i) (row.rest s)) e
    where
      none_left : [] ≡ ps → length ps ≤ suc left
      none_left z = let l : 0 ≡ length ps = ap length z in omega arith

      go : (d f : Bool) (o : Outcome) → ((qs : List Packet) → o ≡ listed qs → length qs ≤ left)
          → cond d (listed []) (cond f (also (row.packet s) o) (refused (row.fault s) i)) ≡ listed ps → length ps ≤ suc left
      go true f o later e = none_left (cc)
      go false true (refused n j) later e = never (cc)
      go false true (listed qs) later e =
          let z : row.packet s ∷ qs ≡ ps = cc in
          let l : suc (length qs) ≡ length ps = ap length z in
          let k = later qs refl in
          omega arith
      go false false o later e = never (cc)

  -- nor a refusal past them
  pub row-place : (left i : ℕ) (s : List A) (n k : ℕ) → packets_in row left i s ≡ refused n k → k ≤ i + left
  row-place zero i s n k e = go (row.ends s) e
    where
      go : (d : Bool) → cond d (listed []) (refused 5 i) ≡ refused n k → k ≤ i + 0
      go true e = never (cc)
      go false e = let z : i ≡ k = cc in omega arith
  row-place (suc left) i s n k e =
      go (row.ends s) (eqb (row.fault s) 0) (packets_in row left (suc i) (row.rest s)) (row-place left (suc i) (row.rest s)) e
    where
      go : (d f : Bool) (o : Outcome) → ((m j : ℕ) → o ≡ refused m j → j ≤ suc i + left)
          → cond d (listed []) (cond f (also (row.packet s) o) (refused (row.fault s) i)) ≡ refused n k → k ≤ i + suc left
      go true f o later e = never (cc)
      go false true (refused m j) later e = let l = later n k e in omega arith
      go false true (listed qs) later e = never (cc)
      go false false o later e = let z : i ≡ k = cc in omega arith

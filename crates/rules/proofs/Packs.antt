-- Packs of 5 are read as they were laid, and what is read was laid so, for some values of the bits that a reader disregards.
--
-- In order: packs and bytes; carriers in front; a packet's packs, both ways; of a row: `packs-read`, `packs-laid`, `packs-unique`;
-- their order (13); how many they are and the room they take: `packs-room`, `packs-least`, `packs-over`, `packs-counted`.
-- Assumes nothing.
use Prim.Native.Nat.{ℕ, zero, suc, ◌+◌, ◌-◌, ◌*◌, ◌/◌, ◌%◌, ◌≤◌, ◌<◌}
use mathlib.Core.Path.{◌≡◌, refl, sym, ap, ap₂, ◌∙◌, subst}
use mathlib.Core.Logic.{◌↔◌}
use mathlib.Core.Bool.{Bool, true, false, cond, ◌&&◌}
use mathlib.Core.List.{List, [], ◌∷◌, ◌++◌, map, append_assoc}
use native.Mathlib.Omega.{arith}
use native.Mathlib.Numerals.{one-add}
use lib.Dec.{eqb}
use lib.ListN.{length, get_or, take, drop, replicate, length-append, length-map, length-replicate, take-append-drop}
use lib.Seq.{take_at, drop_at}
use borrow.Author.Tests.{eqb-true, eq-eqb}
use Rattle.rules.specs.Base.{all_is, sum, joined, All, Bytes}
use Rattle.rules.specs.Systems.{System}
use Rattle.rules.specs.Packet.{Packet, check_of}
use Rattle.rules.specs.Danc.{Item, Good, packets_of, header, behind, danc}
use Rattle.rules.specs.Packing1.{Five, five, flat, fives, carriers, carriers_for, packs_of, packs, packs_in1}
use Rattle.rules.specs.Packing2.{fill, filled}
use Rattle.rules.specs.Numbers.{listed, refused, packets_in}
use Rattle.rules.specs.Reading.{packet_of_bytes, bytes_fault, pack_row, in_order}
use Rattle.rules.specs.Reading.{lead, carried, front_bytes, carriers_fit, packs_fault, packs_end, after_carriers}
use Rattle.rules.proofs.Basics.{both, chosen, all_is-fill, fill-all_is, later-bytes}
use Rattle.rules.proofs.Rows.{row_read, row_laid, row-over-laid}
use Rattle.rules.proofs.Strings.{bytes-packet, bytes-fine, bytes_rest, item_of, bytes-laid, bytes-faults}

-- ---- packs and bytes

pub fives-flat : (ps : List Five) → fives (flat ps) ≡ ps
fives-flat [] = refl
fives-flat (p ∷ ps) = ap (λ (t : List Five). p ∷ t) (fives-flat ps)

pub flat-fives : (m : ℕ) (s : List ℕ) → length s ≡ 5 * m → flat (fives s) ≡ s
flat-fives m [] e = refl
flat-fives m (a ∷ []) e = absurd (omega arith)
flat-fives m (a ∷ b ∷ []) e = absurd (omega arith)
flat-fives m (a ∷ b ∷ c ∷ []) e = absurd (omega arith)
flat-fives m (a ∷ b ∷ c ∷ d ∷ []) e = absurd (omega arith)
flat-fives zero (a ∷ b ∷ c ∷ d ∷ x ∷ s) e = absurd (omega arith)
flat-fives (suc m) (a ∷ b ∷ c ∷ d ∷ x ∷ s) e = ap (λ (t : List ℕ). a ∷ b ∷ c ∷ d ∷ x ∷ t) (flat-fives m s (omega arith))

pub flat_append : (ps qs : List Five) → flat (ps ++ qs) ≡ flat ps ++ flat qs
flat_append [] qs = refl
flat_append (p ∷ ps) qs = ap (λ (t : List ℕ). p.b0 ∷ p.b1 ∷ p.b2 ∷ p.b3 ∷ p.b4 ∷ t) (flat_append ps qs)

pub flat-length : (ps : List Five) → length (flat ps) ≡ 5 * length ps
flat-length [] = refl
flat-length (p ∷ ps) = let k = flat-length ps in omega arith

-- packs of fill
abbrev pub fills : ℕ → List Five
fills m = replicate m (five 0xFF 0xFF 0xFF 0xFF 0xFF)

flat-fills : (m : ℕ) → flat (fills m) ≡ fill (5 * m)
flat-fills zero = refl
flat-fills (suc m) = let e : 5 * suc m ≡ suc (suc (suc (suc (suc (5 * m))))) = omega arith in rw (e, flat-fills m)

-- packs and fill behind them, as bytes
pub packs-filled : (m : ℕ) (ps : List Five) → length ps ≤ m → filled (5 * m) (flat ps) ≡ flat (ps ++ fills (m - length ps))
packs-filled m ps h =
    let l = flat-length ps in
    let e : 5 * m - length (flat ps) ≡ 5 * (m - length ps) = omega arith in
    rw (e, flat_append ps (fills (m - length ps)), flat-fills (m - length ps))

-- ---- carriers in front

lead-carriers : (n : ℕ) (s : List ℕ) (r : List Five) → lead r ≡ 0 → lead (carriers n s ++ r) ≡ n
lead-carriers zero s r e = e
lead-carriers (suc n) s r e = ap suc (lead-carriers n (drop 4 s) r e)

carriers-length : (n : ℕ) (s : List ℕ) → length (carriers n s) ≡ n
carriers-length zero s = refl
carriers-length (suc n) s = ap suc (carriers-length n (drop 4 s))

-- what carriers carry is the bytes and fill
carried-carriers : (n : ℕ) (s : List ℕ) → length s ≤ 4 * n → carried (carriers n s) ≡ filled (4 * n) s
carried-carriers zero [] h = refl
carried-carriers zero (x ∷ s) h = absurd (omega arith)
carried-carriers (suc n) [] h =
    let k : 4 * suc n - 0 ≡ suc (suc (suc (suc (4 * n - 0)))) = omega arith in
    rw (k, carried-carriers n [] (omega arith))
carried-carriers (suc n) (a ∷ []) h =
    let k : 4 * suc n - 1 ≡ suc (suc (suc (4 * n - 0))) = omega arith in
    rw (k, carried-carriers n [] (omega arith))
carried-carriers (suc n) (a ∷ b ∷ []) h =
    let k : 4 * suc n - 2 ≡ suc (suc (4 * n - 0)) = omega arith in
    rw (k, carried-carriers n [] (omega arith))
carried-carriers (suc n) (a ∷ b ∷ c ∷ []) h =
    let k : 4 * suc n - 3 ≡ suc (4 * n - 0) = omega arith in
    rw (k, carried-carriers n [] (omega arith))
carried-carriers (suc n) (a ∷ b ∷ c ∷ d ∷ s) h =
    let k : 4 * suc n - suc (suc (suc (suc (length s)))) ≡ 4 * n - length s = omega arith in
    rw (k, carried-carriers n s (omega arith))

-- ---- a packet's packs: what is laid is read

-- what may follow a packet: no carrier
abbrev NoCarrier : List Five → Type 0
NoCarrier r = lead r ≡ 0

module _ (y : System) (hm : y.last < 2047) (x : Item) (r : List Five) (g : Good y x) where
  abbrev p : Packet
  p = x.packet

  abbrev n : ℕ
  n = carriers_for (length p.user)

  abbrev over : ℕ
  over = 4 * n - length (behind p)

  follows : NoCarrier (packs x ++ r)
  unfolding packs
  follows = refl

  goes_on : packs_end (packs x ++ r) ≡ false
  unfolding packs packs_end
  goes_on = refl

  behind-length : length (behind p) ≡ length p.user + 4
  behind-length = let k = length-append p.user (check_of p % 256 ∷ []) in omega arith

  -- the bytes in front are the packet's, and fill
  front-back : NoCarrier r → front_bytes (packs x ++ r) ≡ danc x ++ fill over
  unfolding packs danc header
  front-back e =
      let l = behind-length in
      rw (
        lead-carriers n (behind p) r e,
        take_at (carriers n (behind p)) r n (carriers-length n (behind p)),
        carried-carriers n (behind p) (omega arith),
      )

  fit-back : carriers_fit n (danc x ++ fill over) ≡ true
  unfolding danc header
  fit-back = rw (eq-eqb n n refl, bytes_rest y hm x (fill over) g) (all_is-fill 0xFF over)

  fault-back : NoCarrier r → packs_fault y (packs x ++ r) ≡ 0
  unfolding packs packs_fault
  fault-back e = rw (front-back e, lead-carriers n (behind p) r e, fit-back) (bytes-fine y hm x (fill over) g)

  packet-back : NoCarrier r → packet_of_bytes (front_bytes (packs x ++ r)) ≡ p
  packet-back e = ap packet_of_bytes (front-back e) ∙ bytes-packet y hm x (fill over) g

  rest_back : NoCarrier r → after_carriers (packs x ++ r) ≡ r
  unfolding packs
  rest_back e = rw (lead-carriers n (behind p) r e) (drop_at (carriers n (behind p)) r n (carriers-length n (behind p)))

-- ---- a packet's packs: what is read was laid

-- fill behind bytes does not show where they end
filled_at : (s : List ℕ) (m i : ℕ) → get_or (s ++ fill m) i 0xFF ≡ get_or s i 0xFF
filled_at [] zero i = refl
filled_at [] (suc m) zero = refl
filled_at [] (suc m) (suc i) = filled_at [] m i
filled_at (x ∷ s) m zero = refl
filled_at (x ∷ s) m (suc i) = filled_at s m i

drop-filled : (k : ℕ) (s : List ℕ) (m : ℕ) → (m' : ℕ) × (drop k (s ++ fill m) ≡ drop k s ++ fill m')
drop-filled zero s m = (m, refl)
drop-filled (suc k) (x ∷ s) m = drop-filled k s m
drop-filled (suc k) [] zero = (0, refl)
drop-filled (suc k) [] (suc m) = let w = drop-filled k [] m in (w.0, w.1 ∙ none k w.0)
  where
    none : (k m' : ℕ) → drop k [] ++ fill m' ≡ fill m'
    none zero m' = refl
    none (suc k) m' = refl

module _ (n : ℕ) (p : Five) (ps : List Five) (s : List ℕ) (m : ℕ) (e : p.b1 ∷ p.b2 ∷ p.b3 ∷ p.b4 ∷ carried (take n ps) ≡ s ++ fill m) where
  at : (i : ℕ) → get_or s i 0xFF ≡ get_or (p.b1 ∷ p.b2 ∷ p.b3 ∷ p.b4 ∷ carried (take n ps)) i 0xFF
  at i = sym (filled_at s m i) ∙ ap (λ (t : List ℕ). get_or t i 0xFF) (sym e)

  carriers-turn : ((m' : ℕ) → n ≤ lead ps → carried (take n ps) ≡ drop 4 s ++ fill m' → carriers n (drop 4 s) ≡ take n ps)
      → (t : Bool) → eqb p.b0 0xE2 ≡ t → suc n ≤ cond t (suc (lead ps)) 0 → carriers (suc n) s ≡ p ∷ take n ps
  carriers-turn ih false q l = absurd (omega arith)
  carriers-turn ih true q l =
      let w = drop-filled 4 s m in
      let b = ih w.0 (omega arith) (ap (drop 4) e ∙ w.1) in
      λ i. record { b0 = sym (eqb-true p.b0 0xE2 q) i; b1 = at 0 i; b2 = at 1 i; b3 = at 2 i; b4 = at 3 i } ∷ b i

-- carriers in front that carry these bytes and fill are these bytes' carriers
carriers-back : (n : ℕ) (ps : List Five) (s : List ℕ) (m : ℕ) → n ≤ lead ps → carried (take n ps) ≡ s ++ fill m → carriers n s ≡ take n ps
carriers-back zero ps s m h e = refl
carriers-back (suc n) [] s m h e = absurd (omega arith)
carriers-back (suc n) (p ∷ ps) s m h e =
    carriers-turn n p ps s m e (λ m' l q. carriers-back n ps (drop 4 s) m' l q) (eqb p.b0 0xE2) refl h

-- there are no more carriers in front than packs
pub lead-within : (ps : List Five) → lead ps ≤ length ps
lead-within [] = omega arith
lead-within (p ∷ ps) = go (eqb p.b0 0xE2) (lead-within ps)
  where
    go : (t : Bool) → lead ps ≤ length ps → cond t (suc (lead ps)) 0 ≤ suc (length ps)
    go true h = omega arith
    go false h = omega arith

carried-length : (n : ℕ) (ps : List Five) → n ≤ length ps → length (carried (take n ps)) ≡ 4 * n
carried-length zero ps h = refl
carried-length (suc n) [] h = absurd (omega arith)
carried-length (suc n) (p ∷ ps) h = let k = carried-length n ps (omega arith) in omega arith

carried-bytes : (n : ℕ) (ps : List Five) → Bytes (flat ps) → Bytes (carried (take n ps))
carried-bytes zero ps h i = omega arith
carried-bytes (suc n) [] h i = omega arith
carried-bytes (suc n) (p ∷ ps) h zero = h 1
carried-bytes (suc n) (p ∷ ps) h (suc zero) = h 2
carried-bytes (suc n) (p ∷ ps) h (suc (suc zero)) = h 3
carried-bytes (suc n) (p ∷ ps) h (suc (suc (suc zero))) = h 4
carried-bytes (suc n) (p ∷ ps) h (suc (suc (suc (suc i)))) = carried-bytes n ps (λ j. h (suc (suc (suc (suc (suc j)))))) i

front_bytes_lem : (p : Five) (ps : List Five) → Bytes (flat (p ∷ ps)) → Bytes (front_bytes (p ∷ ps))
front_bytes_lem p ps h zero = h 2
front_bytes_lem p ps h (suc zero) = h 3
front_bytes_lem p ps h (suc (suc zero)) = h 4
front_bytes_lem p ps h (suc (suc (suc i))) = carried-bytes (lead ps) ps (λ j. h (suc (suc (suc (suc (suc j)))))) i

passed : (a b : Bool) (n : ℕ) → cond (a && b) n 14 ≡ 0 → (a ≡ true) × (b ≡ true) × (n ≡ 0)
passed true true n e = (refl, refl, e)
passed true false n e = absurd (omega arith)
passed false b n e = absurd (omega arith)

module _ (y : System) (p : Five) (ps : List Five) (h : Bytes (flat (p ∷ ps))) where
  abbrev N : ℕ
  N = lead ps

  abbrev s : List ℕ
  s = front_bytes (p ∷ ps)

  -- the item that the packs in front show
  abbrev x : Item
  x = item_of p.b1 s

  start-laid : p.b0 ≡ 0xE1 → N ≡ carriers_for (get_or s 5 0) → all_is 0xFF (drop (get_or s 5 0 + 7) s) ≡ true → bytes_fault y s ≡ 0
      → (p ∷ ps ≡ packs x ++ drop N ps) × Good y x
  unfolding packs danc header
  start-laid b0 hn hf z =
      let ll = carried-length N ps (lead-within ps) in
      let w = bytes-laid y s p.b1 (h 1) (front_bytes_lem p ps h) (omega arith) z in
      let m = length (drop (get_or s 5 0 + 7) s) in
      let whole : s ≡ danc x ++ fill m = w.0 ∙ ap (λ (t : List ℕ). danc x ++ t) (fill-all_is 0xFF (drop (get_or s 5 0 + 7) s) hf) in
      let nn : N ≡ carriers_for (length x.packet.user) = hn ∙ ap (λ (t : List ℕ). carriers_for (get_or t 5 0)) whole in
      let cb : carriers N (behind x.packet) ≡ take N ps = carriers-back N ps (behind x.packet) m (omega arith) (ap (drop 3) whole) in
      let tl : ps ≡ carriers (carriers_for (length x.packet.user)) (behind x.packet) ++ drop N ps =
      sym (take-append-drop N ps) ∙ ap (λ (a : List Five). a ++ drop N ps) (sym cb ∙ ap (λ (k : ℕ). carriers k (behind x.packet)) nn) in (
        (λ i. record {
          b0 = b0 i;
          b1 = p.b1;
          b2 = ap (λ (t : List ℕ). get_or t 0 0) whole i;
          b3 = ap (λ (t : List ℕ). get_or t 1 0) whole i;
          b4 = ap (λ (t : List ℕ). get_or t 2 0) whole i;
        } ∷ tl i),
        w.1,
      )

-- a front without a fault is a good item's packs
packs-uncut : (y : System) (ps : List Five) → Bytes (flat ps) → (pack_row y).fault ps ≡ 0
    → (x : Item) × (x.packet ≡ (pack_row y).packet ps) × (ps ≡ packs x ++ (pack_row y).rest ps) × Good y x
unfolding pack_row packs_fault
packs-uncut y [] h e = absurd (omega arith)
packs-uncut y (p ∷ ps) h e =
    let s : List ℕ = front_bytes (p ∷ ps) in
    let w = passed (eqb p.b0 0xE1) (carriers_fit (lead ps) s) (bytes_fault y s) e in
    let v = both (eqb (lead ps) (carriers_for (get_or s 5 0))) (all_is 0xFF (drop (get_or s 5 0 + 7) s)) w.1 in
    let l = start-laid y p ps h (eqb-true p.b0 0xE1 w.0) (eqb-true (lead ps) (carriers_for (get_or s 5 0)) v.0) v.1 w.2 in
    (item_of p.b1 s, refl, l.0, l.1)

-- ---- a row of packs

fills-end : (m : ℕ) → packs_end (fills m) ≡ true
unfolding packs_end
fills-end m = ap (all_is 0xFF) (flat-fills m) ∙ all_is-fill 0xFF (5 * m)

fills-follow : (m : ℕ) → NoCarrier (fills m)
fills-follow zero = refl
fills-follow (suc m) = refl

-- what is laid is read, with fill behind it
pub packs-read : (y : System) → y.last < 2047 → (left i : ℕ) (xs : List Item) (m : ℕ) → All (Good y) xs → length xs ≤ left
    → packets_in (pack_row y) left i (joined packs xs ++ fills m) ≡ listed (packets_of xs)
unfolding pack_row
packs-read y hm left i xs m g few =
    row_read (pack_row y) packs (λ (x : Item). x.packet) (Good y) NoCarrier
    (record {
      follows = λ x r w. follows y hm x r w;
      goes = λ x r w. goes_on y hm x r w;
      fault = λ x r w z. fault-back y hm x r w z;
      packet = λ x r w z. packet-back y hm x r w z;
      rest = λ x r w z. rest_back y hm x r w z;
    })
    (fills m) (fills-follow m) (fills-end m) xs left i g few

-- what follows a packet's packs is bytes if all is
packs-later : (x : Item) (r : List Five) → Bytes (flat (packs x ++ r)) → Bytes (flat r)
packs-later x r b = later-bytes (flat (packs x)) (flat r) (subst Bytes (flat_append (packs x) r) b)

-- a row of packs is the packs of a list with some values of the free bits, and fill
pub record PacksOf (y : System) (left : ℕ) (s : List Five) (ps : List Packet) : Type 0 where
  pub items : List Item
  pub tail : List Five
  pub packets : packets_of items ≡ ps
  pub whole : s ≡ joined packs items ++ tail
  pub good : All (Good y) items
  pub ends : packs_end tail ≡ true
  pub few : length items ≤ left

-- what is read was laid
pub packs-laid : (y : System) (left i : ℕ) (s : List Five) (ps : List Packet) → Bytes (flat s) → packets_in (pack_row y) left i s ≡ listed ps
    → PacksOf y left s ps
unfolding pack_row
packs-laid y left i s ps h e =
    let l =
    row_laid (pack_row y) packs (λ (x : Item). x.packet) (Good y) (λ (t : List Five). Bytes (flat t)) packs-later (packs-uncut y)
    left i s ps h e in
    record { items = l.items; tail = l.tail; packets = l.packets; whole = l.whole; good = l.good; ends = l.ends; few = l.few }

-- from one list only
pub packs-unique : (y : System) → y.last < 2047 → (left : ℕ) (xs zs : List Item) (m k : ℕ) → All (Good y) xs → All (Good y) zs → length xs ≤ left
    → length zs ≤ left → joined packs xs ++ fills m ≡ joined packs zs ++ fills k → packets_of xs ≡ packets_of zs
packs-unique y hm left xs zs m k g h few fews e =
    let a = packs-read y hm left 0 xs m g few in
    let b = packs-read y hm left 0 zs k h fews in
    cc

-- ---- their order

order-carriers : (n : ℕ) (s : List ℕ) (r : List Five) → in_order false (carriers n s ++ r) ≡ in_order false r
unfolding in_order
order-carriers zero s r = refl
order-carriers (suc n) s r = order-carriers n (drop 4 s) r

order-fills : (m : ℕ) → in_order false (fills m) ≡ true
unfolding in_order packs_end
order-fills zero = refl
order-fills (suc m) = fills-end m

-- a starter's carriers, one or more
order-packet : (k : ℕ) (s : List ℕ) (r t : List Five) → in_order true ((carriers (1 + k) s ++ r) ++ t) ≡ in_order false (r ++ t)
unfolding in_order
order-packet k s r t = rw (append_assoc (carriers (1 + k) s) r t, one-add k) (order-carriers k (drop 4 s) (r ++ t))

-- what is laid is in order
pub packs-order : (xs : List Item) (m : ℕ) → in_order false (joined packs xs ++ fills m) ≡ true
unfolding in_order packs
packs-order [] m = order-fills m
packs-order (x ∷ xs) m =
    order-packet ((length x.packet.user + 3) / 4) (behind x.packet) (joined packs xs) (fills m) ∙ packs-order xs m

-- ---- how many, and the room they take

pub packet-packs : (x : Item) → length (packs x) ≡ packs_of x.packet
unfolding packs
packet-packs x = let k = carriers-length (carriers_for (length x.packet.user)) (behind x.packet) in omega arith

-- a list takes as many packs as the sum over the list says
pub packs-length : (xs : List Item) → length (joined packs xs) ≡ sum (map packs_of (packets_of xs))
packs-length [] = refl
packs-length (x ∷ xs) = length-append (packs x) (joined packs xs) ∙ ap₂ (λ (a b : ℕ). a + b) (packet-packs x) (packs-length xs)

-- they fit exactly when they are no more than the blocks' packs: only then are the user bytes laid as many as the blocks hold
pub packs-room : (m : ℕ) (xs : List Item) → (length (filled (5 * m) (flat (joined packs xs))) ≡ 5 * m) ↔ (sum (map packs_of (packets_of xs)) ≤ m)
packs-room m xs =
    let k = packs-length xs in
    let l = flat-length (joined packs xs) in
    let free : ℕ = 5 * m - length (flat (joined packs xs)) in
    let n = length-append (flat (joined packs xs)) (fill free) in
    let f : length (fill free) ≡ free = length-replicate free 0xFF in
    (λ e. omega arith, λ h. omega arith)

-- a packet takes two packs or more
pub packs-least : (ps : List Packet) → 2 * length ps ≤ sum (map packs_of ps)
packs-least [] = omega arith
packs-least (p ∷ ps) = let k = packs-least ps in omega arith

-- what holds of 14, 15, 16, 20, and 0 for none, holds of the fault of the packet in front
packs-faults : (P : ℕ → Type 0) → P 0 → P 14 → P 15 → P 16 → P 20 → (y : System) (ps : List Five) → P (packs_fault y ps)
unfolding packs_fault
packs-faults P p0 p14 p15 p16 p20 y [] = p14
packs-faults P p0 p14 p15 p16 p20 y (p ∷ ps) =
    let s : List ℕ = front_bytes (p ∷ ps) in
    chosen P (eqb p.b0 0xE1 && carriers_fit (lead ps) s) (bytes_fault y s) 14 (bytes-faults P p0 p15 p16 p20 y s) p14

-- where 5 is given, there are packs for as many packets as there may be
pub packs-over : (y : System) (left i : ℕ) (s : List Five) (k : ℕ) → Bytes (flat s) → packets_in (pack_row y) left i s ≡ refused 5 k
    → 2 * left ≤ length s
unfolding pack_row
packs-over y left i s k h e =
    let w =
    row-over-laid (pack_row y) packs (λ (x : Item). x.packet) (Good y) (λ (t : List Five). Bytes (flat t)) packs-later (packs-uncut y)
    left i s 5 k h
    (packs-faults (λ (n : ℕ). n ≡ 5 → ⊥) (λ z. omega arith) (λ z. omega arith) (λ z. omega arith) (λ z. omega arith) (λ z. omega arith) y) e in
    let xs : List Item = w.1.items in
    let l : length s ≡ length (joined packs xs) + length w.1.tail = ap length w.1.whole ∙ length-append (joined packs xs) w.1.tail in
    let m = packs-length xs in
    let n = packs-least (packets_of xs) in
    let c = length-map xs (λ (x : Item). x.packet) in
    let d = w.2 in
    omega arith

in-append : (s t : List Five) → packs_in1 (s ++ t) ≡ packs_in1 s + packs_in1 t
in-append [] t = omega arith
in-append (p ∷ s) t = let k = in-append s t in omega arith

in-carriers : (n : ℕ) (s : List ℕ) → packs_in1 (carriers n s) ≡ n
in-carriers zero s = refl
in-carriers (suc n) s = let k = in-carriers n (drop 4 s) in omega arith

in-fills : (m : ℕ) → packs_in1 (fills m) ≡ 0
in-fills zero = refl
in-fills (suc m) = let k = in-fills m in omega arith

in-packet : (x : Item) → packs_in1 (packs x) ≡ packs_of x.packet
unfolding packs
in-packet x = let k = in-carriers (carriers_for (length x.packet.user)) (behind x.packet) in omega arith

-- the packs that stand in the bytes laid are as many as the sum over the list says
pub packs-counted : (xs : List Item) (m : ℕ) → packs_in1 (joined packs xs ++ fills m) ≡ sum (map packs_of (packets_of xs))
packs-counted [] m = in-fills m
packs-counted (x ∷ xs) m =
    ap packs_in1 (append_assoc (packs x) (joined packs xs) (fills m))
    ∙ in-append (packs x) (joined packs xs ++ fills m)
    ∙ ap₂ (λ (a b : ℕ). a + b) (in-packet x) (packs-counted xs m)

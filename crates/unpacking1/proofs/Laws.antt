-- Opening packs of 5 to a string, packet after packet (document 01, "Numbers given back": 13, then packet by packet 5, 14, 15, 16).
-- Laws of packs, of their order and of one packet stand in files of their own.
--
-- In order: packets in front of an outcome; a packet's faults; a packet of a row of packs; packets opened one after the other; all of it.
-- Assumes nothing.
use Prim.Native.Nat.{ℕ, zero, suc, ◌+◌, ◌-◌, ◌*◌, ◌/◌, ◌%◌, ◌≤◌, ◌<◌}
use mathlib.Core.Path.{◌≡◌, refl, sym, ap, ap₂, ◌∙◌, subst}
use mathlib.Core.Bool.{Bool, true, false, cond, ◌&&◌}
use mathlib.Core.List.{List, [], ◌∷◌, ◌++◌, append-nil}
use native.Mathlib.Nat.{sub-zero}
use native.Mathlib.Omega.{arith}
use native.Mathlib.Numerals.{add-one, add_six, add_seven}
use lib.Dec.{eqb, ltb, leb}
use lib.ListN.{length, get_or, take, drop, length-append, length-drop, length-map}
use lib.Seq.{length-take-le, take-length, take_at, take-take, get_or-take}
use borrow.Author.Tests.{ltb-true, ltb-false, eqb-true, eqb-false, ne_eqb, lt-ltb, leb-true}
use Rattle.rules.specs.Base.{all_is, All, none, one, Bytes}
use Rattle.std.specs.Prelude.{Result, Ok, Err}
use Rattle.rules.specs.declared.Refusal.{Refusal}
use Rattle.rules.specs.declared.Refused.{Refused}
use Rattle.rules.specs.Refusals.{Told, tell, told, told_of}
use Rattle.rules.specs.Systems.{System}
use Rattle.rules.specs.Packet.{Packet}
use Rattle.rules.specs.Danc.{Item, Good, packets_of, danc, string, string_byte_count}
use Rattle.rules.specs.Sheet.{limit}
use Rattle.rules.specs.Packing1.{Five, fives, carriers_for}
use Rattle.rules.specs.Numbers.{Outcome, listed, refused, also, unless, packets_in}
use Rattle.rules.specs.Reading.{packet_of_bytes, bytes_fault}
use Rattle.rules.specs.Reading.{lead, front_bytes, carriers_fit, packs_fault, packs_end, after_carriers, pack_row, in_order}
use Rattle.rules.proofs.Basics.{never, both, take-bytes, drop-bytes, joined-append, all_append}
use Rattle.rules.proofs.Strings.{danc-length, item_of, bytes-laid, string-room}
use Rattle.rules.proofs.Packs.{lead-within}
use Rattle.danc.specs.declared.Validated.{Validated}
use Rattle.danc.specs.Answer.{counted, answer_of}
use Rattle.danc.specs.Validated.{judged_as}
use Rattle.unpacking1.specs.Open.{packs_at, Within, order_first, fits, NotMoved, MovedTo, Opens}
use Rattle.unpacking1.specs.Open.{packets_from, packets_of_packs, wrong_order, wrong_length, placed, order_before, end_answer, packets_of_fives}
use Rattle.unpacking1.proofs.Packs.{kept-later, kept_at, kept-packs, window-front, window-at, window-part}
use Rattle.unpacking1.proofs.Packs.{pack_at, packs-none, packs-drop, first-pack}
use Rattle.unpacking1.proofs.Order.{goes-on, order-ends}
use Rattle.unpacking1.proofs.Packet.{lead-none, lead-some, carried-length}

-- ---- packets in front of an outcome

-- packets ps, then what an outcome lists
abbrev also_all : List Packet → Outcome → Outcome
also_all [] o = o
also_all (p ∷ ps) o = also p (also_all ps o)

-- a refusal stays what it is
also-refused : (ps : List Packet) (n i : ℕ) → also_all ps (refused n i) ≡ refused n i
also-refused [] n i = refl
also-refused (p ∷ ps) n i = ap (also p) (also-refused ps n i)

-- before an empty list they are the list
also-listed : (ps : List Packet) → also_all ps (listed []) ≡ listed ps
also-listed [] = refl
also-listed (p ∷ ps) = ap (also p) (also-listed ps)

-- one packet more, behind them or in front of the outcome
also-later : (xs : List Item) (x : Item) (o : Outcome) → also_all (packets_of xs) (also x.packet o) ≡ also_all (packets_of (xs ++ x ∷ [])) o
also-later [] x o = refl
also-later (z ∷ xs) x o = ap (also z.packet) (also-later xs x o)

-- one item more at the end of a string
string-later : (xs : List Item) (x : Item) → string (xs ++ x ∷ []) ≡ string xs ++ danc x
string-later xs x = joined-append danc xs (x ∷ []) ∙ ap (λ (s : List ℕ). string xs ++ s) (append-nil (danc x))

-- ---- a packet's faults

-- 14 in packs, then the fault of their bytes
fault-is : (y : System) (ps : List Five) → packs_fault y ps ≡ cond (fits ps) (bytes_fault y (front_bytes ps)) 14
unfolding packs_fault
fault-is y [] = refl
fault-is y (p ∷ ps) = refl

-- the fault of a packet's bytes is theirs alone
prefix-cut : (y : System) (a b c d e n : ℕ) (t : List ℕ) → suc n ≤ length t
    → bytes_fault y (a ∷ b ∷ c ∷ d ∷ e ∷ n ∷ take (suc n) t) ≡ bytes_fault y (a ∷ b ∷ c ∷ d ∷ e ∷ n ∷ t)
unfolding bytes_fault
prefix-cut y a b c d e n t l = rw (add_six n, get_or-take (suc n) t n 0 (omega arith), take-take n (suc n) t (omega arith))

-- the same, of the bytes as `take` gives them
prefix-whole : (y : System) (a b c d e n : ℕ) (t : List ℕ) → suc n ≤ length t
    → bytes_fault y (take (n + 7) (a ∷ b ∷ c ∷ d ∷ e ∷ n ∷ t)) ≡ bytes_fault y (a ∷ b ∷ c ∷ d ∷ e ∷ n ∷ t)
prefix-whole y a b c d e n t l = rw (add_seven n) (prefix-cut y a b c d e n t l)

-- the same, of any bytes that are a packet long
prefix-fault : (y : System) (s : List ℕ) → get_or s 5 0 + 7 ≤ length s → bytes_fault y (take (get_or s 5 0 + 7) s) ≡ bytes_fault y s
prefix-fault y [] h = absurd (omega arith)
prefix-fault y (a ∷ []) h = absurd (omega arith)
prefix-fault y (a ∷ b ∷ []) h = absurd (omega arith)
prefix-fault y (a ∷ b ∷ c ∷ []) h = absurd (omega arith)
prefix-fault y (a ∷ b ∷ c ∷ d ∷ []) h = absurd (omega arith)
prefix-fault y (a ∷ b ∷ c ∷ d ∷ e ∷ []) h = absurd (omega arith)
prefix-fault y (a ∷ b ∷ c ∷ d ∷ e ∷ n ∷ t) h = prefix-whole y a b c d e n t (omega arith)

-- what is told of a fault: nothing where it is none, and its refusal where it is one
abbrev told_by : Bool → ℕ → ℕ → Result Unit Told
told_by t f k = cond t (Ok tt) (Err (tell f k 0))

module _ (f k : ℕ) where
  none-told : Ok tt ≡ told_by (eqb f 0) f k → f ≡ 0
  none-told e = go (eqb f 0) refl e
    where
      go : (t : Bool) → eqb f 0 ≡ t → Ok tt ≡ told_by t f k → f ≡ 0
      go true x e = eqb-true f 0 x
      go false x e = never (cc)

  some-told : (s : Told) → Err s ≡ told_by (eqb f 0) f k → (f ≡ 0 → ⊥) × (s ≡ tell f k 0)
  some-told s e = go (eqb f 0) refl e
    where
      go : (t : Bool) → eqb f 0 ≡ t → Err s ≡ told_by t f k → (f ≡ 0 → ⊥) × (s ≡ tell f k 0)
      go true x e = never (cc)
      go false x e = (eqb-false f 0 x, cc)

-- ---- a packet of a row of packs

module _ (y : System) (s : List Five) (k : ℕ) where
  -- the end
  packs-ended : (left : ℕ) → packs_end s ≡ true → packets_in (pack_row y) left k s ≡ listed []
  unfolding pack_row
  packs-ended zero e = rw e
  packs-ended (suc left) e = rw e

  -- a fault
  packs-fault : (left n : ℕ) → packs_end s ≡ false → packs_fault y s ≡ n → (n ≡ 0 → ⊥) → packets_in (pack_row y) (suc left) k s ≡ refused n k
  unfolding pack_row
  packs-fault left n e f z = rw (e, f, ne_eqb n 0 z)

  -- one packet, and the packs behind its carriers
  packs-goes : (left : ℕ) → packs_end s ≡ false → packs_fault y s ≡ 0
      → packets_in (pack_row y) (suc left) k s ≡ also (packet_of_bytes (front_bytes s)) (packets_in (pack_row y) left (suc k) (after_carriers s))
  unfolding pack_row
  packs-goes left e f = rw (e, f)

-- what 14 has shown of a packet in front
fits-parts : (p : Five) (ps : List Five) → fits (p ∷ ps) ≡ true → (p.b0 ≡ 0xE1) × (lead ps ≡ carriers_for (get_or (front_bytes (p ∷ ps)) 5 0))
fits-parts p ps f =
    let s : List ℕ = front_bytes (p ∷ ps) in
    let w = both (eqb p.b0 0xE1) (carriers_fit (lead ps) s) f in
    let v = both (eqb (lead ps) (carriers_for (get_or s 5 0))) (all_is 0xFF (drop (get_or s 5 0 + 7) s)) w.1 in
    (eqb-true p.b0 0xE1 w.0, eqb-true (lead ps) (carriers_for (get_or s 5 0)) v.0)

-- three header bytes, and four for each carrier
front-bytes-length : (p : Five) (ps : List Five) → length (front_bytes (p ∷ ps)) ≡ 3 + 4 * lead ps
front-bytes-length p ps =
    let k = carried-length (take (lead ps) ps) in
    let l : length (take (lead ps) ps) ≡ lead ps = length-take-le (lead ps) ps (lead-within ps) in
    omega arith

-- ---- packets opened one after the other

-- the packets before packet k, opened, stand as a string in the first w bytes; what is read from r on is the rest
pub record Done (y : System) (before us : List ℕ) (total r w k : ℕ) : Type 0 where
  pub items : List Item
  pub good : All (Good y) items
  pub many : length items ≡ k
  pub laid : take w us ≡ string items
  pub rest : packets_from y (packs_at before 0 total)
      ≡ also_all (packets_of items) (packets_in (pack_row y) (limit - k) k (packs_at before r total))

-- what holds when packet k is next: `us` are the bytes that were `before`, opened up to r, and the packs from there on are in order where all
-- are. A packet takes two packs at least
pub record Opening (last : ℕ) (before us : List ℕ) (total r w k : ℕ) : Type 0 where
  pub packs : Within before r total
  pub low : w ≤ r
  pub few : 10 * k ≤ r
  pub order : in_order false (packs_at before r total) ≡ in_order false (packs_at before 0 total)
  pub size : length before ≡ 9360
  pub long : length us ≡ length before
  pub kept : drop r us ≡ drop r before
  pub done : (y : System) → y.last ≡ last → Done y before us total r w k

-- nothing is opened yet
pub opening-none : (last : ℕ) (us : List ℕ) (total : ℕ) → Within us 0 total → length us ≡ 9360 → Opening last us us total 0 0 0
opening-none last us total p l =
    record {
      packs = p;
      low = omega arith;
      few = omega arith;
      order = refl;
      size = l;
      long = refl;
      kept = refl;
      done = λ y e. record { items = []; good = none; many = refl; laid = refl; rest = from_first y };
    }
  where
    from_first : (y : System) → packets_from y (packs_at us 0 total) ≡ packets_in (pack_row y) (limit - 0) 0 (packs_at us 0 total)
    from_first y = ap (λ (n : ℕ). packets_in (pack_row y) n 0 (packs_at us 0 total)) (sym (sub-zero limit))

-- a refusal leaves nothing to say of the bytes
pub refused-opens : {y : System} {o : Outcome} {n k : ℕ} {r : Result Validated Refused} {us : List ℕ} → o ≡ refused n k
    → told_of r ≡ Err (tell n k 0) → Opens y o r us
refused-opens e q = record { answer = q ∙ ap (answer_of 0 0) (sym e); string = λ ps f. never (cc) }

module _ {last : ℕ} {before us : List ℕ} {total r w k : ℕ} (v : Opening last before us total r w k) where
  -- all packs, and those that are left
  abbrev packs : List Five
  packs = packs_at before 0 total

  abbrev left : List Five
  left = packs_at before r total

  -- they stand in the bytes as they were
  left-us : packs_at us r total ≡ left
  left-us = kept-packs us before r v.kept r total (omega arith)

  -- their order is that of all packs
  order-us : in_order false (packs_at us r total) ≡ in_order false packs
  order-us = ap (in_order false) left-us ∙ v.order

  -- 13
  pub refused-order : in_order false packs ≡ false → (y : System) → packets_of_packs y packs ≡ refused 13 0
  refused-order e y = ap (λ (b : Bool). unless 13 b (packets_from y packs)) e

  -- packs in order: what their packets give is the outcome
  module _ (o : in_order false packs ≡ true) where
    in_order_lem : (y : System) {p : Outcome} → packets_from y packs ≡ p → packets_of_packs y packs ≡ p
    in_order_lem y q = ap (λ (b : Bool). unless 13 b (packets_from y packs)) o ∙ q

  -- no more packets than there are packs for
  pub below-limit : r < total → k < limit
  unfolding limit
  below-limit h = let a = v.few in let b = v.packs.all in let c = v.size in omega arith

  -- the first w bytes are there
  front_long : length (take w us) ≡ w
  front_long =
      let a = v.low in
      let b = v.packs.reach in
      let c = v.packs.all in
      let d = v.long in
      length-take-le w us (omega arith)

  -- all packets, from those before packet k and what is read from there on
  whole_is : (y : System) (e : y.last ≡ last) (o : Outcome) → packets_in (pack_row y) (limit - k) k left ≡ o
      → packets_from y packs ≡ also_all (packets_of (v.done y e).items) o
  whole_is y e o q = (v.done y e).rest ∙ ap (also_all (packets_of (v.done y e).items)) q

  -- a refusal of packet k is the whole outcome
  refused-is : (y : System) → y.last ≡ last → (n : ℕ) → packets_in (pack_row y) (limit - k) k left ≡ refused n k
      → packets_from y packs ≡ refused n k
  refused-is y e n q = whole_is y e (refused n k) q ∙ also-refused (packets_of (v.done y e).items) n k

  -- the end
  module _ (o : in_order false packs ≡ true) (ends : packs_end left ≡ true) where
    -- how many packets there are and where their string ends, which stands in front
    opening-done : (y : System) → y.last ≡ last → Opens y (packets_of_packs y packs) (Ok (counted k w)) us
    opening-done y e =
        let d = v.done y e in
        let xs : List Item = d.items in
        let q : packets_of_packs y packs ≡ listed (packets_of xs) =
        in_order_lem o y (whole_is y e (listed []) (packs-ended y left k (limit - k) ends) ∙ also-listed (packets_of xs)) in
        let m : length (packets_of xs) ≡ k = length-map xs (λ (x : Item). x.packet) ∙ d.many in
        let t = front_long in
        let n : w ≡ string_byte_count (packets_of xs) = sym t ∙ ap length d.laid ∙ string-room xs in
        record {
          answer =
              (let z : k ≡ 0 + length (packets_of xs) = omega arith in
              let i : w ≡ 0 + string_byte_count (packets_of xs) = omega arith in
              ap₂ (λ (a b : ℕ). Ok (counted a b)) z i)
              ∙ ap (answer_of 0 0) (sym q);
          string =
              λ ps f.
              let p : packets_of xs ≡ ps = cc in
              record {
                items = xs;
                good = d.good;
                packets = p;
                front = ap (λ (i : ℕ). take i us) (sym (n ∙ ap string_byte_count p)) ∙ d.laid;
              };
        }

  -- one packet more, where it is no end
  module _ (rest : r < total) (goes : packs_end left ≡ false) where
    -- below the limit one packet more may come
    more : limit - k ≡ suc (limit - (k + 1))
    more = let f = below-limit rest in omega arith

    -- packet k has a fault
    refused-fault : (n : ℕ) → (n ≡ 0 → ⊥) → (y : System) → y.last ≡ last → packs_fault y left ≡ n → packets_from y packs ≡ refused n k
    refused-fault n z y e f =
        refused-is y e n (ap (λ (m : ℕ). packets_in (pack_row y) m k left) more ∙ packs-fault y left k (limit - (k + 1)) n goes f z)

    -- 14, of packs in order
    fourteen : in_order false packs ≡ true → fits left ≡ false → (y : System) → y.last ≡ last
        → packets_of_packs y packs ≡ refused 14 k
    fourteen o f y e =
        in_order_lem o y
        (refused-fault 14 (λ z. omega arith) y e (fault-is y left ∙ ap (λ (b : Bool). cond b (bytes_fault y (front_bytes left)) 14) f))

  -- carriers are in front
  module _ (z : lead left ≡ 0 → ⊥) where
    -- so a pack is left
    pack-left : r < total
    pack-left = go (ltb r total) refl
      where
        go : (t : Bool) → ltb r total ≡ t → r < total
        go true e = ltb-true r total e
        go false e = absurd (z (ap lead (packs-none before r total (ltb-false r total e))))

    -- which is one
    carrier-left : get_or before r 0 ≡ 0xE2
    carrier-left = go (eqb (get_or before r 0) 0xE2) refl
      where
        go : (t : Bool) → eqb (get_or before r 0) 0xE2 ≡ t → get_or before r 0 ≡ 0xE2
        go true e = eqb-true (get_or before r 0) 0xE2 e
        go false e = absurd (z (lead-none v.packs pack-left (eqb-false (get_or before r 0) 0xE2 e)))

  -- where no packet starts: what `ended` answers
  module _ (n : (ltb r total && eqb (get_or us r 0) 0xE1) ≡ false) where
    -- a pack that is left is no starter
    no-start : r < total → eqb (get_or before r 0) 0xE1 ≡ false
    no-start h =
        let k : get_or us r 0 ≡ get_or before r 0 = kept_at us before r v.kept in
        ap (λ (i : ℕ). eqb i 0xE1) (sym k) ∙ (rw (lt-ltb r total h) at n)

    -- packs in order that do not begin with a carrier are the end
    end-left : lead left ≡ 0 → in_order false left ≡ true → packs_end left ≡ true
    unfolding packs_end
    end-left z o = go (ltb r total) refl
      where
        go : (t : Bool) → ltb r total ≡ t → packs_end left ≡ true
        go true e =
            let h = ltb-true r total e in
            order-ends v.packs h (λ c. lead-some v.packs h c z) (eqb-false (get_or before r 0) 0xE1 (no-start h)) o
        go false e = rw (packs-none before r total (ltb-false r total e))

    pub opening-ended : {q : Result Validated Refused} → q ≡ end_answer (packs_at us r total) (counted k w)
        → (y : System) → y.last ≡ last → Opens y (packets_of_packs y packs) q us
    opening-ended {q} c y e =
        go (in_order false packs) refl (eqb (lead left) 0) refl
        (c ∙ ap (λ (s : List Five). end_answer s (counted k w)) left-us
        ∙ ap (λ (b : Bool). cond b (cond (eqb (lead left) 0) (Ok (counted k w)) (Err (wrong_length k))) (Err wrong_order)) v.order)
      where
        go : (a : Bool) → in_order false packs ≡ a → (b : Bool) → eqb (lead left) 0 ≡ b
            → q ≡ cond a (cond b (Ok (counted k w)) (Err (wrong_length k))) (Err wrong_order) → Opens y (packets_of_packs y packs) q us
        go false f b g c = refused-opens (refused-order f y) (ap told_of c)
        go true f true g c = rw c (opening-done f (end-left (eqb-true (lead left) 0 g) (v.order ∙ f)) y e)
        go true f false g c =
            let z = eqb-false (lead left) 0 g in
            let h = pack-left z in
            let shut : fits left ≡ false = rw (first-pack v.packs h, no-start h) in
            refused-opens (fourteen h (goes-on v.packs h (carrier-left z) refl) f shut y e) (ap told_of c)

  -- one packet more
  module _ (starts : (ltb r total && eqb (get_or us r 0) 0xE1) ≡ true) where
    start-parts : (ltb r total ≡ true) × (eqb (get_or us r 0) 0xE1 ≡ true)
    start-parts = both (ltb r total) (eqb (get_or us r 0) 0xE1) starts

    -- a pack is left, where the packet starts
    pub packet-left : r < total
    packet-left = ltb-true r total start-parts.0

    -- with a starter
    starter-there : get_or before r 0 ≡ 0xE1
    starter-there = sym (kept_at us before r v.kept) ∙ eqb-true (get_or us r 0) 0xE1 start-parts.1

    -- which is no end
    left-goes : packs_end left ≡ false
    left-goes = goes-on v.packs packet-left starter-there refl

    -- its packs do not pass 14: 13, where they are not in order, or 14
    pub refused-packet : {refusal : Refusal} → NotMoved us r total refusal → (y : System) → y.last ≡ last → {s : List ℕ}
        → Opens y (packets_of_packs y packs) (Err (placed refusal k)) s
    refused-packet {refusal} o y e {s} = go (in_order false packs) refl (o.order ∙ ap order_first order-us)
      where
        go : (b : Bool) → in_order false packs ≡ b → refusal ≡ order_first b → Opens y (packets_of_packs y packs) (Err (placed refusal k)) s
        go false f q = refused-opens (refused-order f y) (ap (λ (i : Refusal). Err (told (placed i k))) q)
        go true f q =
            refused-opens (fourteen packet-left left-goes f (ap fits (sym left-us) ∙ o.shut) y e)
            (ap (λ (i : Refusal). Err (told (placed i k))) q)

    -- after the packet was opened
    module _ {after : List ℕ} {next : ℕ} (o : MovedTo us after r total w next) where
      -- they do: the bytes in its packs
      abbrev bytes : List ℕ
      bytes = front_bytes left

      -- DC among them
      abbrev size : ℕ
      size = get_or bytes 5 0

      -- the packs behind its starter
      abbrev later : List Five
      later = packs_at before (r + 5) total

      -- 14 is passed
      left-fits : fits left ≡ true
      left-fits = ap fits (sym left-us) ∙ o.passes

      -- the starter is the first pack left
      left_is : left ≡ pack_at before r ∷ later
      left_is = first-pack v.packs packet-left

      -- it is one, and has as many carriers as DC needs
      parts : (get_or before r 0 ≡ 0xE1) × (lead later ≡ carriers_for size)
      parts =
          let q = fits-parts (pack_at before r) later (ap fits (sym left_is) ∙ left-fits) in
          (q.0, q.1 ∙ ap (λ (s : List Five). carriers_for (get_or (front_bytes s) 5 0)) (sym left_is))

      -- where its packs end
      next-is : next ≡ r + 5 + 5 * lead later
      next-is =
          let q = o.place ∙ ap (λ (s : List Five). r + 10 + (get_or (front_bytes s) 5 0 + 3) / 4 * 5) left-us in
          let l = parts.1 in
          omega arith

      -- how many bytes they carry
      bytes-length : length bytes ≡ 3 + 4 * lead later
      bytes-length = ap (λ (s : List Five). length (front_bytes s)) left_is ∙ front-bytes-length (pack_at before r) later

      -- no fewer than the packet has
      bytes-long : size + 7 ≤ length bytes
      bytes-long = let a = bytes-length in let l = parts.1 in omega arith

      -- the packs behind its carriers
      behind-is : packs_at before next total ≡ drop (lead later) later
      behind-is =
          let i = o.within in
          let n = next-is in
          ap (λ (a : ℕ). packs_at before a total) n ∙ sym (packs-drop (lead later) before (r + 5) total (omega arith) v.packs.all)

      -- are the packs from the next place on
      after_is : after_carriers left ≡ packs_at before next total
      after_is = ap after_carriers left_is ∙ sym behind-is

      -- in order where all are
      order_is : in_order false (packs_at before next total) ≡ in_order false packs
      order_is =
          let n = next-is in
          ap (in_order false) (sym (kept-packs us before r v.kept next total (omega arith))) ∙ o.same ∙ order-us

      next-kept : packs_at after next total ≡ packs_at before next total
      next-kept =
          let n = next-is in
          kept-packs after us next o.moved.kept next total (omega arith)
          ∙ kept-packs us before r v.kept next total (omega arith)

      -- its bytes stand behind the string so far
      moved-laid : take (w + length bytes) after ≡ take w us ++ bytes
      moved-laid = rw left-us at o.moved.laid

      -- so does DC
      size_is : get_or after (w + 5) 0 ≡ size
      size_is = let l = bytes-long in window-at after (take w us) bytes w front_long moved-laid 5 (omega arith)

      -- the packet ends before its packs do
      pub size-within : w + size + 7 ≤ next
      size-within = let a = v.low in let n = next-is in let l = parts.1 in omega arith

      -- the bytes from its place on, as many as it brought
      bytes-there : (m : ℕ) → m ≤ length bytes → take m (drop w after) ≡ take m bytes
      bytes-there m h =
          let a : w ≡ w + 0 = omega arith in
          let b : m ≡ m - 0 = omega arith in
          ap (λ (i : ℕ). take m (drop i after)) a ∙ ap (λ (i : ℕ). take i (drop (w + 0) after)) b
          ∙ window-part after (take w us) bytes w front_long moved-laid 0 m h

      -- d is DC as it is read there
      module _ {d : ℕ} (e : d ≡ get_or after (w + 5) 0) where
        -- so it is DC
        d-is : d ≡ size
        d-is = e ∙ size_is

        -- the packet ends before its packs do
        pub size_below : w + d + 7 ≤ next
        size_below = let a = size-within in let b = d-is in omega arith

        -- the bytes that are judged are the packet's
        part-is : take (w + d + 7 - w) (drop w after) ≡ take (size + 7) bytes
        part-is =
            let a : w + d + 7 - w ≡ size + 7 = let b = d-is in omega arith in
            ap (λ (m : ℕ). take m (drop w after)) a ∙ bytes-there (size + 7) bytes-long

        -- c is what is told of them
        module _ {c : Result Unit Told} (q : (y : System) → y.last ≡ last → c ≡ judged_as y (take (w + d + 7 - w) (drop w after)) k) where
          -- it is what is told of the packet's bytes
          answer_is : (y : System) → y.last ≡ last → c ≡ told_by (eqb (bytes_fault y bytes) 0) (bytes_fault y bytes) k
          unfolding judged_as
          answer_is y e =
              q y e
              ∙ ap (λ (f : ℕ). told_by (eqb f 0) f k) (ap (bytes_fault y) part-is ∙ prefix-fault y bytes bytes-long)

          -- and so of the packs
          left-fault : (y : System) → packs_fault y left ≡ bytes_fault y bytes
          left-fault y = fault-is y left ∙ ap (λ (b : Bool). cond b (bytes_fault y bytes) 14) left-fits

          -- 15, 16, 20, where the packs are in order: what `refused` answers
          pub refused-other : (fault : Refused) → Err (told fault) ≡ c → {r : Refused}
              → r ≡ order_before (in_order false (packs_at after next total)) fault → (y : System) → y.last ≡ last → {s : List ℕ}
              → Opens y (packets_of_packs y packs) (Err r) s
          refused-other fault m {r} g y e {s} =
              go (in_order false packs) refl (g ∙ ap (λ (b : Bool). order_before b fault) (ap (in_order false) next-kept ∙ order_is))
            where
              go : (b : Bool) → in_order false packs ≡ b → r ≡ order_before b fault → Opens y (packets_of_packs y packs) (Err r) s
              go false f g = refused-opens (refused-order f y) (ap (λ (i : Refused). Err (told i)) g)
              go true f g =
                  let a = some-told (bytes_fault y bytes) k (told fault) (m ∙ answer_is y e) in
                  refused-opens (in_order_lem f y (refused-fault packet-left left-goes _ a.0 y e (left-fault y)))
                  (ap (λ (i : Refused). Err (told i)) g ∙ ap (λ (t : Told). Err t) a.1)

          -- without a fault they are an item's
          module _ (fine : Ok tt ≡ c) (known : Bytes after) where
            -- they are bytes, as all are
            bytes-known : Bytes bytes
            bytes-known =
                let p : take (length bytes) (drop w after) ≡ bytes = bytes-there (length bytes) (omega arith) ∙ take-length bytes in
                subst Bytes p (take-bytes (length bytes) (drop w after) (drop-bytes w after known))

            -- the item that they are
            abbrev item : Item
            item = item_of 0 bytes

            -- its bytes stand in front, and it is good
            item-is : (y : System) → y.last ≡ last → (take (size + 7) bytes ≡ danc item) × Good y item
            item-is y f =
                let l = bytes-laid y bytes 0 (omega arith) bytes-known bytes-long (none-told (bytes_fault y bytes) k (fine ∙ answer_is y f)) in
                let a : length (drop 6 bytes) ≡ length bytes - 6 = length-drop 6 bytes in
                let b = bytes-long in
                let c : length (take size (drop 6 bytes)) ≡ size = length-take-le size (drop 6 bytes) (omega arith) in
                let m : length (danc item) ≡ size + 7 = danc-length item ∙ ap (λ (j : ℕ). j + 7) c in
                (ap (take (size + 7)) l.0 ∙ take_at (danc item) (drop (size + 7) bytes) (size + 7) m, l.1)

            -- it is one more of the packets done
            done_more : (y : System) → y.last ≡ last → Done y before after total next (w + d + 7) (k + 1)
            done_more y f =
                let was = v.done y f in
                let x = item-is y f in
                let i : w + d + 7 ≡ w + (size + 7) = let j = d-is in omega arith in
                let m = was.many in
                let c = length-append was.items (item ∷ []) in
                let none_found : packs_fault y left ≡ 0 = left-fault y ∙ none-told (bytes_fault y bytes) k (fine ∙ answer_is y f) in
                record {
                  items = was.items ++ item ∷ [];
                  good = all_append (Good y) was.items (item ∷ []) was.good (one x.1 none);
                  many = omega arith;
                  laid =
                      ap (λ (m : ℕ). take m after) i ∙ window-front after (take w us) bytes w front_long moved-laid (size + 7) bytes-long
                      ∙ ap₂ (λ (a b : List ℕ). a ++ b) was.laid x.0
                      ∙ sym (string-later was.items item);
                  rest =
                      whole_is y f _
                      (ap (λ (m : ℕ). packets_in (pack_row y) m k left) (more packet-left left-goes)
                      ∙ packs-goes y left k (limit - (k + 1)) left-goes none_found)
                      ∙ also-later was.items item _
                      ∙ ap (also_all (packets_of (was.items ++ item ∷ [])))
                      (ap₂ (λ (m : ℕ) (s : List Five). packets_in (pack_row y) (limit - (k + 1)) m s) (sym (add-one k)) after_is);
                }

            -- and the next packet may be opened
            pub opening-more : length after ≡ length us → Opening last before after total next (w + d + 7) (k + 1)
            opening-more l =
                let a = v.few in
                let p = v.packs in
                let b = p.whole in
                let m = next-is in
                let f = parts.1 in
                record {
                  packs = record { reach = o.within; all = p.all; whole = omega arith };
                  low = size_below;
                  few = omega arith;
                  order = order_is;
                  size = v.size;
                  long = l ∙ v.long;
                  kept = o.moved.kept ∙ kept-later us before r v.kept next (omega arith);
                  done = done_more;
                }

-- ---- all of it

module _ (us : List ℕ) (total : ℕ) where
  -- the packs from place 0 on are all of them
  packs-all : packs_at us 0 total ≡ fives (take total us)
  packs-all = let e : total - 0 ≡ total = omega arith in ap (λ (n : ℕ). fives (take n us)) e

  -- t: these are whole packs
  module _ {t : Bool} (w : t ≡ (leb total (length us) && eqb (total % 5) 0)) where
    -- 13: they are not
    pub refused-whole : t ≡ false → (y : System) → packets_of_fives y us total ≡ refused 13 0
    unfolding packets_of_fives
    refused-whole e y = rw (sym w ∙ e)

    module _ (e : t ≡ true) where
      -- they are
      pub whole-packs : Within us 0 total
      whole-packs =
          let q = both (leb total (length us)) (eqb (total % 5) 0) (sym w ∙ e) in
          let m = eqb-true (total % 5) 0 q.1 in
          record { reach = omega arith; all = leb-true total (length us) q.0; whole = omega arith }

      -- then their packets are the outcome
      pub opens-all : {y : System} {r : Result Validated Refused} {after : List ℕ} → Opens y (packets_of_packs y (packs_at us 0 total)) r after
          → Opens y (packets_of_fives y us total) r after
      unfolding packets_of_fives
      opens-all {y} o = rw (sym w ∙ e, sym packs-all) o

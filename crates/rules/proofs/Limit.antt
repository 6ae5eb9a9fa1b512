-- The packet limit, document 02, A6: "Raise the limit to 1,275, the most that 8,928 bytes can hold. .. Since no list that fits reaches
-- 1,276 packets, say where 5 can still occur." On reading: in system 2 and packing 2 alone, behind 1,275 packets that have at most two user
-- bytes together, where the one to three bytes that remain are not all FFh.
--
-- In order: what the blocks hold; no list that fits reaches 1,276 packets (`fits-few`); where 5 occurs (`FiveAt`, `five-small`): nowhere
-- else (`five-where`), there (`five-there`), and that there are such areas (`five-laid`), also with a user byte (`five-user`).
-- Assumes nothing.
use Prim.Native.Nat.{ℕ, zero, suc, ◌+◌, ◌*◌, ◌/◌, ◌≤◌, ◌<◌}
use mathlib.Core.Path.{◌≡◌, refl, sym, ap, ◌∙◌, subst}
use mathlib.Core.Logic.{◌⊎◌, inl, inr, ⊎_elim}
use mathlib.Core.Bool.{Bool, true, false, cond}
use mathlib.Core.List.{List, [], ◌∷◌, ◌++◌, map, append-nil}
use native.Mathlib.Omega.{arith}
use lib.Dec.{eqb, ltb, leb}
use lib.ListN.{length, replicate, length-append, length-map, length-replicate}
use borrow.Author.Tests.{eqb-true, leb-true, lt-ltb}
use Rattle.rules.specs.Base.{all_is, sum, All, none, one, Bytes}
use Rattle.rules.specs.Systems.{System, hd1080-60i, hd1080-50i, hd720-60p, known, system}
use Rattle.rules.specs.Packet.{sound, Packet}
use Rattle.rules.specs.Danc.{Item, Good, written, packets_of, string, string_byte_count}
use Rattle.rules.specs.Sheet.{limit, sheet_of}
use Rattle.rules.specs.Blocks.{block_start, shift, width, runs, block_sizes, area_size, user_bytes_in, scatter}
use Rattle.rules.specs.Packing1.{flat, fives, packs_of}
use Rattle.rules.specs.Packing2.{fill, long_packs, opened, open_long, string_room}
use Rattle.rules.specs.Packings.{capacity, needed, fits}
use Rattle.rules.specs.Numbers.{Outcome, listed, refused, unless, and_then, packets_in}
use Rattle.rules.specs.Reading.{string_ends, string_row, pack_row, packets_of_user_bytes, packing_found, reading, read_back_of, read}
use Rattle.rules.specs.Demands.{Reads}
use Rattle.rules.specs.declared.ReadBack.{ReadBack}
use Rattle.rules.proofs.Basics.{never, second-false}
use Rattle.rules.proofs.Lines.{allowed-none}
use Rattle.rules.proofs.Strings.{string-room, string-over-read, string-over-laid}
use Rattle.rules.proofs.Packs.{flat-fives, flat-length, packs-least, packs-over}
use Rattle.rules.proofs.Long.{long-length, long-read, opened-first, opened-room, long-bytes}
use Rattle.rules.proofs.Blocks.{gather-length, gather-bytes, scatter-length, gather-scatter, from-test, facts-of}
use Rattle.rules.proofs.Users.{users-refusal}
use Rattle.rules.proofs.Reading.{reading-is}

-- ---- what the blocks hold

-- the blocks of a frame y, that of system sys: each has 45 user bytes or more; together they have no more than 1,872 packs of 5; and their
-- string bytes are 8,928 in system 2, and no more than 7,440 in any other
record Holds (sys : ℕ) (y : System) : Type 0 where
  pub blocks : All (λ (n : ℕ). 45 ≤ n) (block_sizes y)
  pub packs : sum (block_sizes y) ≤ 5 * 1872
  pub bytes : ((sys ≡ 2) × (string_room (block_sizes y) ≡ 8928)) ⊎ (string_room (block_sizes y) ≤ 7440)

-- computed with ten sequences per channel, whatever the last line
holds10 : (sys line : ℕ) → Holds sys (record { sequences = 10; last = line })
unfolding runs block_start shift width
holds10 sys line =
    let ns : List ℕ = block_sizes (record { sequences = 10; last = line }) in
    record { blocks = from-test 45 ns refl; packs = leb-true (sum ns) 9360 refl; bytes = inr (leb-true (string_room ns) 7440 refl) }

-- "8,928 bytes": the string bytes with twelve
room12 : string_room (block_sizes hd1080-50i) ≡ 8928
unfolding runs block_start shift width
room12 = refl

-- with twelve, which system 2 alone has
holds12 : (sys : ℕ) → sys ≡ 2 → Holds sys hd1080-50i
unfolding runs block_start shift width
holds12 sys e =
    let ns : List ℕ = block_sizes hd1080-50i in
    record { blocks = from-test 45 ns refl; packs = leb-true (sum ns) 9360 refl; bytes = inl (e, room12) }

-- so of the frame of any number
holds : (sys : ℕ) → Holds sys (system sys)
unfolding system runs
holds sys = go (eqb sys 1) (eqb sys 2) refl (eqb sys 3)
  where
    go : (a b : Bool) → eqb sys 2 ≡ b → (c : Bool)
        → Holds sys (cond a hd1080-60i (cond b hd1080-50i (cond c hd720-60p (record { sequences = 0; last = 0 }))))
    go true b q c = holds10 sys 1125
    go false true q c = holds12 sys (eqb-true sys 2 q)
    go false false q true = holds10 sys 750
    go false false q false = record { blocks = none; packs = omega arith; bytes = inr (omega arith) }

-- ---- no list that fits reaches 1,276 packets

-- the user bytes of all packets
abbrev pub user_count : List Packet → ℕ
user_count ps = sum (map (λ (p : Packet). length p.user) ps)

-- a packet's other string bytes are seven
string-users : (ps : List Packet) → string_byte_count ps ≡ user_count ps + 7 * length ps
string-users [] = refl
string-users (p ∷ ps) = let k = string-users ps in omega arith

-- the string of items has so many bytes
string_bytes : (xs : List Item) → length (string xs) ≡ user_count (packets_of xs) + 7 * length xs
string_bytes xs =
    let a = string-room xs in
    let b = string-users (packets_of xs) in
    let c = length-map xs (λ (x : Item). x.packet) in
    omega arith

-- "no list that fits reaches 1,276 packets", in either packing
pub fits-few : (sys k : ℕ) (ps : List Packet) → fits k (block_sizes (system sys)) ps ≡ true → length ps ≤ limit
unfolding limit needed capacity
fits-few sys k ps e = go (eqb k 1) (leb-true (needed k ps) (capacity k ns) e)
  where
    ns : List ℕ
    ns = block_sizes (system sys)

    go : (t : Bool) → cond t (sum (map packs_of ps)) (string_byte_count ps) ≤ cond t (sum ns / 5) (string_room ns) → length ps ≤ 1275
    go true h = let l = packs-least ps in let m = (holds sys).packs in omega arith
    go false h =
        let l = string-users ps in
        ⊎_elim (λ w. let m = w.1 in omega arith) (λ w. omega arith) (holds sys).bytes

-- ---- where 5 occurs

-- 1,275 packets in the long packs of system 2; their user bytes and the bytes that remain are three together, and what remains is not all
-- FFh. The packet refused would be the 1,276th: counted from 0, its number is the limit
pub record FiveAt (sys : ℕ) (area : List ℕ) (i : ℕ) : Type 0 where
  pub two : sys ≡ 2
  pub place : i ≡ limit
  pub packing : packing_found (user_bytes_in (system sys) area) ≡ 2
  pub items : List Item
  pub tail : List ℕ
  pub room : ℕ
  pub opens : open_long (block_sizes (system sys)) (user_bytes_in (system sys) area) ≡ opened (string items ++ tail) room
  pub good : All (Good (system sys)) items
  pub many : length items ≡ limit
  pub three : user_count (packets_of items) + length tail ≡ 3
  pub remains : all_is 0xFF tail ≡ false

-- so the packets have at most two user bytes together, and one to three bytes remain
pub five-small : (sys : ℕ) (area : List ℕ) (i : ℕ) (f : FiveAt sys area i)
    → (user_count (packets_of f.items) ≤ 2) × (1 ≤ length f.tail) × (length f.tail ≤ 3)
five-small sys area i f = let a = f.three in let b = some f.tail f.remains in (omega arith, b, omega arith)
  where
    some : (s : List ℕ) → all_is 0xFF s ≡ false → 1 ≤ length s
    some [] e = never (cc)
    some (x ∷ s) e = omega arith

-- an area of a known system's size
module _ (sys : ℕ) (k : known sys ≡ true) (area : List ℕ) (l : length area ≡ area_size (system sys)) where
  abbrev y : System
  y = system sys

  abbrev ns : List ℕ
  ns = block_sizes y

  abbrev ub : List ℕ
  ub = user_bytes_in y area

  -- it gives as many user bytes as its blocks hold
  ub-length : length ub ≡ sum ns
  ub-length = gather-length (area_size y) (runs y) area (facts-of sys k).within l

  -- a string with room for so many packets fills the blocks of system 2
  string-full : (t : List ℕ) (room : ℕ) → open_long ns ub ≡ opened t room → 7 * limit ≤ length t → (sys ≡ 2) × (length t ≡ 8928) × (42 ≤ room)
  unfolding limit
  string-full t room o h =
      let w = opened-room 42 ns ub t room (holds sys).blocks ub-length o in
      ⊎_elim
      (λ v. let r = v.1 in (v.0, ⊎_elim (λ e. e ∙ r) (λ e. absurd (omega arith)) w.2, w.0))
      (λ v. absurd (⊎_elim (λ e. omega arith) (λ e. omega arith) w.2))
      (holds sys).bytes

  module _ (b : Bytes area) (i : ℕ) where
    -- packs of 5 have no room for so many packets
    not-packs : packets_in (pack_row y) limit 0 (fives ub) ≡ refused 5 i → ⊥
    unfolding limit
    not-packs e =
        let f = facts-of sys k in
        let q : flat (fives ub) ≡ ub = flat-fives f.packs ub (ub-length ∙ f.whole) in
        let a = packs-over y limit 0 (fives ub) i (subst Bytes (sym q) (gather-bytes (runs y) area b)) e in
        let c : length ub ≡ 5 * length (fives ub) = ap length (sym q) ∙ flat-length (fives ub) in
        let d = ub-length in
        let m = (holds sys).packs in
        omega arith

    -- behind so many packets fewer bytes remain than the last pack holds, so they are no end only because they are not all FFh
    in-string : (t : List ℕ) (room : ℕ) → open_long ns ub ≡ opened t room → packets_in (string_row y room) limit 0 t ≡ refused 5 i → FiveAt sys area i
    unfolding limit string_row string_ends
    in-string t room o e =
        let w = string-over-laid y room limit 0 t i (long-bytes ns ub t room (facts-of sys k).roomy (gather-bytes (runs y) area b) o) e in
        let xs : List Item = w.1.items in
        let tail : List ℕ = w.1.tail in
        let a : length t ≡ length (string xs) + length tail = ap length w.1.whole ∙ length-append (string xs) tail in
        let c = string_bytes xs in
        let d = w.2 in
        let f = string-full t room o (omega arith) in
        let g = f.1 in
        let h = f.2 in
        record {
          two = f.0;
          place = w.3;
          packing = rw (opened-first ns ub t room o);
          items = xs;
          tail = tail;
          room = room;
          opens = o ∙ ap (λ (s : List ℕ). opened s room) w.1.whole;
          good = w.1.good;
          many = w.2;
          three = omega arith;
          remains = rw (lt-ltb (length tail) room (omega arith)) at w.1.ends;
        }

    -- user bytes are refused with 5 nowhere else
    users-five : packets_of_user_bytes y ns ub ≡ refused 5 i → FiveAt sys area i
    users-five e =
        ⊎_elim (λ z. absurd (omega arith))
        (⊎_elim (λ q. absurd (not-packs q)) (λ w. in-string w.0 w.1 w.2 w.3))
        (users-refusal y ns ub 5 i e)

  -- and there they are
  five-users : (i : ℕ) → FiveAt sys area i → packets_of_user_bytes y ns ub ≡ refused 5 limit
  unfolding limit packets_of_user_bytes string_ends
  five-users i f =
      rw (opened-first ns ub (string f.items ++ f.tail) f.room f.opens, f.opens)
      (subst (λ (n : ℕ). packets_in (string_row y f.room) n 0 (string f.items ++ f.tail) ≡ refused 5 (0 + n)) f.many
      (string-over-read y (facts-of sys k).last f.room 0 f.items f.tail f.good
      (second-false (ltb (length f.tail) f.room) (all_is 0xFF f.tail) f.remains)))

-- a refusal with another number than a test's comes behind the test
unless-passed : (m : ℕ) (t : Bool) (o : Outcome) (n i : ℕ) → (m ≡ n → ⊥) → unless m t o ≡ refused n i → (t ≡ true) × (o ≡ refused n i)
unless-passed m true o n i h e = (refl, e)
unless-passed m false o n i h e = absurd (h (cc))

-- reading refuses with 5 an area of a known system's size whose user bytes are refused so, and no other
reading-five : (sys : ℕ) (area : List ℕ) (room i : ℕ) → reading sys area room ≡ refused 5 i
    → (known sys ≡ true) × (length area ≡ area_size (system sys))
    × (packets_of_user_bytes (system sys) (block_sizes (system sys)) (user_bytes_in (system sys) area) ≡ refused 5 i)
unfolding reading
reading-five sys area room i e =
    let v = unless-passed 3 (known sys) _ 5 i (λ z. omega arith) e in
    let w = unless-passed 4 (eqb (length area) (area_size (system sys))) _ 5 i (λ z. omega arith) v.1 in
    (v.0, eqb-true (length area) (area_size (system sys)) w.0, from-users _ w.1)
  where
    from-users : (o : Outcome)
        → and_then o (λ (ps : List Packet). unless 17 (leb (length (sheet_of sys ps)) room) (listed ps)) ≡ refused 5 i → o ≡ refused 5 i
    from-users (refused n j) e = e
    from-users (listed ps) e = (unless-passed 17 (leb (length (sheet_of sys ps)) room) (listed ps) 5 i (λ z. omega arith) e).1

-- "say where 5 can still occur": reading gives 5 nowhere else
pub five-where : (sys : ℕ) (area sheet : List ℕ) (r : ReadBack) (after : List ℕ) → Bytes area → Reads sys area sheet r after → r.number ≡ 5
    → FiveAt sys area r.place
unfolding read
five-where sys area sheet r after b d n = go (reading sys area (length sheet)) refl d.answer
  where
    go : (o : Outcome) → reading sys area (length sheet) ≡ o → r ≡ read_back_of sys (packing_found (user_bytes_in (system sys) area)) o
        → FiveAt sys area r.place
    go (listed ps) q e = let z : r.number ≡ 0 = ap (λ (x : ReadBack). x.number) e in absurd (omega arith)
    go (refused m i) q e =
        let z : m ≡ 5 = sym (ap (λ (x : ReadBack). x.number) e) ∙ n in
        let w = reading-five sys area (length sheet) i (q ∙ ap (λ (j : ℕ). refused j i) z) in
        subst (FiveAt sys area) (sym (ap (λ (x : ReadBack). x.place) e)) (users-five sys w.0 area w.1 b i w.2)

-- and it gives 5 there
pub five-there : (sys : ℕ) (area sheet : List ℕ) (r : ReadBack) (after : List ℕ) (i : ℕ) → FiveAt sys area i → length area ≡ area_size (system sys)
    → Reads sys area sheet r after → (r.number ≡ 5) × (r.place ≡ limit)
unfolding known read
five-there sys area sheet r after i f l d =
    let k : known sys ≡ true = subst (λ (n : ℕ). known n ≡ true) (sym f.two) refl in
    let e : r ≡ record { number = 5; place = limit; packing = 0; packets = 0; numbers = 0 } =
    d.answer ∙ rw (reading-is sys k area l (length sheet), five-users sys k area l i f) in
    (ap (λ (x : ReadBack). x.number) e, ap (λ (x : ReadBack). x.place) e)

-- and there are such areas: any area of system 2, with the string of any such packets, and any such bytes behind it, laid in its long packs
pub five-laid : (xs : List Item) (tail area : List ℕ) → All (Good (system 2)) xs → length xs ≡ limit → user_count (packets_of xs) + length tail ≡ 3
    → all_is 0xFF tail ≡ false → length area ≡ area_size (system 2)
    → FiveAt 2 (scatter (runs (system 2)) (long_packs (block_sizes (system 2)) [] (string xs ++ tail)) area) limit
unfolding known system limit
five-laid xs tail area g many three e l =
    let f = facts-of 2 refl in
    let a : length (string xs ++ tail) ≡ 8928 = let b = string_bytes xs in let c = length-append (string xs) tail in omega arith in
    let r : string_room ns ≡ 8928 = room12 in
    let o = long-read ns [] (string xs ++ tail) f.roomy (omega arith) (omega arith) in
    let us = long-length ns [] (string xs ++ tail) f.roomy in
    let w = opened-room 42 ns laid ((string xs ++ tail) ++ fill o.over) o.last (holds 2).blocks us o.is in
    let z : o.over ≡ 0 =
    let h = length-append (string xs ++ tail) (fill o.over) in
    let j : length (fill o.over) ≡ o.over = length-replicate o.over 0xFF in
    ⊎_elim (λ q. omega arith) (λ q. omega arith) w.2 in
    let u : user_bytes_in y (scatter (runs y) laid area) ≡ laid = gather-scatter (area_size y) (runs y) laid area f.within f.apart us l in
    let p : open_long ns laid ≡ opened (string xs ++ tail) o.last =
    o.is ∙ ap (λ (s : List ℕ). opened s o.last) (ap (λ (n : ℕ). (string xs ++ tail) ++ fill n) z ∙ append-nil (string xs ++ tail)) in
    record {
      two = refl;
      place = refl;
      packing = rw (u, opened-first ns laid (string xs ++ tail) o.last p);
      items = xs;
      tail = tail;
      room = o.last;
      opens = ap (open_long ns) u ∙ p;
      good = g;
      many = many;
      three = three;
      remains = e;
    }
  where
    y : System
    y = system 2

    ns : List ℕ
    ns = block_sizes y

    laid : List ℕ
    laid = long_packs ns [] (string xs ++ tail)

-- the packets need not be without user bytes: in some area one of the 1,275 has one, and the two bytes that remain are 00h
pub five-user : (area : List ℕ) → length area ≡ area_size (system 2)
    → (after : List ℕ) × (length after ≡ area_size (system 2)) × (f : FiveAt 2 after limit) × (user_count (packets_of f.items) ≡ 1)
unfolding known limit five-laid
five-user area l =
    let u = no-users 1274 in
    let f = facts-of 2 refl in
    let us : List ℕ = long_packs (block_sizes (system 2)) [] (string cues ++ (0 ∷ 0 ∷ [])) in
    let n = long-length (block_sizes (system 2)) [] (string cues ++ (0 ∷ 0 ∷ [])) f.roomy in (
      scatter (runs (system 2)) us area,
      scatter-length (area_size (system 2)) (runs (system 2)) us area f.within (omega arith) l,
      five-laid cues (0 ∷ 0 ∷ []) area (one (good (0 ∷ []) (omega arith) few) (all-good 1274)) (ap suc (length-replicate 1274 (cue [])))
          (omega arith) refl l,
      omega arith,
    )
  where
    cue : List ℕ → Item
    cue user = written (record { did = 0x61; sdid = 0x01; user = user; line = 0; flags = 0; mark = sound })

    cues : List Item
    cues = cue (0 ∷ []) ∷ replicate 1274 (cue [])

    few : Bytes (0 ∷ [])
    few zero = omega arith
    few (suc i) = omega arith

    good : (user : List ℕ) → length user < 256 → Bytes user → Good (system 2) (cue user)
    good user m b =
        record {
          sound =
              record { did = omega arith; sdid = omega arith; many = m; user = b; line = allowed-none (system 2); flags = omega arith; mark = refl };
          bits = omega arith;
          third = omega arith;
          junk = omega arith;
          starter = omega arith;
        }

    all-good : (n : ℕ) → All (Good (system 2)) (replicate n (cue []))
    all-good zero = none
    all-good (suc n) = one (good [] (omega arith) (λ i. omega arith)) (all-good n)

    no-users : (n : ℕ) → user_count (packets_of (replicate n (cue []))) ≡ 0
    no-users zero = refl
    no-users (suc n) = let k = no-users n in omega arith

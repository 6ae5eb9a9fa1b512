-- Packets as found (document 02, A13): how they are laid, and how their sheet is read as found.
--
-- In order: laying: "laying an as-found packet gives 8 or 10 as its words deserve, and one without a fault is laid as sound" (`found-sheet`,
-- `found-laying`); reading: the words of a packet, of a list, the sheet of a list (`found-read`, `found-made`, `found-unique`, `found-refused`).
-- Assumes nothing.
use Prim.Native.Nat.{ℕ, zero, suc, ◌+◌, ◌*◌, ◌/◌, ◌%◌, ◌≤◌, ◌<◌}
use mathlib.Core.Path.{◌≡◌, refl, sym, ap, ap₂, ◌∙◌}
use mathlib.Core.Logic.{◌⊎◌, inl, inr}
use mathlib.Core.Bool.{Bool, true, false, cond, not, ◌&&◌, ◌||◌, and_assoc}
use mathlib.Core.List.{List, [], ◌∷◌, ◌++◌, map}
use native.Mathlib.Nat.{zero-add}
use native.Mathlib.Omega.{arith}
use lib.Dec.{eqb, ltb}
use lib.ListN.{length, get_or, take, drop, length-map}
use lib.Seq.{get_or-drop, take_at}
use borrow.Author.Tests.{leb-true, ltb-false, le-ltb, le-leb, eq-eqb, ne_eqb}
use Rattle.rules.specs.Base.{Bytes, All, none, one}
use Rattle.rules.specs.Systems.{System, known, system, allowed}
use Rattle.rules.specs.Packet.{Mark, sound, found, Packet, body, check, raised, coded_as, check_as, coded, check_of, words, Sound, as_sound, Found}
use Rattle.rules.specs.Danc.{bytes_of}
use Rattle.rules.specs.Sheet.{limit, locations, all_words, sheet_of, system_in, words_in}
use Rattle.rules.specs.Blocks.{area_size}
use Rattle.rules.specs.Packings.{is_packing}
use Rattle.rules.specs.Numbers.{Outcome, listed, refused, also, packets_in}
use Rattle.rules.specs.Laying.{are_words, flagged, low, dc_in, words_fault, packet_of_words, word_row, packets_of_words}
use Rattle.rules.specs.Laying.{from_packet, list_tests, laying, lay, area_after}
use Rattle.rules.specs.Found.{is_ten, are_ten, found_fault, high, found_of_words, found_row, packets_found, found_tests, SheetFound}
use Rattle.rules.specs.Demands.{SheetOf}
use Rattle.rules.proofs.Basics.{both, all_give}
use Rattle.rules.proofs.Lines.{allowed-none}
use Rattle.rules.proofs.Rows.{row-enough, row-fault}
use Rattle.rules.proofs.Words.{bare, bares, body_bytes, coded-low, dc-low, packet-words, few_words, words-uncut}
use Rattle.rules.proofs.Words.{words_long, coded-taken, check-taken, rest-taken, passed, front-split, words-made, body-shown, shown-sound}
use Rattle.rules.proofs.Words.{WordsBy, row-words-read, row-words-laid, row-words-shrink, fault-one-of, fault-long-by}
use Rattle.rules.proofs.Sheets.{moved, Placed, Reader, SheetBy, sound-moved, system-back, words_back, shaped-back, list-placed}
use Rattle.rules.proofs.Sheets.{sheet-read-by, sheet-laid-by, sheet-unique-by, sheet-refused-by}

-- ---- laying: one packet

-- a packet that is sound but for its mark
abbrev pub Carried : System → Packet → Type 0
Carried y p = Sound y (as_sound p)

-- its words, and what follows
module _ (y : System) (p : Packet) (r : List ℕ) (g : Carried y p) where
  abbrev s : List ℕ
  s = words p ++ r

  dc-is : dc_in s ≡ length p.user
  dc-is = dc-low p r g.many

  long : dc_in s + 7 ≤ length s
  long = let d = dc-is in let l = words_long p r in omega arith

  carried-goes : word_row.ends s ≡ false
  unfolding word_row words
  carried-goes = refl

  carried-rest : word_row.rest s ≡ r
  unfolding word_row
  carried-rest = rest-taken p r g.many

  -- 7 and 9 are never given
  carried-fault : (words_fault s ≡ 0) ⊎ ((words_fault s ≡ 8) ⊎ (words_fault s ≡ 10))
  unfolding words_fault words
  carried-fault =
      let l = words_long p r in
      let seven : (ltb (length s) 7 || not (flagged s)) ≡ false = rw (le-ltb (length s) 7 (omega arith)) in
      let nine : ltb (length s) (dc_in s + 7) ≡ false = le-ltb (length s) (dc_in s + 7) long in
      rw (seven, nine)
      (go (not (are_words (take 3 (drop 3 s)))) (not (are_words (take (dc_in s) (drop 6 s))))
      (not (eqb (get_or s (dc_in s + 6) 0) (check (take (dc_in s + 3) (drop 3 s))))))
    where
      told : Bool → Bool → Bool → ℕ
      told b d e = cond b 8 (cond d 8 (cond e 10 0))

      go : (b d e : Bool) → (told b d e ≡ 0) ⊎ ((told b d e ≡ 8) ⊎ (told b d e ≡ 10))
      go true d e = inr (inl refl)
      go false true e = inr (inl refl)
      go false false true = inr (inr refl)
      go false false false = inl refl

  low-shown : body (packet_of_words s) ≡ body p
  low-shown =
      body-shown s long
      ∙ ap (λ (n : ℕ). map low (take (n + 3) (drop 3 s))) dc-is
      ∙ ap (map low) (coded-taken p r)
      ∙ coded-low p (body_bytes y (as_sound p) g)

  -- its low bytes are shown
  carried-shown : packet_of_words s ≡ bare (as_sound p)
  carried-shown i =
      record {
        did = ap (λ (b : List ℕ). get_or b 0 0) low-shown i;
        sdid = ap (λ (b : List ℕ). get_or b 1 0) low-shown i;
        user = ap (drop 3) low-shown i;
        line = 0;
        flags = 0;
        mark = sound;
      }

  -- without a fault its words are those of the same packet marked sound
  carried-fine : words_fault s ≡ 0 → words p ≡ words (as_sound p)
  unfolding word_row words coded check_of
  carried-fine e =
      let w = words-uncut y s tt e in
      let b : words w.0 ≡ words (as_sound p) = ap words (w.1 ∙ carried-shown) in
      let whole : s ≡ words (as_sound p) ++ drop (dc_in s + 7) s = w.2 ∙ ap (λ (t : List ℕ). t ++ drop (dc_in s + 7) s) b in
      sym (take_at (words p) r (bytes_of p) (packet-words p))
      ∙ ap (take (bytes_of p)) whole
      ∙ take_at (words (as_sound p)) (drop (dc_in s + 7) s) (bytes_of p) (packet-words (as_sound p))

-- ---- laying: a list

-- a refusal with 8 or 10, at one of the packets of these words, the first of them number i: its own first fault
pub record EightOrTen (i : ℕ) (ws : List ℕ) (o : Outcome) : Type 0 where
  pub number : ℕ
  pub packet : ℕ
  pub refuses : o ≡ refused number (i + packet)
  pub deserved : number ≡ words_fault (from_packet packet ws)
  pub either : (number ≡ 8) ⊎ (number ≡ 10)

-- its words are those of a sound list, or it is refused with 8 or 10
carried-words : (y : System) (ps : List Packet) (left i : ℕ) → All (Carried y) ps → length ps ≤ left
    → (all_words ps ≡ all_words (map as_sound ps)) ⊎ EightOrTen i (all_words ps) (packets_in word_row left i (all_words ps))
unfolding word_row
carried-words y [] left i g few = inl refl
carried-words y (p ∷ ps) zero i g few = absurd (omega arith)
carried-words y (p ∷ ps) (suc left) i (one g gs) few =
    rw (carried-goes y p r g, carried-rest y p r g)
    (turn (word_row.fault (words p ++ r)) refl (carried-fault y p r g) (carried-words y ps left (suc i) gs (omega arith)))
  where
    r : List ℕ
    r = all_words ps

    not-zero : (f : ℕ) → ((f ≡ 8) ⊎ (f ≡ 10)) → f ≡ 0 → ⊥
    not-zero f (inl h) z = omega arith
    not-zero f (inr h) z = omega arith

    turn : (f : ℕ) → word_row.fault (words p ++ r) ≡ f → ((f ≡ 0) ⊎ ((f ≡ 8) ⊎ (f ≡ 10)))
        → ((r ≡ all_words (map as_sound ps)) ⊎ EightOrTen (suc i) r (packets_in word_row left (suc i) r))
        → (words p ++ r ≡ all_words (map as_sound (p ∷ ps)))
        ⊎ EightOrTen i (words p ++ r) (cond (eqb f 0) (also (word_row.packet (words p ++ r)) (packets_in word_row left (suc i) r)) (refused f i))
    turn f q (inr h) ih =
        let e : i ≡ i + 0 = omega arith in
        inr (record { number = f; packet = 0; refuses = rw (ne_eqb f 0 (not-zero f h)) (ap (refused f) e); deserved = sym q; either = h })
    turn f q (inl z) (inl w) = inl (ap₂ (λ (a b : List ℕ). a ++ b) (carried-fine y p r g (q ∙ z)) w)
    turn f q (inl z) (inr w) =
        let e : suc i + w.packet ≡ i + suc w.packet = omega arith in
        inr (record {
          number = w.number;
          packet = suc w.packet;
          refuses = rw (z, w.refuses) (ap (refused w.number) e);
          deserved = w.deserved ∙ ap (λ (t : List ℕ). words_fault (from_packet w.packet t)) (sym (carried-rest y p r g));
          either = w.either;
        })

-- ---- laying: its sheet

same-locations : (ps : List Packet) → locations ps ≡ locations (map as_sound ps)
same-locations [] = refl
same-locations (p ∷ ps) = ap (λ (t : List ℕ). p.line ∷ p.flags ∷ t) (same-locations ps)

same-sheet : (sys : ℕ) (ps : List Packet) → all_words ps ≡ all_words (map as_sound ps) → sheet_of sys ps ≡ sheet_of sys (map as_sound ps)
unfolding sheet_of
same-sheet sys ps w i = (1 ∷ sys ∷ sym (length-map ps as_sound) i ∷ same-locations ps i) ++ length (w i) ∷ w i

all_sound : (y : System) (ps : List Packet) → All (Carried y) ps → All (Sound y) (map as_sound ps)
all_sound y [] g = none
all_sound y (p ∷ ps) (one g gs) = one g (all_sound y ps gs)

-- the sheet of a list that is sound but for its marks is the sheet of the same list marked sound, or its tests refuse it with 8 or 10
pub found-sheet : (sys : ℕ) (ps : List Packet) → known sys ≡ true → length ps ≤ limit → All (Carried (system sys)) ps
    → SheetOf sys (map as_sound ps) (sheet_of sys ps) ⊎ EightOrTen 0 (all_words ps) (list_tests (system sys) (sheet_of sys ps))
unfolding list_tests packets_of_words
found-sheet sys ps k few g = go (carried-words y ps (length (all_words ps)) 0 g (few_words ps))
  where
    y : System
    y = system sys

    go : ((all_words ps ≡ all_words (map as_sound ps)) ⊎ EightOrTen 0 (all_words ps) (packets_of_words (all_words ps)))
        → SheetOf sys (map as_sound ps) (sheet_of sys ps) ⊎ EightOrTen 0 (all_words ps) (list_tests y (sheet_of sys ps))
    go (inl w) =
        inl (record { known = k; few = let e = length-map ps as_sound in omega arith; sound = all_sound y ps g; whole = same-sheet sys ps w })
    go (inr w) =
        let placed = all_give (Carried y) (Placed y) (λ p h. record { line = h.line; flags = h.flags }) ps g in
        inr (record {
          number = w.number;
          packet = w.packet;
          refuses = list-placed sys ps packets_of_words y placed few ∙ rw w.refuses;
          deserved = w.deserved;
          either = w.either;
        })

-- a refusal of laying with 8 or 10: number and packet are given back, and the area is as it was
pub record Undone (k : ℕ) (s area : List ℕ) : Type 0 where
  pub outcome : EightOrTen 0 (words_in s) (laying k s area)
  pub number : (lay k s area).number ≡ outcome.number
  pub place : (lay k s area).place ≡ outcome.packet
  pub kept : area_after k s area ≡ area

-- "laying an as-found packet gives 8 or 10 as its words deserve, and one without a fault is laid as sound": of the sheet of a list as found
-- that is the sheet of the same list marked sound, the contract of laying (`Lays`, demand 2) speaks
pub found-laying : (k sys : ℕ) (ps : List Packet) (area : List ℕ) → is_packing k ≡ true → known sys ≡ true → length ps ≤ limit
    → All (Found (system sys)) ps → length area ≡ area_size (system sys)
    → SheetOf sys (map as_sound ps) (sheet_of sys ps) ⊎ Undone k (sheet_of sys ps) area
unfolding laying lay area_after
found-laying k sys ps area p n few g own = go (found-sheet sys ps n few (all_give (Found y) (Carried y) (λ x h. h.within) ps g))
  where
    y : System
    y = system sys

    go : SheetOf sys (map as_sound ps) (sheet_of sys ps) ⊎ EightOrTen 0 (all_words ps) (list_tests y (sheet_of sys ps))
        → SheetOf sys (map as_sound ps) (sheet_of sys ps) ⊎ Undone k (sheet_of sys ps) area
    go (inl w) = inl w
    go (inr w) =
        let e : laying k (sheet_of sys ps) area ≡ refused w.number (0 + w.packet) =
        rw (p, shaped-back sys ps, system-back sys ps, n, eq-eqb (length area) (area_size y) own, w.refuses) in
        inr (record {
          outcome =
              record {
                number = w.number;
                packet = w.packet;
                refuses = e;
                deserved = w.deserved ∙ ap (λ (t : List ℕ). words_fault (from_packet w.packet t)) (sym (words_back sys ps));
                either = w.either;
              };
          number = rw e;
          place = rw e (zero-add w.packet);
          kept = rw e;
        })

-- ---- reading: ten-bit words

-- words from their low bytes and what they have above
raised-back : (ws : List ℕ) → raised (map high ws) (map low ws) ≡ ws
raised-back [] = refl
raised-back (w ∷ ws) = let e : w % 256 + 256 * (w / 256) ≡ w = omega arith in ap₂ (λ (x : ℕ) (t : List ℕ). x ∷ t) e (raised-back ws)

high-back : (us bs : List ℕ) → Bytes bs → length us ≡ length bs → map high (raised us bs) ≡ us
high-back [] [] h l = refl
high-back [] (b ∷ bs) h l = absurd (omega arith)
high-back (u ∷ us) [] h l = absurd (omega arith)
high-back (u ∷ us) (b ∷ bs) h l =
    let e : (b + 256 * u) / 256 ≡ u = let k = h 0 in omega arith in
    ap₂ (λ (x : ℕ) (t : List ℕ). x ∷ t) e (high-back us bs (λ i. h (suc i)) (omega arith))

raised-ten : (us bs : List ℕ) → Bytes bs → ((i : ℕ) → get_or us i 0 < 4) → are_ten (raised us bs) ≡ true
raised-ten us [] h k = refl
raised-ten us (b ∷ bs) h k =
    rw (le-leb (b + 256 * get_or us 0 0) 0x3FF (let x = h 0 in let z = k 0 in omega arith))
    (raised-ten (drop 1 us) bs (λ i. h (suc i)) (λ i. let e = get_or-drop 1 us i 0 in let z = k (1 + i) in omega arith))

high-two : (ws : List ℕ) → are_ten ws ≡ true → (i : ℕ) → get_or (map high ws) i 0 < 4
high-two [] e i = omega arith
high-two (w ∷ ws) e zero = let l = leb-true w 0x3FF (both (is_ten w) (are_ten ws) e).0 in omega arith
high-two (w ∷ ws) e (suc i) = high-two ws (both (is_ten w) (are_ten ws) e).1 i

pub ten-append : (vs ws : List ℕ) → are_ten (vs ++ ws) ≡ (are_ten vs && are_ten ws)
ten-append [] ws = refl
ten-append (v ∷ vs) ws = rw (ten-append vs ws) (sym (and_assoc (is_ten v) (are_ten vs) (are_ten ws)))

-- the words from DID to the last user word are tested in two parts
pub ten-parts : (n : ℕ) (s : List ℕ) → are_ten (take (n + 3) (drop 3 s)) ≡ (are_ten (take 3 (drop 3 s)) && are_ten (take n (drop 6 s)))
ten-parts n s = ap are_ten (front-split n s) ∙ ten-append (take 3 (drop 3 s)) (take n (drop 6 s))

-- ---- reading: one packet

-- the words of a packet as found, and what follows
module _ (y : System) (p : Packet) (r : List ℕ) (g : Found y p) where
  abbrev v : List ℕ
  v = words p ++ r

  bytes : Bytes (body p)
  bytes = body_bytes y (as_sound p) g.within

  coded-found : coded p ≡ raised g.above (body p)
  unfolding coded
  coded-found = ap (λ (m : Mark). coded_as m (body p)) g.mark

  check-found : check_of p ≡ g.cs
  unfolding check_of
  check-found = ap (λ (m : Mark). check_as m (coded p)) g.mark

  dc-found : dc_in v ≡ length p.user
  dc-found = dc-low p r g.within.many

  front-found : take (dc_in v + 3) (drop 3 v) ≡ coded p
  front-found = ap (λ (n : ℕ). take (n + 3) (drop 3 v)) dc-found ∙ coded-taken p r

  last_found : get_or v (dc_in v + 6) 0 ≡ g.cs
  last_found = ap (λ (n : ℕ). get_or v (n + 6) 0) dc-found ∙ check-taken p r ∙ check-found

  -- they are taken for that packet
  pub found_back : found_of_words v ≡ bare p
  found_back =
      let q = carried-shown y p r g.within in
      let us : map high (take (dc_in v + 3) (drop 3 v)) ≡ g.above =
      ap (map high) (front-found ∙ coded-found) ∙ high-back g.above (body p) bytes g.each in
      let m : found (map high (take (dc_in v + 3) (drop 3 v))) (get_or v (dc_in v + 6) 0) ≡ p.mark =
      (λ i. found (us i) (last_found i)) ∙ sym g.mark in
      λ i. record { did = (q i).did; sdid = (q i).sdid; user = (q i).user; line = 0; flags = 0; mark = m i }

  -- none of them has a fault
  pub found-fine : found_fault v ≡ 0
  unfolding found_fault words
  found-fine =
      let l = words_long p r in
      let d = dc-found in
      let t : are_ten (take (dc_in v + 3) (drop 3 v)) ≡ true = rw (front-found, coded-found) (raised-ten g.above (body p) bytes g.two) in
      let w = both (are_ten (take 3 (drop 3 v))) (are_ten (take (dc_in v) (drop 6 v))) (sym (ten-parts (dc_in v) v) ∙ t) in
      let c : is_ten (get_or v (dc_in v + 6) 0) ≡ true = rw last_found (let k = g.ten in le-leb g.cs 0x3FF (omega arith)) in
      rw (le-ltb (length v) 7 (omega arith), w.0, le-ltb (length v) (dc_in v + 7) (omega arith), w.1, c)

  -- and what follows is left
  pub found-rest : drop (dc_in v + 7) v ≡ r
  found-rest = rest-taken p r g.within.many

  found-goes : found_row.ends v ≡ false
  unfolding found_row words
  found-goes = refl

-- words behind the flag, all of them there, are those of the packet that they are taken for
pub found-whole : (s : List ℕ) → flagged s ≡ true → dc_in s + 7 ≤ length s → s ≡ words (found_of_words s) ++ drop (dc_in s + 7) s
unfolding coded check_of
found-whole s f long =
    let t : List ℕ = take (dc_in s + 3) (drop 3 s) in
    words-made (found_of_words s) (dc_in s) s f long (ap (raised (map high t)) (body-shown s long) ∙ raised-back t) refl

-- a front without a fault is the words of a packet as found, whatever the system, since it is on no line
pub found-uncut : (y : System) (s : List ℕ) → Unit {0} → found_row.fault s ≡ 0
    → (x : Packet) × (bare x ≡ found_row.packet s) × (s ≡ words x ++ found_row.rest s) × Found y x
unfolding found_row found_fault
found-uncut y s h q =
    let t : List ℕ = take (dc_in s + 3) (drop 3 s) in
    let x : Packet = found_of_words s in
    let w =
    passed 7 (ltb (length s) 7) (flagged s) (are_ten (take 3 (drop 3 s))) (ltb (length s) (dc_in s + 7)) (are_ten (take (dc_in s) (drop 6 s)))
    (is_ten (get_or s (dc_in s + 6) 0)) q in
    let long : dc_in s + 7 ≤ length s = ltb-false (length s) (dc_in s + 7) w.3 in
    let ten : are_ten t ≡ true = ten-parts (dc_in s) s ∙ rw (w.2, w.4) in
    let low-bytes : body x ≡ map low t = body-shown s long in
    let l = leb-true (get_or s (dc_in s + 6) 0) 0x3FF w.5 in (
      x,
      refl,
      found-whole s w.1 long,
      record {
        within = shown-sound s long y;
        above = map high t;
        cs = get_or s (dc_in s + 6) 0;
        mark = refl;
        each = length-map t high ∙ sym (length-map t low) ∙ ap length (sym low-bytes);
        two = high-two t ten;
        ten = omega arith;
      },
    )

-- ---- reading: a list

pub found-moved : (y : System) (p : Packet) (line flags : ℕ) → Found y p → allowed y line ≡ true → flags < 4 → Found y (moved p line flags)
found-moved y p line flags g h k =
    record {
      within = sound-moved y (as_sound p) line flags g.within h k;
      above = g.above;
      cs = g.cs;
      mark = g.mark;
      each = g.each;
      two = g.two;
      ten = g.ten;
    }

pub found-words-read : (y : System) (ps : List Packet) → All (Found y) ps → packets_found (all_words ps) ≡ listed (bares ps)
unfolding packets_found found_row
found-words-read y ps g =
    row-words-read found_row (Found y)
    (record {
      follows = λ x r w. tt;
      goes = λ x r w. found-goes y x r w;
      fault = λ x r w z. found-fine y x r w;
      packet = λ x r w z. found_back y x r w;
      rest = λ x r w z. found-rest y x r w;
    })
    refl ps g

pub found-words-laid : (y : System) (ws : List ℕ) (ps : List Packet) → packets_found ws ≡ listed ps → WordsBy (Found y) ws ps
unfolding packets_found found_row
found-words-laid y ws ps e =
    row-words-laid found_row (Found y) (found-uncut y) (λ t z. z) (λ p g. found-moved y p 0 0 g (allowed-none y) (omega arith)) ws ps e

-- ---- reading: refusals

abbrev pub FoundFault : ℕ → Type 0
FoundFault n = (7 ≤ n) × (n ≤ 9)

found-range : (s : List ℕ) → (found_fault s ≡ 0 → ⊥) → FoundFault (found_fault s)
unfolding found_fault
found-range s h = fault-one-of are_ten _ s FoundFault (omega arith) (omega arith) (omega arith) (go (not (is_ten (get_or s (dc_in s + 6) 0)))) h
  where
    go : (t : Bool) → (◌≡◌ {A = ℕ} (cond t 8 0) 0 → ⊥) → FoundFault (cond t 8 0)
    go true h = omega arith
    go false h = absurd (h refl)

-- a packet without a fault has all its words
pub found-long : (s : List ℕ) → found_fault s ≡ 0 → dc_in s + 7 ≤ length s
unfolding found_fault
found-long s e = fault-long-by are_ten _ s e

found-shrink : (s : List ℕ) → found_row.fault s ≡ 0 → length (found_row.rest s) < length s
found-shrink s e = row-words-shrink found_row (Found nowhere) (found-uncut nowhere) s e
  where
    nowhere : System
    nowhere = record { sequences = 0; last = 0 }

-- how many packets there may be does not matter once they are enough
pub found-enough : (f g i : ℕ) (s : List ℕ) → length s ≤ f → length s ≤ g → packets_in found_row f i s ≡ packets_in found_row g i s
unfolding found_row
found-enough f g i s h k = row-enough found_row refl found-shrink f g i s h k

-- words as found are refused with 7 to 9, and never for the packets' number
pub found-words-refused : (ws : List ℕ) (n i : ℕ) → packets_found ws ≡ refused n i → FoundFault n
unfolding packets_found found_row
found-words-refused ws n i e = row-fault found_row refl found-shrink FoundFault found-range (length ws) 0 ws n i (omega arith) e

-- ---- reading: the sheet

found-reader : Reader packets_found Found
found-reader =
    record {
      read = found-words-read;
      laid = found-words-laid;
      fault = λ ws n i e. (found-words-refused ws n i e).0;
      placed = λ y p g. record { line = g.within.line; flags = g.within.flags };
      move = found-moved;
    }

to-found : (sys : ℕ) (ps : List Packet) (s : List ℕ) → SheetBy Found sys ps s → SheetFound sys ps s
to-found sys ps s g = record { known = g.known; few = g.few; found = g.fine; whole = g.whole }

from_found : (sys : ℕ) (ps : List Packet) (s : List ℕ) → SheetFound sys ps s → SheetBy Found sys ps s
from_found sys ps s g = record { known = g.known; few = g.few; fine = g.found; whole = g.whole }

-- the sheet of a list as found passes its tests and gives that list back
pub found-read : (sys : ℕ) (ps : List Packet) (s : List ℕ) → SheetFound sys ps s → found_tests s ≡ listed ps
unfolding found_tests
found-read sys ps s g = sheet-read-by packets_found Found found-reader sys ps s (from_found sys ps s g)

-- and a sheet that passes them is the sheet of the list it gives
pub found-made : (s : List ℕ) (ps : List Packet) → found_tests s ≡ listed ps → SheetFound (system_in s) ps s
unfolding found_tests
found-made s ps e = to-found (system_in s) ps s (sheet-laid-by packets_found Found found-reader s ps e)

-- of one list only, of one system
pub found-unique : (sys other : ℕ) (ps qs : List Packet) (s : List ℕ) → SheetFound sys ps s → SheetFound other qs s → (sys ≡ other) × (ps ≡ qs)
found-unique sys other ps qs s g h =
    sheet-unique-by packets_found Found found-reader sys other ps qs s (from_found sys ps s g) (from_found other qs s h)

-- a refusal's number is not 0
pub found-refused : (s : List ℕ) (n i : ℕ) → found_tests s ≡ refused n i → 1 ≤ n
unfolding found_tests
found-refused s n i e = sheet-refused-by packets_found Found found-reader s n i e

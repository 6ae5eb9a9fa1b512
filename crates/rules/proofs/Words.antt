-- The words of a sheet's section C are read as the list's packets, and what is read is the list's.
--
-- In order: a byte's word; the words of a packet, whatever its mark, and of a sound one; packets back to back, whatever their tests
-- (`row-words-read`, `row-words-laid`); of a sound list: `words-read`, `words-laid`, `words-unique`, `words-room`; refusals.
-- Assumes nothing.
use Prim.Native.Nat.{ℕ, zero, suc, ◌+◌, ◌-◌, ◌*◌, ◌%◌, ◌≤◌, ◌<◌}
use mathlib.Core.Path.{◌≡◌, refl, sym, ap, ap₂, ◌∙◌, subst}
use mathlib.Core.Bool.{Bool, true, false, cond, not, ◌&&◌, ◌||◌, and_assoc}
use mathlib.Core.List.{List, [], ◌∷◌, ◌++◌, map, append_assoc, append-nil}
use native.Mathlib.Omega.{arith}
use native.Mathlib.Numerals.{add-three}
use lib.Dec.{eqb, ltb}
use lib.ListN.{length, get_or, take, drop, length-append, length-map, length-drop}
use lib.Seq.{length-take-le, split_at, get_or-drop, get_or_at, take_at, take-add, drop_at, drop-drop}
use borrow.Author.Tests.{ltb-false, eqb-true, le-ltb, eq-eqb}
use Rattle.rules.specs.Base.{Bytes, All, none, one}
use Rattle.rules.specs.Systems.{System}
use Rattle.rules.specs.Packet.{Mark, sound, found, Packet, body, ones, parity, word, check, raised, coded_as, coded, check_of, words, Sound}
use Rattle.rules.specs.Danc.{bytes_of, string_byte_count}
use Rattle.rules.specs.Sheet.{all_words}
use Rattle.rules.specs.Numbers.{listed, refused, Row, packets_in}
use Rattle.rules.specs.Laying.{is_word, are_words, flagged, low, dc_in, fault_by, words_fault, packet_of_words, no_words, word_row, packets_of_words}
use Rattle.rules.proofs.Basics.{never, both}
use Rattle.rules.proofs.Lines.{allowed-none}
use Rattle.rules.proofs.Rows.{Anything, Cut, Uncut, row_read, row_laid, row-enough, row-fault}

-- ---- a byte's word

low_of : (b p : ℕ) → b < 256 → p < 2 → (b + 256 * p + 512 * (1 - p)) % 256 ≡ b
low_of b p h k = omega arith

-- the low byte of a byte's word is the byte
pub low_word : (b : ℕ) → b < 256 → low (word b) ≡ b
unfolding word parity
low_word b h = low_of b (ones b % 2) h (omega arith)

is_word_lem : (b : ℕ) → b < 256 → is_word (word b) ≡ true
unfolding is_word
is_word_lem b h = rw (low_word b h) (eq-eqb (word b) (word b) refl)

word-is : (w : ℕ) → is_word w ≡ true → word (low w) ≡ w
unfolding is_word
word-is w e = sym (eqb-true w (word (low w)) e)

are_words_lem : (bs : List ℕ) → Bytes bs → are_words (map word bs) ≡ true
are_words_lem [] h = refl
are_words_lem (b ∷ bs) h = rw (is_word_lem b (h 0)) (are_words_lem bs (λ i. h (suc i)))

pub words_append : (vs ws : List ℕ) → are_words (vs ++ ws) ≡ (are_words vs && are_words ws)
words_append [] ws = refl
words_append (v ∷ vs) ws = rw (words_append vs ws) (sym (and_assoc (is_word v) (are_words vs) (are_words ws)))

-- the low bytes of bytes' words are the bytes
pub map-low : (bs : List ℕ) → Bytes bs → map low (map word bs) ≡ bs
map-low [] h = refl
map-low (b ∷ bs) h = ap₂ (λ (x : ℕ) (t : List ℕ). x ∷ t) (low_word b (h 0)) (map-low bs (λ i. h (suc i)))

words-map : (ws : List ℕ) → are_words ws ≡ true → map word (map low ws) ≡ ws
words-map [] e = refl
words-map (w ∷ ws) e =
    let q = both (is_word w) (are_words ws) e in
    ap₂ (λ (x : ℕ) (t : List ℕ). x ∷ t) (word-is w q.0) (words-map ws q.1)

low-bytes : (ws : List ℕ) → Bytes (map low ws)
low-bytes [] i = omega arith
low-bytes (w ∷ ws) zero = omega arith
low-bytes (w ∷ ws) (suc i) = low-bytes ws i

-- ---- the words of a packet

-- a packet without its location
abbrev pub bare : Packet → Packet
bare p = record { did = p.did; sdid = p.sdid; user = p.user; line = 0; flags = 0; mark = p.mark }

-- DID to the last user word are as many words as bytes, whatever the mark
raised-length : (us bs : List ℕ) → length (raised us bs) ≡ length bs
raised-length us [] = refl
raised-length us (b ∷ bs) = ap suc (raised-length (drop 1 us) bs)

pub coded-length : (p : Packet) → length (coded p) ≡ length p.user + 3
unfolding coded
coded-length p = go p.mark
  where
    go : (m : Mark) → length (coded_as m (body p)) ≡ length p.user + 3
    go sound = let k = length-map (body p) word in omega arith
    go (found us cs) = let k = raised-length us (body p) in omega arith

-- "as many bytes as its VANC packet has words, DC + 7"
pub packet-words : (p : Packet) → length (words p) ≡ bytes_of p
unfolding words
packet-words p = let k = length-append (coded p) (check_of p ∷ []) in let l = coded-length p in omega arith

raised-low : (us bs : List ℕ) → Bytes bs → map low (raised us bs) ≡ bs
raised-low us [] h = refl
raised-low us (b ∷ bs) h =
    let e : (b + 256 * get_or us 0 0) % 256 ≡ b = let k = h 0 in omega arith in
    ap₂ (λ (x : ℕ) (t : List ℕ). x ∷ t) e (raised-low (drop 1 us) bs (λ i. h (suc i)))

pub body_bytes : (y : System) (p : Packet) → Sound y p → Bytes (body p)
body_bytes y p g zero = g.did
body_bytes y p g (suc zero) = g.sdid
body_bytes y p g (suc (suc zero)) = g.many
body_bytes y p g (suc (suc (suc i))) = g.user i

-- the low bytes of a packet's words are its bytes, whatever the mark
pub coded-low : (p : Packet) → Bytes (body p) → map low (coded p) ≡ body p
unfolding coded
coded-low p h = go p.mark
  where
    go : (m : Mark) → map low (coded_as m (body p)) ≡ body p
    go sound = map-low (body p) h
    go (found us cs) = raised-low us (body p) h

-- "DC's low byte still gives the length", whatever the mark
pub dc-low : (p : Packet) (r : List ℕ) → length p.user < 256 → dc_in (words p ++ r) ≡ length p.user
unfolding words coded
dc-low p r h = go p.mark
  where
    go : (m : Mark) → low (get_or ((coded_as m (body p) ++ (check_of p ∷ [])) ++ r) 2 0) ≡ length p.user
    go sound = low_word (length p.user) h
    go (found us cs) = omega arith

-- a packet's words and what follows, whatever the mark: how many they are, DID to the last user word, CS, and what follows
module _ (p : Packet) (r : List ℕ) where
  pub words_long : length (words p ++ r) ≡ length p.user + 7 + length r
  words_long = let k = packet-words p in let l = length-append (words p) r in omega arith

  pub coded-taken : take (length p.user + 3) (drop 3 (words p ++ r)) ≡ coded p
  unfolding words
  coded-taken = rw (append_assoc (coded p) (check_of p ∷ []) r) (take_at (coded p) ((check_of p ∷ []) ++ r) (length p.user + 3) (coded-length p))

  pub check-taken : get_or (words p ++ r) (length p.user + 6) 0 ≡ check_of p
  unfolding words
  check-taken =
      let s : List ℕ = words p ++ r in
      let e : length p.user + 6 ≡ 3 + (length p.user + 3) = omega arith in
      ap (λ (n : ℕ). get_or s n 0) e
      ∙ sym (get_or-drop 3 s (length p.user + 3) 0)
      ∙ ap (λ (t : List ℕ). get_or t (length p.user + 3) 0) (append_assoc (coded p) (check_of p ∷ []) r)
      ∙ get_or_at (coded p) (check_of p) r 0 (length p.user + 3) (coded-length p)

  pub rest-taken : length p.user < 256 → drop (dc_in (words p ++ r) + 7) (words p ++ r) ≡ r
  rest-taken h = rw (dc-low p r h) (drop_at (words p) r (length p.user + 7) (packet-words p))

coded-sound : (p : Packet) → p.mark ≡ sound → coded p ≡ map word (body p)
unfolding coded
coded-sound p e = rw e

-- a sound packet's words, and what follows
module _ (y : System) (p : Packet) (r : List ℕ) (g : Sound y p) where
  abbrev s : List ℕ
  s = words p ++ r

  abbrev tail : List ℕ
  tail = (map word p.user ++ (check_of p ∷ [])) ++ r

  pub coded-back : coded p ≡ map word (body p)
  coded-back = coded-sound p g.mark

  dc-back : dc_in s ≡ length p.user
  dc-back = dc-low p r g.many

  user-back : take (length p.user) tail ≡ map word p.user
  user-back =
      rw (append_assoc (map word p.user) (check_of p ∷ []) r)
      (take_at (map word p.user) ((check_of p ∷ []) ++ r) (length p.user) (length-map p.user word))

  sum_back : check (take (length p.user + 3) (drop 3 s)) ≡ check_of p
  unfolding check_of
  sum_back = rw (coded-taken p r, g.mark)

  pub fault-back : word_row.fault s ≡ 0
  unfolding word_row words_fault words
  fault-back =
      let k = words_long p r in
      rw (
        le-ltb (length s) 7 (omega arith),
        dc-back,
        le-ltb (length s) (length p.user + 7) (omega arith),
        check-taken p r,
        sum_back,
        eq-eqb (check_of p) (check_of p) refl,
        coded-back,
        is_word_lem p.did g.did,
        is_word_lem p.sdid g.sdid,
        is_word_lem (length p.user) g.many,
        user-back,
        are_words_lem p.user g.user,
      )

  packet-back : word_row.packet s ≡ bare p
  unfolding word_row words
  packet-back =
      rw (dc-back, coded-back, user-back, map-low p.user g.user, low_word p.did g.did, low_word p.sdid g.sdid, g.mark)

  rest_back : word_row.rest s ≡ r
  unfolding word_row
  rest_back = rest-taken p r g.many

  goes_on : word_row.ends s ≡ false
  unfolding word_row words
  goes_on = refl

-- the tests of a packet that has no fault, whatever the last of them gives
pub passed : (last : ℕ) (a b c d e f : Bool)
    → ◌≡◌ {A = ℕ} (cond (a || not b) 7 (cond (not c) 8 (cond d 9 (cond (not e) 8 (cond (not f) (suc last) 0))))) 0
    → (a ≡ false) × (b ≡ true) × (c ≡ true) × (d ≡ false) × (e ≡ true) × (f ≡ true)
passed last true b c d e f q = absurd (omega arith)
passed last false false c d e f q = absurd (omega arith)
passed last false true false d e f q = absurd (omega arith)
passed last false true true true e f q = absurd (omega arith)
passed last false true true false false f q = absurd (omega arith)
passed last false true true false true false q = absurd (omega arith)
passed last false true true false true true q = (refl, refl, refl, refl, refl, refl)

-- DID, SDID, DC, and n words behind them
pub front-split : (n : ℕ) (s : List ℕ) → take (n + 3) (drop 3 s) ≡ take 3 (drop 3 s) ++ take n (drop 6 s)
front-split n s = let e : n + 3 ≡ 3 + n = omega arith in rw (e, take-add 3 n (drop 3 s), drop-drop 3 3 s)

pub front-shown : (n : ℕ) (s : List ℕ) → 6 ≤ length s
    → take (n + 3) (drop 3 s) ≡ get_or s 3 0 ∷ get_or s 4 0 ∷ get_or s 5 0 ∷ take n (drop 6 s)
front-shown n [] h = absurd (omega arith)
front-shown n (x ∷ []) h = absurd (omega arith)
front-shown n (x ∷ y ∷ []) h = absurd (omega arith)
front-shown n (x ∷ y ∷ z ∷ []) h = absurd (omega arith)
front-shown n (x ∷ y ∷ z ∷ a ∷ []) h = absurd (omega arith)
front-shown n (x ∷ y ∷ z ∷ a ∷ b ∷ []) h = absurd (omega arith)
front-shown n (x ∷ y ∷ z ∷ a ∷ b ∷ c ∷ s) h = rw (add-three n)

-- words behind the flag that show what a packet's words are, are those of the packet
pub words-made : (p : Packet) (n : ℕ) (s : List ℕ) → flagged s ≡ true → n + 7 ≤ length s → coded p ≡ take (n + 3) (drop 3 s)
    → check_of p ≡ get_or s (n + 6) 0 → s ≡ words p ++ drop (n + 7) s
unfolding words
words-made p n [] f l c k = absurd (omega arith)
words-made p n (x ∷ []) f l c k = absurd (omega arith)
words-made p n (x ∷ y ∷ []) f l c k = absurd (omega arith)
words-made p n (x ∷ y ∷ z ∷ t) f l c k =
    let s : List ℕ = x ∷ y ∷ z ∷ t in
    let f1 = both (eqb x 0) (eqb y 0x3FF && eqb z 0x3FF) f in
    let f2 = both (eqb y 0x3FF) (eqb z 0x3FF) f1.1 in
    let six : 3 + (n + 3) ≡ n + 6 = omega arith in
    let seven : 3 + suc (n + 3) ≡ n + 7 = omega arith in
    let cs : get_or t (n + 3) 0 ≡ check_of p = get_or-drop 3 s (n + 3) 0 ∙ ap (λ (m : ℕ). get_or s m 0) six ∙ sym k in
    let rest : drop (suc (n + 3)) t ≡ drop (n + 7) s = drop-drop (suc (n + 3)) 3 s ∙ ap (λ (m : ℕ). drop m s) seven in
    let sp : t ≡ coded p ++ check_of p ∷ drop (n + 7) s = split_at t (n + 3) 0 (omega arith) ∙ (λ i. sym c i ++ cs i ∷ rest i) in
    (λ i. eqb-true x 0 f1.0 i ∷ eqb-true y 0x3FF f2.0 i ∷ eqb-true z 0x3FF f2.1 i ∷ sp i)
    ∙ ap (λ (v : List ℕ). 0x000 ∷ 0x3FF ∷ 0x3FF ∷ v) (sym (append_assoc (coded p) (check_of p ∷ []) (drop (n + 7) s)))

-- what the words of a packet show, where all of them are there: their low bytes, and so a sound packet
module _ (s : List ℕ) (long : dc_in s + 7 ≤ length s) where
  pub body-shown : body (packet_of_words s) ≡ map low (take (dc_in s + 3) (drop 3 s))
  body-shown =
      let u : List ℕ = take (dc_in s) (drop 6 s) in
      let l : length (map low u) ≡ dc_in s =
      length-map u low ∙ length-take-le (dc_in s) (drop 6 s) (let m = length-drop 6 s in omega arith) in
      ap (λ (n : ℕ). low (get_or s 3 0) ∷ low (get_or s 4 0) ∷ n ∷ map low u) l ∙ ap (map low) (sym (front-shown (dc_in s) s (omega arith)))

  pub shown-sound : (y : System) → Sound y (packet_of_words s)
  shown-sound y =
      record {
        did = omega arith;
        sdid = omega arith;
        many =
            let e : length (packet_of_words s).user ≡ dc_in s = ap (λ (b : List ℕ). get_or b 2 0) body-shown ∙ third in
            let m : dc_in s < 256 = omega arith in
            omega arith;
        user = low-bytes (take (dc_in s) (drop 6 s));
        line = allowed-none y;
        flags = omega arith;
        mark = refl;
      }
    where
      third : get_or (map low (take (dc_in s + 3) (drop 3 s))) 2 0 ≡ dc_in s
      third = rw (front-shown (dc_in s) s (omega arith))

-- a front without a fault is a sound packet's words
pub words-uncut : (sys : System) (s : List ℕ) → Unit {0} → word_row.fault s ≡ 0
    → (x : Packet) × (bare x ≡ word_row.packet s) × (s ≡ words x ++ word_row.rest s) × Sound sys x
unfolding word_row words_fault coded check_of
words-uncut sys s h q =
    let t : List ℕ = take (dc_in s + 3) (drop 3 s) in
    let w =
    passed 9 (ltb (length s) 7) (flagged s) (are_words (take 3 (drop 3 s))) (ltb (length s) (dc_in s + 7)) (are_words (take (dc_in s) (drop 6 s)))
    (eqb (get_or s (dc_in s + 6) 0) (check t)) q in
    let long : dc_in s + 7 ≤ length s = ltb-false (length s) (dc_in s + 7) w.3 in
    let right : are_words t ≡ true =
    ap are_words (front-split (dc_in s) s) ∙ words_append (take 3 (drop 3 s)) (take (dc_in s) (drop 6 s)) ∙ rw (w.2, w.4) in
    let is : map word (body (packet_of_words s)) ≡ t = ap (map word) (body-shown s long) ∙ words-map t right in
    let cs : check (map word (body (packet_of_words s))) ≡ get_or s (dc_in s + 6) 0 =
    ap check is ∙ sym (eqb-true (get_or s (dc_in s + 6) 0) (check t) w.5) in
    (packet_of_words s, refl, words-made (packet_of_words s) (dc_in s) s w.1 long is cs, shown-sound s long sys)

-- ---- the words of a list

-- a list without its locations
abbrev pub bares : List Packet → List Packet
bares ps = map bare ps

pub few_words : (ps : List Packet) → length ps ≤ length (all_words ps)
few_words [] = omega arith
few_words (p ∷ ps) = let k = few_words ps in let l = length-append (words p) (all_words ps) in let m = packet-words p in omega arith

bare-words : (ps : List Packet) → all_words ps ≡ all_words (bares ps)
unfolding words coded check_of
bare-words [] = refl
bare-words (p ∷ ps) = ap (λ (t : List ℕ). words p ++ t) (bare-words ps)

-- the words ws are those of the packets ps, each of them fine
pub record WordsBy (Fine : Packet → Type 0) (ws : List ℕ) (ps : List Packet) : Type 0 where
  pub whole : ws ≡ all_words ps
  pub fine : All Fine ps

-- packets back to back in words, whatever their tests are: what is laid is read, and what is read was laid
module _ (row : Row ℕ) (Fine : Packet → Type 0) where
  pub row-words-read : Cut row words bare Fine Anything → row.ends [] ≡ true → (ps : List Packet) → All Fine ps
      → packets_in row (length (all_words ps)) 0 (all_words ps) ≡ listed (bares ps)
  row-words-read c e ps g =
      ap (packets_in row (length (all_words ps)) 0) (sym (append-nil (all_words ps)))
      ∙ row_read row words bare Fine Anything c [] tt e ps (length (all_words ps)) 0 g (few_words ps)

  module _ (u : Uncut row words bare Fine Anything) where
    pub row-words-laid : ((t : List ℕ) → row.ends t ≡ true → no_words t ≡ true) → ((p : Packet) → Fine p → Fine (bare p))
        → (ws : List ℕ) (ps : List Packet) → packets_in row (length ws) 0 ws ≡ listed ps → WordsBy Fine ws ps
    row-words-laid n b ws ps e =
        let l = row_laid row words bare Fine Anything (λ x r f. tt) u (length ws) 0 ws ps tt e in
        subst (WordsBy Fine ws) l.packets
        (record {
          whole = l.whole ∙ nothing (all_words l.items) l.tail (n l.tail l.ends) ∙ bare-words l.items;
          fine = all-bare l.items l.good;
        })
      where
        nothing : (ws t : List ℕ) → no_words t ≡ true → ws ++ t ≡ ws
        nothing ws [] e = append-nil ws
        nothing ws (x ∷ t) e = never (cc)

        all-bare : (ps : List Packet) → All Fine ps → All Fine (bares ps)
        all-bare [] g = none
        all-bare (p ∷ ps) (one g gs) = one (b p g) (all-bare ps gs)

    -- a packet is never empty
    pub row-words-shrink : (s : List ℕ) → row.fault s ≡ 0 → length (row.rest s) < length s
    row-words-shrink s e =
        let w = u s tt e in
        let k = packet-words w.0 in
        let l : length s ≡ length (words w.0) + length (row.rest s) = ap length w.2 ∙ length-append (words w.0) (row.rest s) in
        omega arith

pub words-read : (y : System) (ps : List Packet) → All (Sound y) ps → packets_of_words (all_words ps) ≡ listed (bares ps)
unfolding packets_of_words word_row
words-read y ps g =
    row-words-read word_row (Sound y)
    (record {
      follows = λ x r w. tt;
      goes = λ x r w. goes_on y x r w;
      fault = λ x r w z. fault-back y x r w;
      packet = λ x r w z. packet-back y x r w;
      rest = λ x r w z. rest_back y x r w;
    })
    refl ps g

bare-one : (y : System) (p : Packet) → Sound y p → Sound y (bare p)
bare-one y p g = record { did = g.did; sdid = g.sdid; many = g.many; user = g.user; line = allowed-none y; flags = omega arith; mark = g.mark }

-- what is read was laid, whatever the system, since a packet that shows no location is on no line
abbrev pub WordsOf : System → List ℕ → List Packet → Type 0
WordsOf y ws ps = WordsBy (Sound y) ws ps

pub words-laid : (y : System) (ws : List ℕ) (ps : List Packet) → packets_of_words ws ≡ listed ps → WordsOf y ws ps
unfolding packets_of_words word_row
words-laid y ws ps e = row-words-laid word_row (Sound y) (words-uncut y) (λ t z. z) (bare-one y) ws ps e

-- from one list only, but for the locations, which section B has
pub words-unique : (y : System) (ps qs : List Packet) → All (Sound y) ps → All (Sound y) qs → all_words ps ≡ all_words qs → bares ps ≡ bares qs
words-unique y ps qs g h e =
    let a = words-read y ps g in
    let b = words-read y qs h in
    cc

-- section C has as many words as the string has bytes
pub words-room : (ps : List Packet) → length (all_words ps) ≡ string_byte_count ps
words-room [] = refl
words-room (p ∷ ps) = length-append (words p) (all_words ps) ∙ ap₂ (λ (a b : ℕ). a + b) (packet-words p) (words-room ps)

-- ---- refusals

-- the tests of a packet give 7, 8, 9 or what the last of them gives; without a fault all its words are there
module _ (right : List ℕ → Bool) (last : ℕ) (s : List ℕ) where
  abbrev flag : Bool
  flag = ltb (length s) 7 || not (flagged s)

  abbrev head : Bool
  head = not (right (take 3 (drop 3 s)))

  abbrev size : Bool
  size = ltb (length s) (dc_in s + 7)

  abbrev user : Bool
  user = not (right (take (dc_in s) (drop 6 s)))

  pub fault-one-of : (P : ℕ → Type 0) → P 7 → P 8 → P 9 → ((last ≡ 0 → ⊥) → P last) → (fault_by right last s ≡ 0 → ⊥) → P (fault_by right last s)
  fault-one-of P seven eight nine other h = go flag head size user h
    where
      go : (a b c d : Bool) → (cond a 7 (cond b 8 (cond c 9 (cond d 8 last))) ≡ 0 → ⊥) → P (cond a 7 (cond b 8 (cond c 9 (cond d 8 last))))
      go true b c d h = seven
      go false true c d h = eight
      go false false true d h = nine
      go false false false true h = eight
      go false false false false h = other h

  pub fault-long-by : fault_by right last s ≡ 0 → dc_in s + 7 ≤ length s
  fault-long-by e = ltb-false (length s) (dc_in s + 7) (go flag head size (cond user 8 last) e)
    where
      go : (a b c : Bool) (n : ℕ) → ◌≡◌ {A = ℕ} (cond a 7 (cond b 8 (cond c 9 n))) 0 → c ≡ false
      go true b c n e = absurd (omega arith)
      go false true c n e = absurd (omega arith)
      go false false true n e = absurd (omega arith)
      go false false false n e = refl

abbrev pub WordFault : ℕ → Type 0
WordFault n = (7 ≤ n) × (n ≤ 10)

fault-range : (s : List ℕ) → (words_fault s ≡ 0 → ⊥) → WordFault (words_fault s)
unfolding words_fault
fault-range s h = fault-one-of are_words _ s WordFault (omega arith) (omega arith) (omega arith) (go wrong) h
  where
    wrong : Bool
    wrong = not (eqb (get_or s (dc_in s + 6) 0) (check (take (dc_in s + 3) (drop 3 s))))

    go : (t : Bool) → (◌≡◌ {A = ℕ} (cond t 10 0) 0 → ⊥) → WordFault (cond t 10 0)
    go true h = omega arith
    go false h = absurd (h refl)

-- a packet without a fault has all its words
pub fault-long : (s : List ℕ) → words_fault s ≡ 0 → dc_in s + 7 ≤ length s
unfolding words_fault
fault-long s e = fault-long-by are_words _ s e

words-shrink : (s : List ℕ) → word_row.fault s ≡ 0 → length (word_row.rest s) < length s
words-shrink s e = row-words-shrink word_row (Sound nowhere) (words-uncut nowhere) s e
  where
    nowhere : System
    nowhere = record { sequences = 0; last = 0 }

-- how many packets section C may have does not matter once they are enough
pub words-enough : (f g i : ℕ) (s : List ℕ) → length s ≤ f → length s ≤ g → packets_in word_row f i s ≡ packets_in word_row g i s
unfolding word_row
words-enough f g i s h k = row-enough word_row refl words-shrink f g i s h k

-- the words of section C are refused with 7 to 10, and never for their number
pub words-refused : (ws : List ℕ) (n i : ℕ) → packets_of_words ws ≡ refused n i → WordFault n
unfolding packets_of_words word_row
words-refused ws n i e = row-fault word_row refl words-shrink WordFault fault-range (length ws) 0 ws n i (omega arith) e

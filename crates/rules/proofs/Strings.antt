-- A string is read as it was laid, and what is read was laid so, for some values of the bits that a reader disregards.
--
-- In order: header bytes, both ways; a packet's bytes, both ways; the numbers of faults; of a string: `string-read`, `string-laid`,
-- `string-unique`, `string-room`, and a packet too many: `string-over-read`, `string-over-laid`.
-- Assumes nothing.
use Prim.Native.Nat.{ℕ, suc, ◌+◌, ◌*◌, ◌/◌, ◌%◌, ◌≤◌, ◌<◌}
use mathlib.Core.Path.{◌≡◌, refl, sym, ap, ap₂, ◌∙◌, subst}
use mathlib.Core.Bool.{Bool, true, false, cond, not, ◌&&◌, ◌||◌}
use mathlib.Core.List.{List, [], ◌∷◌, ◌++◌, append_assoc}
use native.Mathlib.Omega.{arith}
use native.Mathlib.Numerals.{add_six, add_seven}
use lib.Dec.{eqb, ltb}
use lib.ListN.{length, get_or, take, drop, length-append}
use lib.Seq.{length-take-le, split_at, take-append_seam, drop_at, get_or-append_seam}
use borrow.Author.Tests.{ltb-true, ltb-false, eqb-true, lt-ltb, le-ltb, eq-eqb, ne_eqb}
use Rattle.rules.specs.Base.{all_is, Bytes, All}
use Rattle.rules.specs.Systems.{System, stands, allowed}
use Rattle.rules.specs.Packet.{Packet, check_of}
use Rattle.rules.specs.Danc.{Item, Good, packets_of, header, danc, string, bytes_of, string_byte_count}
use Rattle.rules.specs.Numbers.{listed, refused, packets_in}
use Rattle.rules.specs.Reading.{line_in, line_of, flags_of, packet_of_bytes, line_fault, bytes_fault, string_fault, string_ends, string_row}
use Rattle.rules.proofs.Basics.{never, neither, second-false, chosen, take-bytes, later-bytes}
use Rattle.rules.proofs.Lines.{allowed-stands, allowed-last}
use Rattle.rules.proofs.Rows.{Anything, Cut, Over, row_read, row-over-read, row_laid, row-over-laid}

-- ---- header bytes: what is written comes back

-- header bytes 0 and 1 of what they hold; `b`: there is no line
abbrev h0 : Bool → ℕ → ℕ → ℕ
h0 b junk line = cond b 0 1 * 128 + cond b junk line % 128

abbrev h1 : Bool → ℕ → ℕ → ℕ → ℕ → ℕ
h1 b junk line bits flags = flags % 2 * 128 + bits * 32 + flags / 2 * 16 + cond b junk line / 128

-- the parts of header byte 1
module _ (fi bits ycf line : ℕ) (hf : fi < 2) (hb : bits < 4) (hy : ycf < 2) (hl : line < 16) where
  fi-part : (fi * 128 + bits * 32 + ycf * 16 + line) / 128 ≡ fi
  fi-part = omega arith

  ycf-part : (fi * 128 + bits * 32 + ycf * 16 + line) / 16 % 2 ≡ ycf
  ycf-part = let e : (fi * 128 + bits * 32 + ycf * 16 + line) / 16 ≡ fi * 8 + bits * 2 + ycf = omega arith in rw e (omega arith)

  line-part : (fi * 128 + bits * 32 + ycf * 16 + line) % 16 ≡ line
  line-part = omega arith

module _ (y : System) (junk line bits flags : ℕ) (hj : junk < 2048) (hl : line ≤ y.last) (hm : y.last < 2047) (hb : bits < 4) (hf : flags < 4) where
  line-back : (b : Bool) → eqb line 0 ≡ b → line_of (h0 b junk line) (h1 b junk line bits flags) ≡ line
  line-back true e = let z : line ≡ 0 = eqb-true line 0 e in rw (lt-ltb (h0 true junk line) 128 (omega arith)) (sym z)
  line-back false e = rw (le-ltb (h0 false junk line) 128 (omega arith)) (omega arith)

  flags-back : (b : Bool) → flags_of (h1 b junk line bits flags) ≡ flags
  flags-back b =
      let k : cond b junk line / 128 < 16 = small b in
      rw (
        fi-part (flags % 2) bits (flags / 2) (cond b junk line / 128) (omega arith) hb (omega arith) k,
        ycf-part (flags % 2) bits (flags / 2) (cond b junk line / 128) (omega arith) hb (omega arith) k,
      ) (omega arith)
    where
      small : (b : Bool) → cond b junk line / 128 < 16
      small true = omega arith
      small false = omega arith

  line-fine : (b : Bool) → eqb line 0 ≡ b → stands y line ≡ true → line_fault y (h0 b junk line) (h1 b junk line bits flags) ≡ false
  line-fine true e s = rw (lt-ltb (h0 true junk line) 128 (omega arith))
  line-fine false e s =
      let q : line_in (h0 false junk line) (h1 false junk line bits flags) ≡ line = omega arith in
      rw (le-ltb (h0 false junk line) 128 (omega arith), q, e, s)

  -- no header is all FFh
  header-not-fill : (b : Bool) → eqb line 0 ≡ b → (eqb (h0 b junk line) 0xFF && eqb (h1 b junk line bits flags) 0xFF) ≡ false
  header-not-fill true e = rw (ne_eqb (h0 true junk line) 0xFF (λ q. omega arith))
  header-not-fill false e = two (eqb (h0 false junk line) 0xFF) refl
    where
      two : (t : Bool) → eqb (h0 false junk line) 0xFF ≡ t → (t && eqb (h1 false junk line bits flags) 0xFF) ≡ false
      two false t = refl
      two true t =
          let x : 128 + line % 128 ≡ 255 = eqb-true (h0 false junk line) 0xFF t in
          let k : line / 128 < 15 = omega arith in
          ne_eqb (h1 false junk line bits flags) 0xFF (λ q.
          let w : (flags % 2 * 128 + bits * 32 + flags / 2 * 16 + line / 128) % 16 ≡ line / 128 =
          line-part (flags % 2) bits (flags / 2) (line / 128) (omega arith) hb (omega arith) (omega arith) in
          let v : (flags % 2 * 128 + bits * 32 + flags / 2 * 16 + line / 128) % 16 ≡ 15 = ap (λ (x : ℕ). x % 16) q in
          omega arith)

-- ---- a packet's bytes: what is laid is read

-- "DC + 7" bytes
pub danc-length : (x : Item) → length (danc x) ≡ bytes_of x.packet
unfolding danc header
danc-length x = let k = length-append x.packet.user (check_of x.packet % 256 ∷ []) in omega arith

-- a good item's bytes, and what follows
module _ (y : System) (hm : y.last < 2047) (x : Item) (r : List ℕ) (g : Good y x) where
  abbrev p : Packet
  p = x.packet

  abbrev s : List ℕ
  s = danc x ++ r

  abbrev tail : List ℕ
  tail = (p.user ++ (check_of p % 256 ∷ [])) ++ r

  on_line : p.line ≤ y.last
  on_line = allowed-last y p.line g.sound.line

  user-back : take (length p.user) tail ≡ p.user
  user-back = rw append_assoc (take-append_seam p.user _)

  pub bytes-packet : packet_of_bytes s ≡ p
  unfolding danc header
  bytes-packet =
      λ i. record {
        did = p.did;
        sdid = p.sdid;
        user = user-back i;
        line = line-back y x.junk p.line x.bits p.flags g.junk on_line hm g.bits g.sound.flags (eqb p.line 0) refl i;
        flags = flags-back y x.junk p.line x.bits p.flags g.junk on_line hm g.bits g.sound.flags (eqb p.line 0) i;
        mark = sym g.sound.mark i;
      }

  check-back : get_or s (length p.user + 6) 0 ≡ check_of p % 256
  unfolding danc header
  check-back = rw (add_six (length p.user), append_assoc p.user (check_of p % 256 ∷ []) r) (get_or-append_seam p.user (check_of p % 256) r 0)

  pub bytes-fine : bytes_fault y s ≡ 0
  unfolding bytes_fault danc header
  bytes-fine =
      rw (
        check-back,
        bytes-packet,
        eq-eqb (check_of p % 256) (check_of p % 256) refl,
        line-fine y x.junk p.line x.bits p.flags g.junk on_line hm g.bits g.sound.flags (eqb p.line 0) refl
            (allowed-stands y p.line g.sound.line),
        line-back y x.junk p.line x.bits p.flags g.junk on_line hm g.bits g.sound.flags (eqb p.line 0) refl,
        g.sound.line,
      )

  pub bytes_rest : drop (get_or s 5 0 + 7) s ≡ r
  unfolding danc header
  bytes_rest = drop_at (danc x) r (length p.user + 7) (danc-length x)

  pub string-fine : string_fault y s ≡ 0
  unfolding string_fault danc header
  string-fine =
      let k = danc-length x in
      let l = length-append (danc x) r in
      rw (le-ltb (length s) 7 (omega arith), le-ltb (length s) (length p.user + 7) (omega arith)) bytes-fine

  goes_on : (room : ℕ) → string_ends room s ≡ false
  unfolding string_ends danc header
  goes_on room =
      second-false (ltb (length s) room) (all_is 0xFF s)
      (two
      (eqb (get_or (danc x) 0 0) 0xFF)
      (eqb (get_or (danc x) 1 0) 0xFF)
      (all_is 0xFF (drop 2 s))
      (header-not-fill y x.junk p.line x.bits p.flags g.junk on_line hm g.bits g.sound.flags (eqb p.line 0) refl))
    where
      two : (a b c : Bool) → (a && b) ≡ false → (a && (b && c)) ≡ false
      two true true c e = never (cc)
      two true false c e = refl
      two false b c e = refl

-- ---- a packet's bytes: what is read was laid

-- the free bits of header bytes a, b and c
abbrev junk_in : ℕ → ℕ → ℕ
junk_in a b = cond (ltb a 128) (line_in a b) 0

module _ (y : System) (a b c : ℕ) (ha : a < 256) (hb : b < 256) (fine : line_fault y a b ≡ false) where
  junk-in : junk_in a b < 2048
  junk-in = go (ltb a 128)
    where
      go : (t : Bool) → cond t (line_in a b) 0 < 2048
      go true = omega arith
      go false = omega arith

  flags-in : flags_of b < 4
  flags-in = omega arith

  le_in : (t : Bool) → ltb a 128 ≡ t → (not t && (eqb (line_in a b) 0 || not (stands y (line_in a b)))) ≡ false
      → h0 (eqb (cond t 0 (line_in a b)) 0) (cond t (line_in a b) 0) (cond t 0 (line_in a b)) ≡ a
  le_in true e o = let l : a < 128 = ltb-true a 128 e in omega arith
  le_in false e o =
      let l : 128 ≤ a = ltb-false a 128 e in
      rw (neither (eqb (line_in a b) 0) (not (stands y (line_in a b))) o).0 (omega arith)

  parts : flags_of b % 2 * 128 + b / 32 % 4 * 32 + flags_of b / 2 * 16 + line_in a b / 128 ≡ b
  parts =
      let fi : flags_of b % 2 ≡ b / 128 = omega arith in
      let ycf : flags_of b / 2 ≡ b / 16 % 2 = omega arith in
      let line : line_in a b / 128 ≡ b % 16 = omega arith in
      let w1 : b / 32 ≡ 4 * (b / 128) + b / 32 % 4 = omega arith in
      let w2 : b / 16 ≡ 2 * (b / 32) + b / 16 % 2 = omega arith in
      let w3 : b ≡ 16 * (b / 16) + b % 16 = omega arith in
      let w : b / 128 * 128 + b / 32 % 4 * 32 + b / 16 % 2 * 16 + b % 16 ≡ b = omega arith in
      rw (fi, ycf, line) w

  rest_in : (t : Bool) → (not t && (eqb (line_in a b) 0 || not (stands y (line_in a b)))) ≡ false
      → h1 (eqb (cond t 0 (line_in a b)) 0) (cond t (line_in a b) 0) (cond t 0 (line_in a b)) (b / 32 % 4) (flags_of b) ≡ b
  rest_in true o = parts
  rest_in false o = rw (neither (eqb (line_in a b) 0) (not (stands y (line_in a b))) o).0 parts

passed : (a b c : Bool) → ◌≡◌ {A = ℕ} (cond (not a) 15 (cond b 16 (cond (not c) 20 0))) 0 → (a ≡ true) × (b ≡ false) × (c ≡ true)
passed false b c e = absurd (omega arith)
passed true true c e = absurd (omega arith)
passed true false false e = absurd (omega arith)
passed true false true e = (refl, refl, refl)

-- the item that bytes show: their packet, and the bits that a reader disregards
abbrev pub item_of : ℕ → List ℕ → Item
item_of starter s =
    record {
      packet = packet_of_bytes s;
      bits = get_or s 1 0 / 32 % 4;
      third = get_or s 2 0;
      junk = junk_in (get_or s 0 0) (get_or s 1 0);
      starter = starter;
    }

-- bytes from header byte 0 on, with DC user bytes and CS and without a fault, are those of their item
module _ (y : System) (a b c d e n : ℕ) (t : List ℕ) (f : ℕ) (hf : f < 256) (hs : Bytes (a ∷ b ∷ c ∷ d ∷ e ∷ n ∷ t)) (long : n < length t) where
  abbrev B : List ℕ
  B = a ∷ b ∷ c ∷ d ∷ e ∷ n ∷ t

  abbrev q : Packet
  q = packet_of_bytes B

  item-whole : bytes_fault y B ≡ 0 → (B ≡ danc (item_of f B) ++ drop (n + 7) B) × Good y (item_of f B)
  unfolding bytes_fault danc header
  item-whole z =
      let w = passed (eqb (get_or B (n + 6) 0) (check_of q % 256)) (line_fault y a b) (allowed y (line_of a b)) z in
      let k : length (take n t) ≡ n = length-take-le n t (omega arith) in
      let m : get_or t n 0 ≡ get_or B (n + 6) 0 = rw (add_six n) in
      let cs : get_or t n 0 ≡ check_of q % 256 = m ∙ eqb-true (get_or B (n + 6) 0) (check_of q % 256) w.0 in
      let r : List ℕ = drop (suc n) t in
      let u : t ≡ take n t ++ check_of q % 256 ∷ r = split_at t n 0 long ∙ ap (λ (v : ℕ). take n t ++ v ∷ r) cs in
      let rest : drop (n + 7) B ≡ r = rw (add_seven n) in (
        ap₂ (λ (v w : ℕ). v ∷ w ∷ c ∷ d ∷ e ∷ n ∷ t)
            (sym (le_in y a b c (hs 0) (hs 1) w.1 (ltb a 128) refl w.1))
            (sym (rest_in y a b c (hs 0) (hs 1) w.1 (ltb a 128) w.1))
            ∙ ap₂ (λ (v : ℕ) (w : List ℕ). get_or (danc (item_of f B)) 0 0 ∷ get_or (danc (item_of f B)) 1 0 ∷ c ∷ d ∷ e ∷ v ∷ w)
            (sym k) (u ∙ sym (append_assoc (take n t) (check_of q % 256 ∷ []) r))
            ∙ ap (λ (v : List ℕ). danc (item_of f B) ++ v) (sym rest),
        record {
          sound =
              record {
                did = hs 3;
                sdid = hs 4;
                many = subst (λ (k : ℕ). k < 256) (sym k) (hs 5);
                user = take-bytes n t (λ i. hs (suc (suc (suc (suc (suc (suc i)))))));
                line = w.2;
                flags = flags-in y a b c (hs 0) (hs 1) w.1;
                mark = refl;
              };
          bits = omega arith;
          third = hs 2;
          junk = junk-in y a b c (hs 0) (hs 1) w.1;
          starter = hf;
        },
      )

-- the same of any bytes
pub bytes-laid : (y : System) (s : List ℕ) (f : ℕ) → f < 256 → Bytes s → get_or s 5 0 + 7 ≤ length s → bytes_fault y s ≡ 0
    → (s ≡ danc (item_of f s) ++ drop (get_or s 5 0 + 7) s) × Good y (item_of f s)
bytes-laid y [] f hf h l z = absurd (omega arith)
bytes-laid y (a ∷ []) f hf h l z = absurd (omega arith)
bytes-laid y (a ∷ b ∷ []) f hf h l z = absurd (omega arith)
bytes-laid y (a ∷ b ∷ c ∷ []) f hf h l z = absurd (omega arith)
bytes-laid y (a ∷ b ∷ c ∷ d ∷ []) f hf h l z = absurd (omega arith)
bytes-laid y (a ∷ b ∷ c ∷ d ∷ e ∷ []) f hf h l z = absurd (omega arith)
bytes-laid y (a ∷ b ∷ c ∷ d ∷ e ∷ n ∷ t) f hf h l z = item-whole y a b c d e n t f hf h (omega arith) z

-- a front without a fault is a good item's bytes
pub string-uncut : (y : System) (room : ℕ) (s : List ℕ) → Bytes s → (string_row y room).fault s ≡ 0
    → (x : Item) × (x.packet ≡ (string_row y room).packet s) × (s ≡ danc x ++ (string_row y room).rest s) × Good y x
unfolding string_row string_fault
string-uncut y room s h z = go (ltb (length s) 7) refl (ltb (length s) (get_or s 5 0 + 7)) refl z
  where
    go : (a : Bool) → ltb (length s) 7 ≡ a → (b : Bool) → ltb (length s) (get_or s 5 0 + 7) ≡ b → cond (a || b) 14 (bytes_fault y s) ≡ 0
        → (x : Item) × (x.packet ≡ packet_of_bytes s) × (s ≡ danc x ++ drop (get_or s 5 0 + 7) s) × Good y x
    go true e b f z = absurd (omega arith)
    go false e true f z = absurd (omega arith)
    go false e false f z =
        let w = bytes-laid y s 0 (omega arith) h (ltb-false (length s) (get_or s 5 0 + 7) f) z in
        (item_of 0 s, refl, w.0, w.1)

-- ---- the numbers of faults

-- what holds of 15, 16, 20, and 0 for none, holds of the fault of a packet's bytes
pub bytes-faults : (P : ℕ → Type 0) → P 0 → P 15 → P 16 → P 20 → (y : System) (s : List ℕ) → P (bytes_fault y s)
unfolding bytes_fault
bytes-faults P p0 p15 p16 p20 y s =
    chosen P (not (eqb (get_or s (get_or s 5 0 + 6) 0) (check_of (packet_of_bytes s) % 256))) 15 _ p15
    (chosen P (line_fault y (get_or s 0 0) (get_or s 1 0)) 16 _ p16 (chosen P (not (allowed y (line_of (get_or s 0 0) (get_or s 1 0)))) 20 0 p20 p0))

-- and what holds of 14 too, of the fault of a string's first packet
pub string-faults : (P : ℕ → Type 0) → P 0 → P 14 → P 15 → P 16 → P 20 → (y : System) (s : List ℕ) → P (string_fault y s)
unfolding string_fault
string-faults P p0 p14 p15 p16 p20 y s =
    chosen P (ltb (length s) 7 || ltb (length s) (get_or s 5 0 + 7)) 14 (bytes_fault y s) p14 (bytes-faults P p0 p15 p16 p20 y s)

-- ---- a string

-- a good item is cut off whole, whatever follows
string-cut : (y : System) → y.last < 2047 → (room : ℕ) → Cut (string_row y room) danc (λ (x : Item). x.packet) (Good y) Anything
unfolding string_row
string-cut y hm room =
    record {
      follows = λ x r w. tt;
      goes = λ x r w. goes_on y hm x r w room;
      fault = λ x r w z. string-fine y hm x r w;
      packet = λ x r w z. bytes-packet y hm x r w;
      rest = λ x r w z. bytes_rest y hm x r w;
    }

-- what is laid is read, with an end behind it
pub string-read : (y : System) → y.last < 2047 → (room left i : ℕ) (xs : List Item) (tail : List ℕ) → All (Good y) xs → length xs ≤ left
    → string_ends room tail ≡ true → packets_in (string_row y room) left i (string xs ++ tail) ≡ listed (packets_of xs)
unfolding string_row
string-read y hm room left i xs tail g few e =
    row_read (string_row y room) danc (λ (x : Item). x.packet) (Good y) Anything (string-cut y hm room) tail tt e xs left i g few

-- behind as many packets as there may be, what is no end is 5
pub string-over-read : (y : System) → y.last < 2047 → (room i : ℕ) (xs : List Item) (tail : List ℕ) → All (Good y) xs → string_ends room tail ≡ false
    → packets_in (string_row y room) (length xs) i (string xs ++ tail) ≡ refused 5 (i + length xs)
unfolding string_row
string-over-read y hm room i xs tail g e =
    row-over-read (string_row y room) danc (λ (x : Item). x.packet) (Good y) Anything (string-cut y hm room) tail tt e xs i g

-- s is the string of a list with some values of the free bits, and what may stand after a string
pub record StringOf (y : System) (room left : ℕ) (s : List ℕ) (ps : List Packet) : Type 0 where
  pub items : List Item
  pub tail : List ℕ
  pub packets : packets_of items ≡ ps
  pub whole : s ≡ string items ++ tail
  pub good : All (Good y) items
  pub ends : string_ends room tail ≡ true
  pub few : length items ≤ left

-- what is read was laid
pub string-laid : (y : System) (room left i : ℕ) (s : List ℕ) (ps : List Packet) → Bytes s → packets_in (string_row y room) left i s ≡ listed ps
    → StringOf y room left s ps
unfolding string_row
string-laid y room left i s ps h e =
    let l =
    row_laid (string_row y room) danc (λ (x : Item). x.packet) (Good y) Bytes (λ x r b. later-bytes (danc x) r b) (string-uncut y room)
    left i s ps h e in
    record { items = l.items; tail = l.tail; packets = l.packets; whole = l.whole; good = l.good; ends = l.ends; few = l.few }

-- where 5 is given, there are as many packets as there may be, and no end behind them
pub string-over-laid : (y : System) (room left i : ℕ) (s : List ℕ) (k : ℕ) → Bytes s → packets_in (string_row y room) left i s ≡ refused 5 k
    → Over (string_row y room) danc (λ (x : Item). x.packet) (Good y) s left i k
unfolding string_row
string-over-laid y room left i s k h e =
    row-over-laid (string_row y room) danc (λ (x : Item). x.packet) (Good y) Bytes (λ x r b. later-bytes (danc x) r b) (string-uncut y room)
    left i s 5 k h
    (string-faults (λ (n : ℕ). n ≡ 5 → ⊥) (λ z. omega arith) (λ z. omega arith) (λ z. omega arith) (λ z. omega arith) (λ z. omega arith) y) e

-- from one list only
pub string-unique : (y : System) → y.last < 2047 → (room left : ℕ) (s : List ℕ) (ps qs : List Packet) → StringOf y room left s ps
    → StringOf y room left s qs → ps ≡ qs
string-unique y hm room left s ps qs v w =
    let a = string-read y hm room left 0 v.items v.tail v.good v.few v.ends in
    let b = string-read y hm room left 0 w.items w.tail w.good w.few w.ends in
    let c = v.whole in
    let d = w.whole in
    let e = v.packets in
    let f = w.packets in
    cc

-- a string has as many bytes as the sum over the list says
pub string-room : (xs : List Item) → length (string xs) ≡ string_byte_count (packets_of xs)
string-room [] = refl
string-room (x ∷ xs) = length-append (danc x) (string xs) ∙ ap₂ (λ (a b : ℕ). a + b) (danc-length x) (string-room xs)

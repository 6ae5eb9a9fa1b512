-- Laws for the proofs of this crate, one path of the code at a time.
--
-- In order: low bytes; carriers; a packet's packs from its words; what a sound packet's words give; a loop that lays packs.
-- Assumes nothing.
use Prim.Native.Nat.{ℕ, zero, suc, ◌+◌, ◌-◌, ◌*◌, ◌/◌, ◌%◌, ◌≤◌, ◌<◌}
use mathlib.Core.Path.{◌≡◌, refl, sym, ap, ap₂, ◌∙◌}
use mathlib.Core.List.{List, [], ◌∷◌, ◌++◌, map}
use native.Mathlib.Omega.{arith}
use lib.ListN.{length, get_or, take, drop, length-drop}
use lib.Seq.{sets, get_or-drop, drop-drop, take_at, length-take-le}
use Rattle.rules.specs.Base.{sum, joined}
use Rattle.rules.specs.Systems.{System}
use Rattle.rules.specs.Packet.{Packet, words, coded, check_of, Sound}
use Rattle.rules.specs.Danc.{written, header, behind}
use Rattle.rules.specs.Sheet.{all_words}
use Rattle.rules.specs.Laying.{low}
use Rattle.rules.specs.Packing1.{Five, five, flat, carriers, carriers_for, packs_of, packs}
use Rattle.rules.proofs.Basics.{drop-take, sets-append, rest_part}
use Rattle.rules.proofs.Words.{packet-words}
use Rattle.rules.proofs.Packs.{flat_append, flat-length, packet-packs}
use Rattle.std.proofs.lemmas.List.{drop-map}
use Rattle.sections.specs.Sections.{SectionsOf}
use Rattle.sections.proofs.Laws.{
  Left,
  left-all,
  left-none,
  Next,
  next_of,
  next-inside,
  next-after,
  low-behind,
  head_byte0,
  head_byte1,
  header-next,
}
use Rattle.packing1.specs.Fives.{last_words, packet_fives, Roomy, LaysFives}

-- ---- low bytes

low-at : (ws : List ℕ) (i : ℕ) → i < length ws → get_or (map low ws) i 0xFF ≡ low (get_or ws i 0)
low-at [] i h = absurd (omega arith)
low-at (w ∷ ws) zero h = refl
low-at (w ∷ ws) (suc i) h = low-at ws i (omega arith)

-- ---- carriers

-- those of the first bytes, and those of the bytes behind them
carriers-join : (n m : ℕ) (s : List ℕ) → carriers (n + m) s ≡ carriers n s ++ carriers m (drop (4 * n) s)
carriers-join zero m s = let e : 0 + m ≡ m = omega arith in rw e
carriers-join (suc n) m s =
    let e : suc n + m ≡ suc (n + m) = omega arith in
    let f : 4 + 4 * n ≡ 4 * suc n = omega arith in
    ap (λ (k : ℕ). carriers k s) e
    ∙ ap (λ (t : List Five). five 0xE2 (get_or s 0 0xFF) (get_or s 1 0xFF) (get_or s 2 0xFF) (get_or s 3 0xFF) ∷ t)
    (carriers-join n m (drop 4 s)
    ∙ ap (λ (t : List ℕ). carriers n (drop 4 s) ++ carriers m t) (drop-drop (4 * n) 4 s ∙ ap (λ (k : ℕ). drop k s) f))

carriers-bytes : (i : ℕ) (s : List ℕ) → length (flat (carriers i s)) ≡ 5 * i
carriers-bytes zero s = refl
carriers-bytes (suc i) s = let k = carriers-bytes i (drop 4 s) in omega arith

-- m carriers more
carriers-laid : (us s : List ℕ) (at n m : ℕ)
    → sets (sets us at (flat (carriers n s))) (at + 5 * n) (flat (carriers m (drop (4 * n) s))) ≡ sets us at (flat (carriers (n + m) s))
carriers-laid us s at n m =
    let l = carriers-bytes n s in
    let e : at + 5 * n ≡ at + length (flat (carriers n s)) = omega arith in
    rw (
      e,
      ← sets-append (flat (carriers n s)) (flat (carriers m (drop (4 * n) s))) us at,
      ← flat_append (carriers n s) (carriers m (drop (4 * n) s)),
      ← carriers-join n m s,
    )

-- the bytes of one carrier
one-carrier : (s : List ℕ) {a b c d : ℕ} → a ≡ get_or s 0 0xFF → b ≡ get_or s 1 0xFF → c ≡ get_or s 2 0xFF → d ≡ get_or s 3 0xFF
    → 0xE2 ∷ a ∷ b ∷ c ∷ d ∷ [] ≡ flat (carriers 1 s)
one-carrier s ea eb ec ed = rw (ea, eb, ec, ed)

-- a turn of the loop that lays full carriers
pub carriers-turn : (ws us₀ us after : List ℕ) (at i : ℕ) {a b c d : ℕ} → us ≡ sets us₀ at (flat (carriers i (map low ws))) → 4 * i + 4 ≤ length ws
    → a ≡ low (get_or ws (4 * i) 0) → b ≡ low (get_or ws (4 * i + 1) 0) → c ≡ low (get_or ws (4 * i + 2) 0) → d ≡ low (get_or ws (4 * i + 3) 0)
    → after ≡ sets us (at + 5 * i) (0xE2 ∷ a ∷ b ∷ c ∷ d ∷ []) → after ≡ sets us₀ at (flat (carriers (i + 1) (map low ws)))
carriers-turn ws us₀ us after at i {a} {b} {c} {d} was h ea eb ec ed e =
    let s : List ℕ = map low ws in
    let z : 4 * i ≡ 4 * i + 0 = omega arith in
    e
    ∙ ap (sets us (at + 5 * i))
    (one-carrier (drop (4 * i) s)
    (ea ∙ ap (λ (n : ℕ). low (get_or ws n 0)) z ∙ byte 0 (omega arith))
    (eb ∙ byte 1 (omega arith))
    (ec ∙ byte 2 (omega arith))
    (ed ∙ byte 3 (omega arith)))
    ∙ ap (λ (t : List ℕ). sets t (at + 5 * i) (flat (carriers 1 (drop (4 * i) s)))) was
    ∙ carriers-laid us₀ s at i 1
  where
    byte : (j : ℕ) → 4 * i + j < length ws → low (get_or ws (4 * i + j) 0) ≡ get_or (drop (4 * i) (map low ws)) j 0xFF
    byte j h = sym (get_or-drop (4 * i) (map low ws) j 0xFF ∙ low-at ws (4 * i + j) h)

-- ---- a packet's packs from its words

-- the starter, and carriers behind it
starter-laid : (us s : List ℕ) (to dc h0 h1 : ℕ)
    → sets (sets us to (0xE1 ∷ 0xFF ∷ h0 ∷ h1 ∷ 0xFF ∷ [])) (to + 5) (flat (carriers (carriers_for dc) s))
    ≡ sets us to (flat (packet_fives dc h0 h1 s))
unfolding packet_fives
starter-laid us s to dc h0 h1 = sym (sets-append (0xE1 ∷ 0xFF ∷ h0 ∷ h1 ∷ 0xFF ∷ []) (flat (carriers (carriers_for dc) s)) us to)

-- the words behind a packet's flag: those of full carriers, and those that are left
module _ (words : List ℕ) (whole : 7 ≤ length words) where
  abbrev dc : ℕ
  dc = length words - 7

  abbrev rest : ℕ
  rest = dc % 4

  abbrev full : ℕ
  full = dc / 4 + 1

  abbrev words-behind : List ℕ
  words-behind = drop 3 words

  left-bytes : map low (last_words rest words) ≡ drop (4 * full) (map low words-behind)
  left-bytes =
      let e : 3 + 4 * full ≡ length words - rest = omega arith in
      ap (λ (n : ℕ). map low (drop n words)) (sym e)
      ∙ ap (map low) (sym (drop-drop (4 * full) 3 words))
      ∙ sym (drop-map low (4 * full) words-behind)

  -- the stores of a packet, one run after the other
  pub packet-laid : (us : List ℕ) (to h0 h1 : ℕ) {us₁ us₂ us₃ : List ℕ} → us₁ ≡ sets us to (0xE1 ∷ 0xFF ∷ h0 ∷ h1 ∷ 0xFF ∷ [])
      → us₂ ≡ sets us₁ (to + 5) (flat (carriers full (map low (take (length words - 3) (drop 3 words)))))
      → us₃ ≡ sets us₂ (to + 5 + 5 * full) (flat (carriers ((rest + 3) / 4) (map low (last_words rest words))))
      → us₃ ≡ sets us to (flat (packet_fives dc h0 h1 (map low words-behind)))
  packet-laid us to h0 h1 {us₁} {us₂} e1 e2 e3 =
      let s : List ℕ = map low words-behind in
      let m : ℕ = (rest + 3) / 4 in
      let n : full + m ≡ carriers_for dc = omega arith in
      e3
      ∙ ap₂ (λ (t v : List ℕ). sets t (to + 5 + 5 * full) (flat (carriers m v)))
      (e2 ∙ ap (λ (t : List ℕ). sets us₁ (to + 5) (flat (carriers full (map low t)))) (rest_part 3 words)) left-bytes
      ∙ carriers-laid us₁ s (to + 5) full m
      ∙ ap₂ (λ (t : List ℕ) (k : ℕ). sets t (to + 5) (flat (carriers k s))) e1 n
      ∙ starter-laid us s to dc h0 h1

-- the words of a packet that stands in section C
abbrev its_words : List ℕ → ℕ → ℕ → List ℕ
its_words ws at dc = take (at + dc + 7 - at) (drop at ws)

module _ (ws : List ℕ) (at dc : ℕ) (whole : at + (dc + 7) ≤ length ws) where
  its_words-length : length (its_words ws at dc) ≡ dc + 7
  its_words-length = let d = length-drop at ws in length-take-le (at + dc + 7 - at) (drop at ws) (omega arith) ∙ (omega arith)

  its_words-behind : drop 3 (its_words ws at dc) ≡ take (dc + 4) (drop (at + 3) ws)
  its_words-behind =
      let n : at + dc + 7 - at - 3 ≡ dc + 4 = omega arith in
      drop-take 3 (at + dc + 7 - at) (drop at ws) ∙ ap₂ take n (drop-drop 3 at ws)

  its_dc : length (its_words ws at dc) - 7 ≡ dc
  its_dc = let l = its_words-length in omega arith

  its_fives : (h0 h1 : ℕ) → packet_fives (length (its_words ws at dc) - 7) h0 h1 (map low (drop 3 (its_words ws at dc)))
      ≡ packet_fives dc h0 h1 (map low (take (dc + 4) (drop (at + 3) ws)))
  its_fives h0 h1 = ap₂ (λ (k : ℕ) (t : List ℕ). packet_fives k h0 h1 (map low t)) its_dc its_words-behind

-- it is lent with its words, and its packs have room
pub record Lent (ws : List ℕ) (at dc o : ℕ) : Type 0 where
  pub inside : at + (dc + 7) ≤ length ws
  pub long : 7 ≤ length (its_words ws at dc)
  pub room : o + 5 * (1 + carriers_for (length (its_words ws at dc) - 7)) ≤ 9360

-- ---- what a sound packet's words give

module _ (y : System) (p : Packet) (g : Sound y p) where
  -- the low bytes of its words behind the flag, where it stands in section C
  body-there : (ws r : List ℕ) (at dc : ℕ) → drop at ws ≡ words p ++ r → dc ≡ length p.user
      → map low (take (dc + 4) (drop (at + 3) ws)) ≡ behind p
  unfolding words
  body-there ws r at dc e is =
      let w = packet-words p in
      let d : drop (at + 3) ws ≡ (coded p ++ check_of p ∷ []) ++ r = sym (drop-drop 3 at ws) ∙ ap (drop 3) e in
      let l : length (coded p ++ check_of p ∷ []) ≡ dc + 4 = omega arith in
      rw (d, take_at (coded p ++ check_of p ∷ []) r (dc + 4) l) (low-behind y p g)

  -- its packs are those of its header and the bytes behind it
  packs-of : (h0 h1 : ℕ) → header (written p) ≡ h0 ∷ h1 ∷ 0xFF ∷ [] → packet_fives (length p.user) h0 h1 (behind p) ≡ packs (written p)
  unfolding packet_fives packs
  packs-of h0 h1 e = rw e

pack-bytes : (p : Packet) → length (flat (packs (written p))) ≡ 5 * packs_of p
pack-bytes p = flat-length (packs (written p)) ∙ ap (λ (n : ℕ). 5 * n) (packet-packs (written p))

-- ---- a loop that lays packs

-- once the packets that are left are laid behind those that are, all are laid
record FivesLeft (y : System) (ps : List Packet) (ls ws us₀ us : List ℕ) (k at o : ℕ) : Type 0 where
  left : List Packet
  is : Left y ls ws k at left
  count : o + 5 * sum (map packs_of left) ≡ 5 * sum (map packs_of ps)
  laid : sets us o (flat (joined packs (map written left))) ≡ sets us₀ 0 (flat (joined packs (map written ps)))

pub record FivesSoFar (ls ws us₀ us : List ℕ) (k at o : ℕ) : Type 0 where
  of : (y : System) (ps : List Packet) → SectionsOf y ps ls ws → FivesLeft y ps ls ws us₀ us k at o

pub fives-begin : {ls ws us : List ℕ} → FivesSoFar ls ws us us 0 0 0
fives-begin {ls} {ws} = record { of = λ y ps h. record { left = ps; is = left-all y ls ws ps h; count = omega arith; laid = refl } }

module _ {ls ws us₀ us : List ℕ} {k at o : ℕ} (so : FivesSoFar ls ws us₀ us k at o) where
  -- all are laid
  pub fives-done : length ls < k + 2 → LaysFives ls ws us₀ us
  fives-done end = record { laid = λ y ps h. done y ps (so.of y ps h) }
    where
      done : (y : System) (ps : List Packet) → FivesLeft y ps ls ws us₀ us k at o → us ≡ sets us₀ 0 (flat (joined packs (map written ps)))
      done y ps f =
          ap (λ (t : List Packet). sets us o (flat (joined packs (map written t)))) (sym (left-none y ls ws k at f.left f.is end)) ∙ f.laid

  module _ (more : k < length ls) where
    next-five : (y : System) (ps : List Packet) (h : SectionsOf y ps ls ws) → Next y ls ws k at (so.of y ps h).left
    next-five y ps h = let f = so.of y ps h in next_of y ls ws k at f.left f.is more

    -- how many bytes the next packet's packs have, and those that are left then
    size-next : {dc : ℕ} → dc ≡ low (get_or ws (at + 5) 0) → (y : System) (ps : List Packet) (f : FivesLeft y ps ls ws us₀ us k at o)
        (n : Next y ls ws k at f.left)
        → (5 * (1 + carriers_for dc) ≡ 5 * packs_of n.packet)
        × (o + 5 * (1 + carriers_for dc) + 5 * sum (map packs_of n.rest) ≡ 5 * sum (map packs_of ps))
    size-next {dc} size y ps f n =
        let d : dc ≡ length n.packet.user = size ∙ n.dc in
        let z : 5 * (1 + carriers_for dc) ≡ 5 * packs_of n.packet = ap (λ (m : ℕ). 5 * (1 + carriers_for m)) d in
        let s : sum (map packs_of f.left) ≡ packs_of n.packet + sum (map packs_of n.rest) =
        ap (λ (t : List Packet). sum (map packs_of t)) n.is in
        let c = f.count in
        (z, omega arith)

    -- the next packet stands in the sections, and its packs have room
    pub fives-inside : Roomy ls ws → (at + (low (get_or ws (at + 5) 0) + 7) ≤ length ws)
        × (o + 5 * (1 + carriers_for (low (get_or ws (at + 5) 0))) ≤ 9360)
    fives-inside v =
        let y = v.sections.system in
        let ps = v.sections.packets in
        let h = v.sections.of in
        let n = next-five y ps h in
        let i = next-inside y ls ws k at _ n in
        let z = (size-next refl y ps (so.of y ps h) n).1 in
        let r = v.room in
        (i.0, omega arith)

    -- what is lent of it: its words, and room for their packs
    pub fives-next : Roomy ls ws → (dc : ℕ) → dc ≡ low (get_or ws (at + 5) 0) → Lent ws at dc o
    fives-next v dc size =
        let i = fives-inside v in
        let e : at + (dc + 7) ≤ length ws = omega (arith, i.0) in
        record {
          inside = e;
          long = let l = its_words-length ws at dc e in omega arith;
          room = rw (its_dc ws at dc e, size) i.1;
        }

    -- one packet more
    pub fives-turn : {dc h0 h1 next : ℕ} {after : List ℕ} → dc ≡ low (get_or ws (at + 5) 0) → h0 ≡ head_byte0 (get_or ls k 0)
        → h1 ≡ head_byte1 (get_or ls k 0) (get_or ls (k + 1) 0) → at + (dc + 7) ≤ length ws
        → (after ≡ sets us o (flat (packet_fives (length (its_words ws at dc) - 7) h0 h1 (map low (drop 3 (its_words ws at dc))))))
        × (next ≡ o + 5 * (1 + carriers_for (length (its_words ws at dc) - 7)))
        → FivesSoFar ls ws us₀ after (k + 2) (at + (dc + 7)) next
    fives-turn {dc} {h0} {h1} {next} {after} size e0 e1 inside w = record { of = λ y ps h. turn y ps h (so.of y ps h) (next-five y ps h) }
      where
        ea : after ≡ sets us o (flat (packet_fives dc h0 h1 (map low (take (dc + 4) (drop (at + 3) ws)))))
        ea = w.0 ∙ ap (λ (t : List Five). sets us o (flat t)) (its_fives ws at dc inside h0 h1)

        en : next ≡ o + 5 * (1 + carriers_for dc)
        en = w.1 ∙ ap (λ (n : ℕ). o + 5 * (1 + carriers_for n)) (its_dc ws at dc inside)

        turn : (y : System) (ps : List Packet) → SectionsOf y ps ls ws → (f : FivesLeft y ps ls ws us₀ us k at o) → Next y ls ws k at f.left
            → FivesLeft y ps ls ws us₀ after (k + 2) (at + (dc + 7)) next
        turn y ps h f n =
            let p : Packet = n.packet in
            let qs : List Packet = n.rest in
            let d : dc ≡ length p.user = size ∙ n.dc in
            let s = size-next size y ps f n in
            let l = pack-bytes p in
            let is : packet_fives dc h0 h1 (map low (take (dc + 4) (drop (at + 3) ws))) ≡ packs (written p) =
            ap₂ (λ (m : ℕ) (t : List ℕ). packet_fives m h0 h1 t) d (body-there y p n.fine ws (all_words qs) at dc n.there d)
            ∙ packs-of y p n.fine h0 h1 (header-next y h.last n e0 e1) in
            let m : next ≡ o + 5 * (1 + carriers_for dc) = en in
            let to : next ≡ o + length (flat (packs (written p))) = omega arith in
            record {
              left = qs;
              is = next-after y ls ws k at dc f.left n size;
              count = omega arith;
              laid =
                  ap₂ (λ (t : List ℕ) (m : ℕ). sets t m (flat (joined packs (map written qs))))
                  (ea ∙ ap (λ (t : List Five). sets us o (flat t)) is) to
                  ∙ sym (sets-append (flat (packs (written p))) (flat (joined packs (map written qs))) us o)
                  ∙ ap (sets us o) (sym (flat_append (packs (written p)) (joined packs (map written qs))))
                  ∙ ap (λ (t : List Packet). sets us o (flat (joined packs (map written t)))) (sym n.is)
                  ∙ f.laid;
            }

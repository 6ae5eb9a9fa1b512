-- Laws for the proofs of this crate, and for those who take a sheet's packets from its sections, one path of the code at a time.
--
-- In order: low bytes; the sections of a sheet; the packet at a place of section C; what a sound packet's words give; the packets that
-- are left; their header bytes; a walk through section B; a loop that lays headers.
-- Assumes nothing.
use Prim.Native.Nat.{ℕ, zero, suc, ◌+◌, ◌*◌, ◌/◌, ◌%◌, ◌≤◌, ◌<◌}
use mathlib.Core.Path.{◌≡◌, refl, sym, ap, ◌∙◌}
use mathlib.Core.Bool.{cond}
use mathlib.Core.List.{List, [], ◌∷◌, ◌++◌, map, map-append, append_assoc}
use native.Mathlib.Omega.{arith}
use native.Mathlib.Numerals.{add-one}
use lib.Dec.{eqb}
use lib.ListN.{length, get_or, drop, set, length-append, length-drop, length-map, length-set, drop_of_length-le}
use lib.Seq.{sets, set-set, set_comm, get_or-drop, drop-cons, drop-drop, drop_at}
use Rattle.rules.specs.Base.{All, one}
use Rattle.rules.specs.Systems.{System, system}
use Rattle.rules.specs.Packet.{Packet, words, coded, check_of, Sound}
use Rattle.rules.specs.Danc.{written, header, behind, danc, string, bytes_of}
use Rattle.rules.specs.Sheet.{locations, all_words, locations_in, words_in}
use Rattle.rules.specs.Laying.{low}
use Rattle.rules.specs.Demands.{SheetOf}
use Rattle.rules.proofs.Blocks.{facts-of}
use Rattle.rules.proofs.Lines.{allowed-last}
use Rattle.rules.proofs.Sheets.{locations-back, words_back}
use Rattle.rules.proofs.Words.{body_bytes, coded-low, dc-low, packet-words}
use Rattle.rules.proofs.Strings.{danc-length}
use Rattle.danc.proofs.Laws.{header-written}
use Rattle.sections.specs.Sections.{SectionsOf, Sections, LaysString}

-- ---- low bytes

-- a turn of the loop that lays the low bytes of all words, and its end
pub low_turn : (ws s goal : List ℕ) (i : ℕ) {r : ℕ} → i < length ws → r ≡ low (get_or ws i 0) → sets s i (map low (drop i ws)) ≡ goal
    → sets (set s i r) (i + 1) (map low (drop (i + 1) ws)) ≡ goal
low_turn ws s goal i h e was = rw (add-one i, e) (rw (drop-cons ws i 0 h) at was)

pub low_end : (ws s goal : List ℕ) (i : ℕ) → length ws ≤ i → sets s i (map low (drop i ws)) ≡ goal → s ≡ goal
low_end ws s goal i h was = rw (drop_of_length-le ws h) at was

-- ---- the sections of a sheet

-- the sections of a list's sheet are the list's
pub sections-of : {sys : ℕ} {ps : List Packet} {s ls ws : List ℕ} → ls ≡ locations_in s → ws ≡ words_in s → SheetOf sys ps s
    → SectionsOf (system sys) ps ls ws
sections-of {sys} {ps} b c h = record {
  last = (facts-of sys h.known).last;
  sound = h.sound;
  section_b = b ∙ ap locations_in h.whole ∙ locations-back sys ps;
  section_c = c ∙ ap words_in h.whole ∙ words_back sys ps;
}

-- ---- the packet at a place of section C

module _ (ws : List ℕ) (at : ℕ) where
  pub packet-there : (p : Packet) (r : List ℕ) → drop at ws ≡ words p ++ r → at + bytes_of p ≤ length ws
  packet-there p r e =
      let d = length-drop at ws in
      let l : length (drop at ws) ≡ length (words p) + length r = ap length e ∙ length-append (words p) r in
      let w = packet-words p in
      omega arith

  pub dc-there : (p : Packet) (r : List ℕ) → length p.user < 256 → drop at ws ≡ words p ++ r → low (get_or ws (at + 5) 0) ≡ length p.user
  dc-there p r many e = ap low (sym (get_or-drop at ws 5 0) ∙ ap (λ (t : List ℕ). get_or t 5 0) e) ∙ dc-low p r many

-- ---- what a sound packet's words give

module _ (y : System) (p : Packet) (g : Sound y p) where
  -- the low bytes of the words behind the flag
  pub low-behind : map low (coded p ++ check_of p ∷ []) ≡ behind p
  low-behind =
      map-append low (coded p) (check_of p ∷ []) ∙ ap (λ (t : List ℕ). t ++ low (check_of p) ∷ []) (coded-low p (body_bytes y p g))

-- ---- the packets that are left

-- at these places of the sections stand the packets that are left, and P holds of each
pub record LeftBy (P : Packet → Type 0) (ls ws : List ℕ) (k at : ℕ) (left : List Packet) : Type 0 where
  pub each : All P left
  pub pairs : drop k ls ≡ locations left
  pub there : drop at ws ≡ all_words left

-- the next of them, and those that are left then
pub record NextBy (P : Packet → Type 0) (ls ws : List ℕ) (k at : ℕ) (left : List Packet) : Type 0 where
  pub packet : Packet
  pub rest : List Packet
  pub is : left ≡ packet ∷ rest
  pub fine : P packet
  pub pair : k + 2 ≤ length ls
  pub line : get_or ls k 0 ≡ packet.line
  pub flags : get_or ls (k + 1) 0 ≡ packet.flags
  pub there : drop at ws ≡ words packet ++ all_words rest
  pub within : at + bytes_of packet ≤ length ws
  pub dc : low (get_or ws (at + 5) 0) ≡ length packet.user
  pub after : LeftBy P ls ws (k + 2) (at + bytes_of packet) rest

first_of : (P : Packet → Type 0) (p : Packet) (ps : List Packet) → All P (p ∷ ps) → P p × All P ps
first_of P p ps (one g gs) = (g, gs)

module _ (P : Packet → Type 0) (ls ws : List ℕ) where
  -- too few numbers for a pair
  pub left-none-short : (k at : ℕ) (left : List Packet) → LeftBy P ls ws k at left → length ls < k + 2 → left ≡ []
  left-none-short k at [] l h = refl
  left-none-short k at (p ∷ qs) l h = absurd (let d = length-drop k ls in let m = ap length l.pairs in omega arith)

  pub left-none-by : (k at : ℕ) (left : List Packet) → LeftBy P ls ws k at left → length ls ≤ k → left ≡ []
  left-none-by k at left l h = left-none-short k at left l (omega arith)

  -- DC's low byte says how many user words there are: 255 at most
  pub next-of-by : ((p : Packet) → P p → length p.user < 256) → (k at : ℕ) (left : List Packet) → LeftBy P ls ws k at left → k < length ls
      → NextBy P ls ws k at left
  next-of-by many k at [] l h = absurd (let d = length-drop k ls in let m = ap length l.pairs in omega arith)
  next-of-by many k at (p ∷ qs) l h =
      let g = first_of P p qs l.each in
      let z : k ≡ k + 0 = omega arith in
      record {
        packet = p;
        rest = qs;
        is = refl;
        fine = g.0;
        pair = let d = length-drop k ls in let m = ap length l.pairs in omega arith;
        line = ap (λ (n : ℕ). get_or ls n 0) z ∙ sym (get_or-drop k ls 0 0) ∙ ap (λ (t : List ℕ). get_or t 0 0) l.pairs;
        flags = sym (get_or-drop k ls 1 0) ∙ ap (λ (t : List ℕ). get_or t 1 0) l.pairs;
        there = l.there;
        within = packet-there ws at p (all_words qs) l.there;
        dc = dc-there ws at p (all_words qs) (many p g.0) l.there;
        after = record {
          each = g.1;
          pairs = sym (drop-drop 2 k ls) ∙ ap (drop 2) l.pairs;
          there =
              sym (drop-drop (bytes_of p) at ws)
              ∙ ap (drop (bytes_of p)) l.there
              ∙ drop_at (words p) (all_words qs) (bytes_of p) (packet-words p);
        };
      }

  -- the next packet stands in the sections, its DC and its location too
  pub next-inside-by : (k at : ℕ) (left : List Packet) → NextBy P ls ws k at left
      → (at + (low (get_or ws (at + 5) 0) + 7) ≤ length ws) × (k + 2 ≤ length ls)
  next-inside-by k at left n = let w = n.within in let d = n.dc in (omega arith, n.pair)

  -- its DC + 7 words, and behind them those that are left then
  module _ (k at dc : ℕ) (left : List Packet) (n : NextBy P ls ws k at left) (size : dc ≡ low (get_or ws (at + 5) 0)) where
    next-ends : at + (dc + 7) ≡ at + bytes_of n.packet
    next-ends = let d = n.dc in omega arith

    pub next-after-by : LeftBy P ls ws (k + 2) (at + (dc + 7)) n.rest
    next-after-by = rw next-ends n.after

-- the same of sound packets
abbrev pub Left : System → List ℕ → List ℕ → ℕ → ℕ → List Packet → Type 0
Left y ls ws k at left = LeftBy (Sound y) ls ws k at left

abbrev pub Next : System → List ℕ → List ℕ → ℕ → ℕ → List Packet → Type 0
Next y ls ws k at left = NextBy (Sound y) ls ws k at left

module _ (y : System) (ls ws : List ℕ) where
  pub left-all : (ps : List Packet) → SectionsOf y ps ls ws → Left y ls ws 0 0 ps
  left-all ps h = record { each = h.sound; pairs = h.section_b; there = h.section_c }

  pub left-none : (k at : ℕ) (left : List Packet) → Left y ls ws k at left → length ls < k + 2 → left ≡ []
  left-none k at left l h = left-none-short (Sound y) ls ws k at left l h

  pub next_of : (k at : ℕ) (left : List Packet) → Left y ls ws k at left → k < length ls → Next y ls ws k at left
  next_of k at left l h = next-of-by (Sound y) ls ws (λ p g. g.many) k at left l h

  pub next-inside : (k at : ℕ) (left : List Packet) → Next y ls ws k at left
      → (at + (low (get_or ws (at + 5) 0) + 7) ≤ length ws) × (k + 2 ≤ length ls)
  next-inside k at left n = next-inside-by (Sound y) ls ws k at left n

  pub next-after : (k at dc : ℕ) (left : List Packet) (n : Next y ls ws k at left) → dc ≡ low (get_or ws (at + 5) 0)
      → Left y ls ws (k + 2) (at + (dc + 7)) n.rest
  next-after k at dc left n size = next-after-by (Sound y) ls ws k at dc left n size

-- ---- their header bytes

-- as `head0` and `head1` give them
abbrev pub head_byte0 : ℕ → ℕ
head_byte0 line = cond (eqb line 0) 0 (128 + line % 128)

abbrev pub head_byte1 : ℕ → ℕ → ℕ
head_byte1 line flags = flags % 2 * 128 + 96 + flags / 2 % 2 * 16 + line / 128 % 16

-- from the line and flags in section B
pub header-next : (y : System) → y.last < 2047 → {ls ws : List ℕ} {k at : ℕ} {left : List Packet} (n : Next y ls ws k at left) {h0 h1 : ℕ}
    → h0 ≡ head_byte0 (get_or ls k 0) → h1 ≡ head_byte1 (get_or ls k 0) (get_or ls (k + 1) 0) → header (written n.packet) ≡ h0 ∷ h1 ∷ 0xFF ∷ []
header-next y hm n e0 e1 =
    let l = allowed-last y n.packet.line n.fine.line in
    rw (e0, e1, n.line, n.flags) (header-written n.packet (omega arith) n.fine.flags)

-- ---- a walk through section B, "P pairs": two numbers at a time

-- the pairs that are left stand from a place on, up to which something is so
pub record PairsLeft (ls rest : List ℕ) (size : ℕ) (So : ℕ → Type 0) : Type 0 where
  pub place : ℕ
  pub is : rest ≡ drop place ls
  pub two : size ≡ 2
  pub so : So place

-- the next pair
pub record Pair (ls rest pair : List ℕ) (k : ℕ) : Type 0 where
  pub within : k + 2 ≤ length ls
  pub line : get_or pair 0 0 ≡ get_or ls k 0
  pub flags : get_or pair 1 0 ≡ get_or ls (k + 1) 0
  pub after : rest ≡ drop (k + 2) ls

module _ {ls rest : List ℕ} {size : ℕ} {So : ℕ → Type 0} (w : PairsLeft ls rest size So) where
  pub next-pair : (pair later : List ℕ) → (rest ≡ pair ++ later) × (length pair ≡ size) → Pair ls later pair w.place
  next-pair pair later e = go pair (sym w.is ∙ e.0) (e.1 ∙ w.two)
    where
      go : (pair : List ℕ) → drop w.place ls ≡ pair ++ later → length pair ≡ 2 → Pair ls later pair w.place
      go [] e l = absurd (omega arith)
      go (a ∷ []) e l = absurd (omega arith)
      go (a ∷ b ∷ c ∷ t) e l = absurd (omega arith)
      go (a ∷ b ∷ []) e l =
          let z : w.place + 0 ≡ w.place = omega arith in
          record {
            within = let d = length-drop w.place ls in let m = ap length e in omega arith;
            line = ap (λ (t : List ℕ). get_or t 0 0) (sym e) ∙ get_or-drop w.place ls 0 0 ∙ ap (λ (n : ℕ). get_or ls n 0) z;
            flags = ap (λ (t : List ℕ). get_or t 1 0) (sym e) ∙ get_or-drop w.place ls 1 0;
            after = ap (drop 2) (sym e) ∙ drop-drop 2 w.place ls;
          }

  pub pairs-end : length rest < size → length ls < w.place + 2
  pairs-end h = let t = w.two in let d = length-drop w.place ls in let m = ap length w.is in omega arith

-- ---- a loop that lays headers

-- a store before a run of stores, and over one of them
set_before : (l vs : List ℕ) (i j v : ℕ) → i < j → set (sets l j vs) i v ≡ sets (set l i v) j vs
set_before l [] i j v h = refl
set_before l (a ∷ vs) i j v h =
    set_before (set l j a) vs i (suc j) v (omega arith)
    ∙ ap (λ (t : List ℕ). sets t (suc j) vs) (set_comm l j i a v (λ e. absurd (omega arith)))

set-over : (l vs : List ℕ) (i j n v : ℕ) → n ≡ i + j → j < length vs → set (sets l i vs) n v ≡ sets l i (set vs j v)
set-over l [] i j n v is h = absurd (omega arith)
set-over l (a ∷ vs) i zero n v is h =
    let e : n ≡ i = omega arith in
    rw e (set_before (set l i a) vs i (suc i) v (omega arith) ∙ ap (λ (t : List ℕ). sets t (suc i) vs) (set-set l i a v))
set-over l (a ∷ vs) i (suc j) n v is h = set-over (set l i a) vs (suc i) j n v (omega arith) (omega arith)

-- a packet's low bytes, with its first header bytes over the flag's: the third stands there
header-over : (y : System) (p : Packet) → Sound y p → (front ws : List ℕ) (h0 h1 : ℕ) → header (written p) ≡ h0 ∷ h1 ∷ 0xFF ∷ []
    → set (set (front ++ map low (words p ++ ws)) (length front) h0) (length front + 1) h1 ≡ (front ++ danc (written p)) ++ map low ws
unfolding words danc
header-over y p g front ws h0 h1 e =
    two-over front (low 0x000) (low 0x3FF) (low 0x3FF ∷ map low ((coded p ++ check_of p ∷ []) ++ ws)) h0 h1
    ∙ ap (λ (t : List ℕ). front ++ h0 ∷ h1 ∷ 0xFF ∷ t)
    (map-append low (coded p ++ check_of p ∷ []) ws ∙ ap (λ (t : List ℕ). t ++ map low ws) (low-behind y p g))
    ∙ ap (λ (t : List ℕ). front ++ ((t ++ behind p) ++ map low ws)) (sym e)
    ∙ sym (append_assoc front (header (written p) ++ behind p) (map low ws))
  where
    two-over : (front : List ℕ) (a b : ℕ) (t : List ℕ) (x z : ℕ)
        → set (set (front ++ a ∷ b ∷ t) (length front) x) (length front + 1) z ≡ front ++ x ∷ z ∷ t
    two-over [] a b t x z = refl
    two-over (d ∷ front) a b t x z =
        let e : suc (length front) + 1 ≡ suc (length front + 1) = omega arith in
        rw e (ap (λ (l : List ℕ). d ∷ l) (two-over front a b t x z))

-- the string as far as it is laid, and low bytes behind it, where the low bytes of all words were stored before
record HeadsLeft (y : System) (ps : List Packet) (ls ws s₀ s : List ℕ) (k at : ℕ) : Type 0 where
  left : List Packet
  is : Left y ls ws k at left
  front : List ℕ
  long : length front ≡ at
  goal : front ++ string (map written left) ≡ string (map written ps)
  bytes : (before : List ℕ) → s₀ ≡ sets before 0 (map low ws) → s ≡ sets before 0 (front ++ map low (all_words left))

pub record HeadsSoFar (ls ws s₀ s : List ℕ) (k at : ℕ) : Type 0 where
  of : (y : System) (ps : List Packet) → SectionsOf y ps ls ws → HeadsLeft y ps ls ws s₀ s k at

pub heads-begin : {ls ws s : List ℕ} → HeadsSoFar ls ws s s 0 0
heads-begin {ls} {ws} = record {
  of = λ y ps h. record {
    left = ps;
    is = left-all y ls ws ps h;
    front = [];
    long = refl;
    goal = refl;
    bytes = λ before e. e ∙ ap (λ (t : List ℕ). sets before 0 (map low t)) h.section_c;
  };
}

module _ {ls ws s₀ s : List ℕ} {k at : ℕ} (so : HeadsSoFar ls ws s₀ s k at) where
  module _ (more : k < length ls) where
    next-head : (y : System) (ps : List Packet) (h : SectionsOf y ps ls ws) → Next y ls ws k at (so.of y ps h).left
    next-head y ps h = let f = so.of y ps h in next_of y ls ws k at f.left f.is more

    -- the next packet stands in the sections
    pub heads-inside : Sections ls ws → (at + (low (get_or ws (at + 5) 0) + 7) ≤ length ws) × (k + 2 ≤ length ls)
    heads-inside v = next-inside v.system ls ws k at _ (next-head v.system v.packets v.of)

    -- one header more
    pub heads-turn : {dc h0 h1 : ℕ} → dc ≡ low (get_or ws (at + 5) 0) → h0 ≡ head_byte0 (get_or ls k 0)
        → h1 ≡ head_byte1 (get_or ls k 0) (get_or ls (k + 1) 0)
        → HeadsSoFar ls ws s₀ (set (set s at h0) (at + 1) h1) (k + 2) (at + (dc + 7))
    heads-turn {dc} {h0} {h1} size e0 e1 = record { of = λ y ps h. turn y ps h (so.of y ps h) (next-head y ps h) }
      where
        turn : (y : System) (ps : List Packet) → SectionsOf y ps ls ws → (f : HeadsLeft y ps ls ws s₀ s k at) → Next y ls ws k at f.left
            → HeadsLeft y ps ls ws s₀ (set (set s at h0) (at + 1) h1) (k + 2) (at + (dc + 7))
        turn y ps h f n =
            let p : Packet = n.packet in
            let qs : List Packet = n.rest in
            let v : List ℕ = f.front ++ map low (words p ++ all_words qs) in
            let l = length-append f.front (danc (written p)) in
            let d = danc-length (written p) in
            let m = f.long in
            let two : at + 2 ≤ length v =
            let a = length-append f.front (map low (words p ++ all_words qs)) in
            let b = length-map (words p ++ all_words qs) low in
            let c = length-append (words p) (all_words qs) in
            let w = packet-words p in
            omega arith in
            let z = length-set v at h0 in
            record {
              left = qs;
              is = next-after y ls ws k at dc f.left n size;
              front = f.front ++ danc (written p);
              long = let w = next-ends (Sound y) ls ws k at dc f.left n size in omega arith;
              goal =
                  append_assoc f.front (danc (written p)) (string (map written qs))
                  ∙ ap (λ (t : List Packet). f.front ++ string (map written t)) (sym n.is)
                  ∙ f.goal;
              bytes = λ before e.
                  ap (λ (t : List ℕ). set (set t at h0) (at + 1) h1)
                  (f.bytes before e ∙ ap (λ (t : List Packet). sets before 0 (f.front ++ map low (all_words t))) n.is)
                  ∙ ap (λ (t : List ℕ). set t (at + 1) h1) (set-over before v 0 at at h0 (omega arith) (omega arith))
                  ∙ set-over before (set v at h0) 0 (at + 1) (at + 1) h1 (omega arith) (omega arith)
                  ∙ ap (sets before 0)
                  (ap (λ (m : ℕ). set (set v m h0) (m + 1) h1) (sym f.long)
                  ∙ header-over y p n.fine f.front (all_words qs) h0 h1 (header-next y h.last n e0 e1));
            }

  -- all headers are laid
  pub heads_done : length ls < k + 2 → (before : List ℕ) → s₀ ≡ sets before 0 (map low ws) → LaysString ls ws before s
  heads_done end before e = record { laid = λ y ps h. done y ps (so.of y ps h) }
    where
      done : (y : System) (ps : List Packet) → HeadsLeft y ps ls ws s₀ s k at → s ≡ sets before 0 (string (map written ps))
      done y ps f =
          let n : f.left ≡ [] = left-none y ls ws k at f.left f.is end in
          f.bytes before e
          ∙ ap (λ (t : List Packet). sets before 0 (f.front ++ map low (all_words t))) n
          ∙ ap (λ (t : List Packet). sets before 0 (f.front ++ string (map written t))) (sym n)
          ∙ ap (sets before 0) f.goal

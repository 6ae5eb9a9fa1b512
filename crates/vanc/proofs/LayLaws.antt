-- What each way through the code of `laying` says of the rules, over plain values.
--
-- In order: fill; the frame; packing 1; packing 2; the room (12); the tests before it.
-- Assumes nothing.
use Prim.Native.Nat.{ℕ, zero, suc, ◌+◌, ◌-◌, ◌*◌, ◌/◌, ◌≤◌, ◌<◌}
use mathlib.Core.Path.{◌≡◌, refl, sym, ap, ap₂, ◌∙◌, subst}
use mathlib.Core.Bool.{Bool, true, false, cond}
use Rattle.std.proofs.Common.{Some, None, Result, Ok, Err}
use mathlib.Core.List.{List, [], ◌++◌, append_assoc, map}
use native.Mathlib.Nat.{sub-zero}
use native.Mathlib.Omega.{arith}
use lib.Dec.{eqb}
use lib.ListN.{length, take, drop, length-replicate, replicate-append-replicate}
use lib.Seq.{sets, sets-eq, take_at, drop_at}
use borrow.Author.Tests.{leb-true, le-leb, lt-leb, eqb-true, eqb-false, eq-eqb, ne_eqb}
use Rattle.rules.specs.Base.{sum, joined}
use Rattle.rules.specs.Systems.{System, known, system}
use Rattle.rules.specs.Packet.{Packet}
use Rattle.rules.specs.Danc.{written, string, string_byte_count, packets_of}
use Rattle.rules.specs.Sheet.{system_in, locations_in, words_in}
use Rattle.rules.specs.Blocks.{shift, width, runs, block_sizes, area_size, scatter}
use Rattle.rules.specs.Packing1.{flat, packs, packs_of}
use Rattle.rules.specs.Packing2.{fill, long_packs, string_room, long_count}
use Rattle.rules.specs.Packings.{is_packing, user_bytes, laid_bytes, capacity, needed, fits, packs_laid}
use Rattle.rules.specs.Numbers.{Outcome, listed, refused, unless, and_then}
use Rattle.rules.specs.Laying.{word_at, from_packet, shaped, list_tests, sheet_tests, laying, laid_of, laid_with, laid_in, area_of}
use Rattle.rules.specs.Lister.{tested_of, tested}
use Rattle.rules.specs.Refusals.{number, Told, tell, told}
use Rattle.rules.specs.declared.Refused.{Refused}
use Rattle.rules.specs.declared.Refusal.TheVariants.{
  Packing as NoPacking,
  Shape,
  System as NoSystem,
  AreaLength,
  PacketLimit,
  Location,
  Flag,
  Word,
  CutOff,
  Checksum,
  PacketCount,
  Room,
  Packs,
  Length,
  StoredChecksum,
  Line,
  Buffer,
  NoLine,
  Element,
  PictureLine,
  EightBits,
}
use Rattle.rules.specs.declared.Refusal.{Refusal}
use Rattle.rules.specs.Demands.{SheetOf, Tests, Lays}
use Rattle.rules.specs.declared.Laid.{Laid}
use Rattle.rules.specs.declared.Tested.{Tested}
use Rattle.rules.proofs.Basics.{written_back}
use Rattle.rules.proofs.Words.{words-room}
use Rattle.rules.proofs.Blocks.{facts-of, scatter-front, each-system}
use Rattle.rules.proofs.Packs.{flat-length}
use Rattle.rules.proofs.Lister.{tests, bytes_counted, packs-laid-counted}
use Rattle.rules.proofs.Sheets.{system-back, Told as NumberTold, sheet-told}
use Rattle.rules.proofs.Users.{users-length}
use Rattle.rules.proofs.Laying.{lays-outcome, refuses-packing as packing-refused, refuses-shape, passed-list}
use Rattle.frame.specs.Systems.{figures_of, figures_found}
use Rattle.frame.specs.Bytes.{area_with}
use Rattle.frame.specs.declared.Figures.{Figures}
use Rattle.frame.proofs.Laws.{area-is, found_known, found_is, found_none}
use Rattle.sections.specs.Sections.{SectionsOf, Sections, LaysString}
use Rattle.sections.proofs.Laws.{sections-of}
use Rattle.packing1.specs.Fives.{Roomy, LaysFives}
use Rattle.packing2.specs.Long.{Padded, long_fits, long_after, CountOf}
use Rattle.packet.specs.Tests.{told_by}
use Rattle.sheet.specs.Telling.{header_of, tested_from}
use Rattle.sheet.specs.declared.Header.{Header}
use Rattle.sheet.proofs.Laws.{shaped-long, tested-is}
use Rattle.vanc.specs.declared.laying.Packing.{Packing}
use Rattle.vanc.specs.declared.laying.Packing.TheVariants.{Fives, Long}
use Rattle.vanc.specs.Whole.{whole}
use Rattle.vanc.specs.Lay.{number_of_packing, packing_of, success_of, given_of, TellsSheet, LaysInto, last_test, Passed, LaysList}

-- ---- fill

drop-fill : (k n : ℕ) → drop k (fill n) ≡ fill (n - k)
drop-fill zero n = rw sub-zero
drop-fill (suc k) zero = let e : 0 - suc k ≡ 0 = omega arith in rw e
drop-fill (suc k) (suc n) = let e : suc n - suc k ≡ n - k = omega arith in rw e (drop-fill k n)

-- what is behind k bytes of fill, in two parts
fill-parts : (n k m : ℕ) → k ≤ m → m ≤ n → drop k (fill n) ≡ fill (m - k) ++ fill (n - m)
fill-parts n k m h g =
    let e : n - k ≡ m - k + (n - m) = omega arith in
    rw (drop-fill k n, e) (sym (replicate-append-replicate (m - k) (n - m) 0xFF))

-- bytes stored over fill, from the front on
over-fill : (n k : ℕ) (s : List ℕ) → length s ≡ k → k ≤ n → sets (fill n) 0 s ≡ s ++ drop k (fill n)
over-fill n k s e h =
    let l : length (fill n) ≡ n = length-replicate n 0xFF in
    let z : 0 + length s ≡ k = omega arith in
    sets-eq s (fill n) 0 (omega arith) ∙ ap (λ (m : ℕ). s ++ drop m (fill n)) z

-- ---- the frame

-- the user bytes and the string bytes of a frame are no more than the buffers hold
abbrev Small : System → Type 0
Small y = (sum (block_sizes y) ≤ 9360) × (string_room (block_sizes y) ≤ 9000)

small_of : (sys : ℕ) → Small (system sys)
unfolding runs shift width
small_of =
    each-system (λ (y : System) (k : Bool). Small y)
    (omega arith, omega arith)
    (omega arith, omega arith)
    (omega arith, omega arith)
    (omega arith, omega arith)

-- user bytes that begin with those of a list that fits, spread over the frame's own area
module _ (k sys : ℕ) (ps : List Packet) (area : List ℕ) (kn : known sys ≡ true) (own : length area ≡ area_size (system sys))
    (f : fits k (block_sizes (system sys)) ps ≡ true) where
  abbrev y : System
  y = system sys

  spread-laid : (us more after : List ℕ) → us ≡ laid_bytes k (block_sizes y) ps ++ more → after ≡ area_with sys us area
      → after ≡ scatter (runs y) (laid_bytes k (block_sizes y) ps) area
  unfolding area_with
  spread-laid us more after e a =
      let fs = facts-of sys kn in
      let g : fits k (block_sizes y) (packets_of (map written ps)) ≡ true = rw (written_back ps) f in
      let l : length (laid_bytes k (block_sizes y) ps) ≡ sum (block_sizes y) =
      users-length y fs.last (block_sizes y) fs.packs fs.roomy fs.whole k [] (map written ps) g in
      a ∙ rw (kn, eq-eqb (length area) (area_size y) own, e) (scatter-front (runs y) (laid_bytes k (block_sizes y) ps) more area l)

-- ---- packing 1

-- what fits is no more packs than the frame's
fits1 : (sys : ℕ) (ps : List Packet) → fits 1 (block_sizes (system sys)) ps ≡ true → sum (map packs_of ps) ≤ sum (block_sizes (system sys)) / 5
unfolding needed capacity
fits1 sys ps f = leb-true (sum (map packs_of ps)) (sum (block_sizes (system sys)) / 5) f

packs_bytes : (ps : List Packet) → length (flat (joined packs (map written ps))) ≡ 5 * sum (map packs_of ps)
packs_bytes ps = flat-length (joined packs (map written ps)) ∙ ap (λ (m : ℕ). 5 * m) (sym (packs-laid-counted ps))

bytes1 : (sizes : List ℕ) (ps : List Packet)
    → laid_bytes 1 sizes ps ≡ flat (joined packs (map written ps)) ++ fill (sum sizes - 5 * sum (map packs_of ps))
unfolding user_bytes
bytes1 sizes ps = ap (λ (m : ℕ). flat (joined packs (map written ps)) ++ fill (sum sizes - m)) (packs_bytes ps)

-- the packs over fill are the list's user bytes, and fill behind them
pub laid1 : (sys : ℕ) (ls ws us area after : List ℕ) → LaysFives ls ws (fill 9360) us → after ≡ area_with sys us area
    → LaysInto 1 sys ls ws area after
laid1 sys ls ws us area after w a = record { laid = done }
  where
    done : (ps : List Packet) → known sys ≡ true → length area ≡ area_size (system sys) → SectionsOf (system sys) ps ls ws
        → fits 1 (block_sizes (system sys)) ps ≡ true
        → after ≡ scatter (runs (system sys)) (laid_bytes 1 (block_sizes (system sys)) ps) area
    done ps kn own sec f =
        let P : List ℕ = flat (joined packs (map written ps)) in
        let n : ℕ = 5 * sum (map packs_of ps) in
        let m : ℕ = sum (block_sizes (system sys)) in
        let h = fits1 sys ps f in
        let b = (small_of sys).0 in
        let i : n ≤ m = omega arith in
        let l = packs_bytes ps in
        let e : us ≡ laid_bytes 1 (block_sizes (system sys)) ps ++ fill (9360 - m) =
        w.laid (system sys) ps sec
        ∙ over-fill 9360 n P l (omega arith)
        ∙ ap (λ (t : List ℕ). P ++ t) (fill-parts 9360 n m i b)
        ∙ sym (append_assoc P (fill (m - n)) (fill (9360 - m)))
        ∙ ap (λ (t : List ℕ). t ++ fill (9360 - m)) (sym (bytes1 (block_sizes (system sys)) ps)) in
        spread-laid 1 sys ps area kn own f us (fill (9360 - m)) after e a

-- ---- packing 2

fits2 : (sys : ℕ) (ps : List Packet) → fits 2 (block_sizes (system sys)) ps ≡ true → string_byte_count ps ≤ string_room (block_sizes (system sys))
unfolding needed capacity
fits2 sys ps f = leb-true (string_byte_count ps) (string_room (block_sizes (system sys))) f

bytes2 : (sizes : List ℕ) (ps : List Packet) → laid_bytes 2 sizes ps ≡ long_packs sizes [] (string (map written ps))
unfolding user_bytes
bytes2 sizes ps = refl

-- the string over fill is padded, and its packs are the list's user bytes
pub laid2 : (sys : ℕ) (ls ws s area after : List ℕ) → LaysString ls ws (fill 9000) s
    → (Padded (length ws) s → after ≡ long_after sys (length ws) s area) → LaysInto 2 sys ls ws area after
unfolding long_after long_fits
laid2 sys ls ws s area after w v = record { laid = done }
  where
    done : (ps : List Packet) → known sys ≡ true → length area ≡ area_size (system sys) → SectionsOf (system sys) ps ls ws
        → fits 2 (block_sizes (system sys)) ps ≡ true
        → after ≡ scatter (runs (system sys)) (laid_bytes 2 (block_sizes (system sys)) ps) area
    done ps kn own sec f =
        let sizes : List ℕ = block_sizes (system sys) in
        let h = fits2 sys ps f in
        let b = (small_of sys).1 in
        let l : length ws ≡ string_byte_count ps = ap length sec.section_c ∙ words-room ps in
        let m : length (string (map written ps)) ≡ length ws = sym (l ∙ bytes_counted ps) in
        let e : s ≡ string (map written ps) ++ fill (9000 - length ws) =
        w.laid (system sys) ps sec
        ∙ over-fill 9000 (length ws) (string (map written ps)) m (omega arith)
        ∙ ap (λ (t : List ℕ). string (map written ps) ++ t) (drop-fill (length ws) 9000) in
        let p : Padded (length ws) s = ap (drop (length ws)) e ∙ drop_at (string (map written ps)) (fill (9000 - length ws)) (length ws) m in
        let t : take (length ws) s ≡ string (map written ps) =
        ap (take (length ws)) e ∙ take_at (string (map written ps)) (fill (9000 - length ws)) (length ws) m in
        let fit = le-leb (length ws) (string_room sizes) (omega arith) in
        v p ∙ rw (kn, eq-eqb (length area) (area_size (system sys)) own, fit, t, bytes2 sizes ps)

-- ---- the room

-- the figures that the code compares, for a list that passed the tests before
module _ (sys : ℕ) (ps : List Packet) (t : Header) (e : t ≡ header_of sys ps) (g : Figures) (x : g ≡ figures_of t.system) where
  its : t.system ≡ sys
  its = ap (λ (v : Header). v.system) e

  room1 : (g.packs ≡ capacity 1 (block_sizes (system sys))) × (t.counts.packs ≡ needed 1 ps)
  unfolding figures_of needed
  room1 = (ap (λ (h : Figures). h.packs) (x ∙ ap figures_of its), ap (λ (v : Header). v.counts.packs) e)

  room2 : (g.string_bytes ≡ capacity 2 (block_sizes (system sys))) × (t.counts.bytes ≡ needed 2 ps)
  unfolding figures_of needed
  room2 = (ap (λ (h : Figures). h.string_bytes) (x ∙ ap figures_of its), ap (λ (v : Header). v.counts.bytes) e)

-- the sections of a list that is within the room, as the calls that lay them ask
module _ (t : Header) (s : List ℕ) (p : Passed t s) (g : Figures) (x : g ≡ figures_of t.system) {ls ws : List ℕ} (b : ls ≡ locations_in s)
    (c : ws ≡ words_in s) where
  abbrev its-sections : Sections ls ws
  its-sections = record { system = system t.system; packets = p.packets; of = sections-of b c p.sheet }

  pub roomy1 : t.counts.packs ≤ g.packs → Roomy ls ws
  roomy1 h =
      let sys = t.system in
      let ps = p.packets in
      let w = room1 sys ps t p.figures g x in
      let f = fits1 sys ps (le-leb (needed 1 ps) (capacity 1 (block_sizes (system sys))) (omega arith)) in
      let m = (small_of sys).0 in
      record { sections = its-sections; room = omega arith }

  pub roomy2 : t.counts.bytes ≤ g.string_bytes → Sections ls ws × (length ws ≤ 9000)
  roomy2 h =
      let sys = t.system in
      let ps = p.packets in
      let w = room2 sys ps t p.figures g x in
      let f = fits2 sys ps (le-leb (needed 2 ps) (capacity 2 (block_sizes (system sys))) (omega arith)) in
      let m = (small_of sys).1 in
      let l : length ws ≡ string_byte_count ps = ap length its-sections.of.section_c ∙ words-room ps in
      (its-sections, omega arith)

abbrev Given : ℕ → ℕ → List Packet → List ℕ → Laid → List ℕ → Type 0
Given k sys ps area r after =
    (r ≡ laid_of k (system sys) (last_test k sys ps)) × (after ≡ area_of k (system sys) area (last_test k sys ps))

-- a list over the room, and one within it
too-full : (k sys : ℕ) (ps : List Packet) (area : List ℕ) (r : Laid) → capacity k (block_sizes (system sys)) < needed k ps
    → r ≡ laid_of 1 (system 1) (refused 12 0) → Given k sys ps area r area
too-full k sys ps area r h q = rw (lt-leb (needed k ps) (capacity k (block_sizes (system sys))) h) (q, refl)

within-room : (k sys : ℕ) (ps : List Packet) (area : List ℕ) (r : Laid) (after : List ℕ) → fits k (block_sizes (system sys)) ps ≡ true
    → r ≡ laid_of k (system sys) (listed ps) → after ≡ area_of k (system sys) area (listed ps) → Given k sys ps area r after
within-room k sys ps area r after f q a = rw f (q, a)

-- the answer of a refusal that names no place
full : (e : Refused) → e ≡ whole Room → given_of (Err e) ≡ laid_of 1 (system 1) (refused 12 0)
full e q = ap (λ (x : Refused). given_of (Err x)) q

module _ (t : Header) (s area : List ℕ) (g : Figures) (x : g ≡ figures_of t.system) where
  -- packing 1
  pub full1 : (e : Refused) → g.packs < t.counts.packs → e ≡ whole Room → LaysList 1 t s area (given_of (Err e)) area
  full1 r h q =
      record {
        laid = λ sys ps a e. let w = room1 sys ps t e g x in too-full 1 sys ps area (given_of (Err r)) (omega arith) (full r q);
      }

  pub done1 : {ls ws : List ℕ} → ls ≡ locations_in s → ws ≡ words_in s → (after : List ℕ) (r : Laid) → t.counts.packs ≤ g.packs
      → LaysInto 1 t.system ls ws area after → r ≡ success_of t.counts.packs t.counts.bytes → LaysList 1 t s area r after
  unfolding packs_laid
  done1 {ls} {ws} b c after r h v q =
      record {
        laid =
            λ sys ps a e.
            let w = room1 sys ps t e g x in
            let f : fits 1 (block_sizes (system sys)) ps ≡ true = le-leb (needed 1 ps) (capacity 1 (block_sizes (system sys))) (omega arith) in
            let u = subst (λ (n : ℕ). LaysInto 1 n ls ws area after) (its sys ps t e g x) v in
            within-room 1 sys ps area r after f
            (q ∙ ap (λ (z : Header). success_of z.counts.packs z.counts.bytes) e)
            (u.laid ps a.sheet.known a.own (sections-of b c a.sheet) f);
      }

  -- packing 2
  pub full2 : (e : Refused) → g.string_bytes < t.counts.bytes → e ≡ whole Room → LaysList 2 t s area (given_of (Err e)) area
  full2 r h q =
      record {
        laid = λ sys ps a e. let w = room2 sys ps t e g x in too-full 2 sys ps area (given_of (Err r)) (omega arith) (full r q);
      }

  pub done2 : {ls ws : List ℕ} → ls ≡ locations_in s → ws ≡ words_in s → (after : List ℕ) (n : ℕ) (r : Laid) → t.counts.bytes ≤ g.string_bytes
      → LaysInto 2 t.system ls ws area after → CountOf t.counts.bytes n → r ≡ success_of n t.counts.bytes → LaysList 2 t s area r after
  unfolding packs_laid needed capacity
  done2 {ls} {ws} b c after n r h v counted q =
      record {
        laid =
            λ sys ps a e.
            let w = room2 sys ps t e g x in
            let f : fits 2 (block_sizes (system sys)) ps ≡ true = le-leb (needed 2 ps) (capacity 2 (block_sizes (system sys))) (omega arith) in
            let u = subst (λ (m : ℕ). LaysInto 2 m ls ws area after) (its sys ps t e g x) v in
            let m : n ≡ packs_laid 2 (block_sizes (system sys)) ps =
            counted sys a.sheet.known (omega arith) ∙ ap (long_count (block_sizes (system sys))) w.1 in
            within-room 2 sys ps area r after f (q ∙ ap₂ success_of m w.1) (u.laid ps a.sheet.known a.own (sections-of b c a.sheet) f);
      }

-- ---- the tests before it

-- a packing that is found is one, and has its number
pub found-packing : (k : ℕ) (p : Packing) → Some p ≡ packing_of k → (is_packing k ≡ true) × (k ≡ number_of_packing p)
unfolding is_packing
found-packing k p e = go (eqb k 1) refl (eqb k 2) refl e
  where
    go : (a : Bool) → eqb k 1 ≡ a → (b : Bool) → eqb k 2 ≡ b → Some p ≡ cond a (Some Fives) (cond b (Some Long) None)
        → (is_packing k ≡ true) × (k ≡ number_of_packing p)
    go true q b r h = let z : p ≡ Fives = cc in (rw q, eqb-true k 1 q ∙ ap number_of_packing (sym z))
    go false q true r h = let z : p ≡ Long = cc in (rw (q, r), eqb-true k 2 r ∙ ap number_of_packing (sym z))
    go false q false r h = absurd (cc)

pub no-packing : (k : ℕ) → None ≡ packing_of k → is_packing k ≡ false
unfolding is_packing
no-packing k e = go (eqb k 1) refl (eqb k 2) refl e
  where
    go : (a : Bool) → eqb k 1 ≡ a → (b : Bool) → eqb k 2 ≡ b → None ≡ cond a (Some Fives) (cond b (Some Long) None) → is_packing k ≡ false
    go true q b r h = absurd (cc)
    go false q true r h = absurd (cc)
    go false q false r h = rw (q, r)

-- what the tests of a sheet tell is what they give back
tests-of : (s : List ℕ) (r : Result Header Refused) → TellsSheet s r → Tests s (tested_from r)
tests-of s r e = tests s (tested_from r) (tested-is s r e)

number-told : (s : List ℕ) (t : Tested) → Tests s t → NumberTold s t.number
unfolding tested
number-told s t w = go (sheet_tests s) refl (ap (λ (x : Tested). x.number) w.answer)
  where
    go : (o : Outcome) → sheet_tests s ≡ o → t.number ≡ (tested_of (system_in s) o).number → NumberTold s t.number
    go (listed ps) e n = subst (NumberTold s) (sym n) (sheet-told s (listed ps) e)
    go (refused m i) e n = subst (NumberTold s) (sym n) (sheet-told s (refused m i) e)

-- only the refusal of the shape has number 2
shape-number : (x : Refusal) → number x ≡ 2 → x ≡ Shape
shape-number Shape e = refl
shape-number NoPacking e = absurd (omega arith)
shape-number NoSystem e = absurd (omega arith)
shape-number AreaLength e = absurd (omega arith)
shape-number PacketLimit e = absurd (omega arith)
shape-number Location e = absurd (omega arith)
shape-number Flag e = absurd (omega arith)
shape-number Word e = absurd (omega arith)
shape-number CutOff e = absurd (omega arith)
shape-number Checksum e = absurd (omega arith)
shape-number PacketCount e = absurd (omega arith)
shape-number Room e = absurd (omega arith)
shape-number Packs e = absurd (omega arith)
shape-number Length e = absurd (omega arith)
shape-number StoredChecksum e = absurd (omega arith)
shape-number Line e = absurd (omega arith)
shape-number Buffer e = absurd (omega arith)
shape-number NoLine e = absurd (omega arith)
shape-number Element e = absurd (omega arith)
shape-number PictureLine e = absurd (omega arith)
shape-number EightBits e = absurd (omega arith)

-- a sheet whose shape is not refused is shaped
shaped-past : (s : List ℕ) (t : Tested) → Tests s t → (t.number ≡ 2 → ⊥) → shaped s ≡ true
shaped-past s t w n = go (eqb t.number 3) refl
  where
    go : (b : Bool) → eqb t.number 3 ≡ b → shaped s ≡ true
    go true q = ((number-told s t w).three (eqb-true t.number 3 q)).0
    go false q = ((number-told s t w).rest n (eqb-false t.number 3 q)).0

other-number : (r : Result Header Refused) → ((e : Refused) → r ≡ Err e → e.refusal ≡ Shape → ⊥) → (tested_from r).number ≡ 2 → ⊥
other-number (Ok h) n z = absurd (omega arith)
other-number (Err e) n z = n e refl (shape-number e.refusal z)

pub is-shaped : (s : List ℕ) (r : Result Header Refused) → TellsSheet s r → ((e : Refused) → r ≡ Err e → e.refusal ≡ Shape → ⊥) → shaped s ≡ true
is-shaped s r w n = shaped-past s (tested_from r) (tests-of s r w) (other-number r n)

-- and has a number for its system
pub system-within : (s : List ℕ) → shaped s ≡ true → 1 < length s
system-within s e = let l = shaped-long s e in omega arith

-- the header of a sheet's figures
abbrev header-from : Tested → Header
header-from v = record { system = v.system; counts = record { packets = v.packets; bytes = v.bytes; packs = v.packs } }

-- what is given back of a refusal is what is told of it
abbrev given-told : Told → Laid
given-told x = laid_with x.word (laid_of 1 (system 1) (refused x.number x.place))

-- a sheet that passes is the sheet of a list, of the system that it names
pub passed : (s : List ℕ) (h : Header) → TellsSheet s (Ok h) → Passed h s × (h.system ≡ system_in s)
passed s h e =
    let w = tests-of s (Ok h) e in
    let o = w.only refl in
    let f = w.passes o.0 o.1 o.2 in
    let y : o.0 ≡ h.system = sym (ap (λ (v : Tested). v.system) f) in
    let i : system_in s ≡ o.0 = ap system_in o.2.whole ∙ system-back o.0 o.1 in
    let g : h ≡ header_of h.system o.1 = ap header-from f ∙ ap (λ (m : ℕ). header_of m o.1) y in
    (record { packets = o.1; sheet = subst (λ (m : ℕ). SheetOf m o.1 s) y o.2; figures = g }, sym (i ∙ y))

module _ (k : ℕ) (s area : List ℕ) where
  -- 1
  pub refuses-packing : (e : Refused) → None ≡ packing_of k → e ≡ whole NoPacking → Lays k s area (given_of (Err e)) area
  unfolding word_at
  refuses-packing e n q =
      lays-outcome k s area (given_of (Err e)) area (refused 1 0) (packing-refused k s area (no-packing k n))
      (ap (λ (x : Refused). given_of (Err x)) q, refl)

  -- a refusal of the sheet's tests is given back with its word
  told-given : (e : Refused) (n i : ℕ) → TellsSheet s (Err e) → sheet_tests s ≡ refused n i
      → given_of (Err e) ≡ laid_in k (system (system_in s)) (words_in s) (refused n i)
  told-given e n i w q =
      let h = w ∙ ap (told_by word_at (header_of (system_in s)) (words_in s)) q in
      let z : told e ≡ tell n i (word_at n (from_packet i (words_in s))) = cc in
      ap given-told z

  module _ (pk : is_packing k ≡ true) where
    -- 2
    pub no-shape : (e : Refused) → TellsSheet s (Err e) → e.refusal ≡ Shape → Lays k s area (given_of (Err e)) area
    unfolding sheet_tests
    no-shape e w z =
        let n = ap number z in
        let t = tests-of s (Err e) w in
        let sh = (number-told s (tested_from (Err e)) t).two n in
        lays-outcome k s area (given_of (Err e)) area (refused 2 0) (refuses-shape k s area pk (tested_from (Err e)) t n)
        (told-given e 2 0 w (rw sh), refl)

    module _ (sh : shaped s ≡ true) where
      -- 3
      pub no-system : (e : Refused) → None ≡ figures_found (system_in s) → e ≡ whole NoSystem → Lays k s area (given_of (Err e)) area
      unfolding laying word_at
      no-system e n q =
          let kn = found_none (system_in s) n in
          lays-outcome k s area (given_of (Err e)) area (refused 3 0) (rw (pk, sh, kn)) (ap (λ (x : Refused). given_of (Err x)) q, refl)

      module _ (g : Figures) (f : Some g ≡ figures_found (system_in s)) where
        here-known : known (system_in s) ≡ true
        here-known = found_known (system_in s) g f

        own-area : g.area ≡ area_size (system (system_in s))
        own-area = area-is (system_in s) g (found_is (system_in s) g f)

        -- 4
        pub no-area : (e : Refused) → (length area ≡ g.area → ⊥) → e ≡ whole AreaLength → Lays k s area (given_of (Err e)) area
        unfolding laying word_at
        no-area e l q =
            let d = ne_eqb (length area) (area_size (system (system_in s))) (λ z. l (z ∙ sym own-area)) in
            lays-outcome k s area (given_of (Err e)) area (refused 4 0) (rw (pk, sh, here-known, d))
            (ap (λ (x : Refused). given_of (Err x)) q, refl)

        module _ (l : length area ≡ g.area) where
          -- 5 to 11, and 7 to 10 with the word
          pub no-list : (e : Refused) → TellsSheet s (Err e) → Lays k s area (given_of (Err e)) area
          unfolding laying sheet_tests
          no-list e w = go (list_tests (system (system_in s)) s) refl
            where
              tests-are : sheet_tests s ≡ list_tests (system (system_in s)) s
              tests-are = rw (sh, here-known)

              laying-is : (o : Outcome) → list_tests (system (system_in s)) s ≡ o
                  → laying k s area ≡ and_then o (λ (ps : List Packet). unless 12 (fits k (block_sizes (system (system_in s))) ps) (listed ps))
              laying-is o q = let d = eq-eqb (length area) (area_size (system (system_in s))) (l ∙ own-area) in rw (pk, sh, here-known, d, q)

              go : (o : Outcome) → list_tests (system (system_in s)) s ≡ o → Lays k s area (given_of (Err e)) area
              go (listed ps) q = let h = w ∙ ap (told_by word_at (header_of (system_in s)) (words_in s)) (tests-are ∙ q) in absurd (cc)
              go (refused n i) q =
                  lays-outcome k s area (given_of (Err e)) area (refused n i) (laying-is (refused n i) q)
                  (told-given e n i w (tests-are ∙ q), refl)

          -- 12, and success
          pub the-list : (h : Header) → TellsSheet s (Ok h) → (x : Laid) (after : List ℕ) → LaysList k h s area x after → Lays k s area x after
          unfolding word_at
          the-list h w x after v =
              let t = tests-of s (Ok h) w in
              let o = passed-list k s area pk (tested_from (Ok h)) t (λ z. omega arith) (λ z. omega arith) (l ∙ own-area) refl in
              let d = v.laid (system_in s) o.0 o.1 (ap header-from o.2) in
              let none = no_word o.0 (fits k (block_sizes (system (system_in s))) o.0) in
              lays-outcome k s area x after (last_test k (system_in s) o.0) o.3 (d.0 ∙ none, d.1)
            where
              -- neither names a word
              no_word : (ps : List Packet) (b : Bool)
                  → laid_of k (system (system_in s)) (unless 12 b (listed ps))
                  ≡ laid_in k (system (system_in s)) (words_in s) (unless 12 b (listed ps))
              no_word ps true = refl
              no_word ps false = refl

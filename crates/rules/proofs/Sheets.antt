-- The sheet of a sound list passes its tests and gives that list back, and a sheet that passes them is the sheet of a sound list. The laws
-- that end in -by say it for every reader of section C's words (`Reader`), whatever packets it takes for fine: sound ones, or as found.
--
-- In order: readers; locations; the sections of a list's sheet; `sheet-read`; the sections of any sheet; `sheet-laid`; `sheet-unique`;
-- `sheet-room`; refusals.
-- Assumes nothing.
use Prim.Native.Nat.{ℕ, zero, suc, ◌+◌, ◌-◌, ◌*◌, ◌%◌, ◌/◌, ◌≤◌, ◌<◌}
use mathlib.Core.Path.{◌≡◌, refl, sym, ap, ap₂, ◌∙◌, subst}
use mathlib.Core.Logic.{◌↔◌}
use mathlib.Core.Bool.{Bool, true, false, cond, ◌&&◌}
use mathlib.Core.List.{List, [], ◌∷◌, ◌++◌, map, append_assoc}
use native.Mathlib.Omega.{arith}
use lib.Dec.{eqb, ltb, leb}
use lib.ListN.{length, get_or, take, drop, length-append, length-map, length-drop, take-append-drop}
use lib.Seq.{get_or-drop, get_or_at, take_at, drop_at, drop-drop, drop-cons, length-take-le}
use borrow.Author.Tests.{eqb-true, leb-true, ltb-true, eq-eqb, le-leb, lt-ltb}
use Rattle.rules.specs.Base.{All, none, one, Bytes}
use Rattle.rules.specs.Systems.{System, known, system, stands, allowed}
use Rattle.rules.specs.Packet.{Packet, body, ones, parity, word, sum9, check, coded, check_of, words, Sound}
use Rattle.rules.specs.Danc.{string_byte_count}
use Rattle.rules.specs.Sheet.{limit, locations, all_words, sheet_of, system_in, count_in, locations_in, word_count_in, words_in}
use Rattle.rules.specs.Numbers.{Outcome, listed, refused, unless, and_then}
use Rattle.rules.specs.Laying.{packets_of_words, shaped, unless_at, location_stands, location_allowed, located}
use Rattle.rules.specs.Laying.{list_tests_by, list_tests, sheet_tests}
use Rattle.rules.specs.Demands.{SheetOf}
use Rattle.rules.proofs.Basics.{never, both, append-below, all_give}
use Rattle.rules.proofs.Lines.{allowed-stands, allowed-last, OnAllowed}
use Rattle.rules.proofs.Words.{bare, bares, WordsBy, words-read, words-laid, words-room, words-refused}

-- the number of an outcome, 0 for a list
abbrev pub number_of : Outcome → ℕ
number_of (listed ps) = 0
number_of (refused n i) = n

-- ---- readers

-- a packet with another location
abbrev pub moved : Packet → ℕ → ℕ → Packet
moved p line flags = record { did = p.did; sdid = p.sdid; user = p.user; line = line; flags = flags; mark = p.mark }

-- its line is allowed and its flags are in range
pub record Placed (y : System) (p : Packet) : Type 0 where
  pub line : OnAllowed y p
  pub flags : p.flags < 4

-- what a reader of words has to give: what is laid is read, what is read was laid, a refusal is a packet's; and what it takes for fine is so
-- at every location in range, and only there
pub record Reader (packets : List ℕ → Outcome) (Fine : System → Packet → Type 0) : Type 0 where
  pub read : (y : System) (ps : List Packet) → All (Fine y) ps → packets (all_words ps) ≡ listed (bares ps)
  pub laid : (y : System) (ws : List ℕ) (ps : List Packet) → packets ws ≡ listed ps → WordsBy (Fine y) ws ps
  pub fault : (ws : List ℕ) (n i : ℕ) → packets ws ≡ refused n i → 7 ≤ n
  pub placed : (y : System) (p : Packet) → Fine y p → Placed y p
  pub move : (y : System) (p : Packet) (line flags : ℕ) → Fine y p → allowed y line ≡ true → flags < 4 → Fine y (moved p line flags)

pub sound-moved : (y : System) (p : Packet) (line flags : ℕ) → Sound y p → allowed y line ≡ true → flags < 4 → Sound y (moved p line flags)
sound-moved y p line flags g h k =
    record { did = g.did; sdid = g.sdid; user = g.user; many = g.many; line = h; flags = k; mark = g.mark }

pub sound-reader : Reader packets_of_words Sound
sound-reader =
    record {
      read = words-read;
      laid = words-laid;
      fault = λ ws n i e. (words-refused ws n i e).0;
      placed = λ y p g. record { line = g.line; flags = g.flags };
      move = sound-moved;
    }

-- s is the sheet of a list of fine packets within the packet limit
pub record SheetBy (Fine : System → Packet → Type 0) (sys : ℕ) (ps : List Packet) (s : List ℕ) : Type 0 where
  pub known : known sys ≡ true
  pub few : length ps ≤ limit
  pub fine : All (Fine (system sys)) ps
  pub whole : s ≡ sheet_of sys ps

-- the lister's tests, with such a reader
abbrev pub sheet_tests_by : (List ℕ → Outcome) → List ℕ → Outcome
sheet_tests_by packets s = unless 2 (shaped s) (unless 3 (known (system_in s)) (list_tests_by packets (system (system_in s)) s))

-- ---- locations

pub locations-length : (ps : List Packet) → length (locations ps) ≡ 2 * length ps
locations-length [] = refl
locations-length (p ∷ ps) = let k = locations-length ps in omega arith

located-back : (ps : List Packet) → located (locations ps) (bares ps) ≡ ps
located-back [] = refl
located-back (p ∷ ps) = ap (λ (t : List Packet). p ∷ t) (located-back ps)

-- 6 and 20 pass where every packet is placed
pub locations-stand : (y : System) (i : ℕ) (ps : List Packet) (o : Outcome) → All (Placed y) ps
    → unless_at 6 (location_stands y) i (locations ps) o ≡ o
locations-stand y i [] o g = refl
locations-stand y i (p ∷ ps) o (one g gs) =
    rw (allowed-stands y p.line g.line, lt-ltb p.flags 4 g.flags) (locations-stand y (suc i) ps o gs)

pub lines-allowed : (y : System) (i : ℕ) (ps : List Packet) (o : Outcome) → All (OnAllowed y) ps
    → unless_at 20 (location_allowed y) i (locations ps) o ≡ o
lines-allowed y i [] o g = refl
lines-allowed y i (p ∷ ps) o (one g gs) = rw g (lines-allowed y (suc i) ps o gs)

-- ---- the sections of a list's sheet

module _ (sys : ℕ) (ps : List Packet) where
  abbrev S : List ℕ
  S = sheet_of sys ps

  abbrev W : List ℕ
  W = all_words ps

  behind : drop 3 S ≡ locations ps ++ length W ∷ W
  unfolding sheet_of
  behind = refl

  pub system-back : system_in S ≡ sys
  unfolding sheet_of
  system-back = refl

  first_back : eqb (get_or S 0 0) 1 ≡ true
  unfolding sheet_of
  first_back = refl

  pub count-back : count_in S ≡ length ps
  unfolding sheet_of
  count-back = refl

  pub locations-back : locations_in S ≡ locations ps
  locations-back = rw (count-back, behind) (take_at (locations ps) (length W ∷ W) (2 * length ps) (locations-length ps))

  pub words_back : words_in S ≡ W
  words_back =
      let n : 4 + 2 * length ps ≡ 3 + suc (2 * length ps) = omega arith in
      let l = locations-length ps in
      rw (count-back, n, ← drop-drop (suc (2 * length ps)) 3 S, behind, ← append_assoc (locations ps) (length W ∷ []) W)
      (drop_at (locations ps ++ (length W ∷ [])) W (suc (2 * length ps)) (length-append (locations ps) (length W ∷ []) ∙ (omega arith)))

  word-count-back : word_count_in S ≡ length W
  word-count-back =
      ap (λ (n : ℕ). get_or S (3 + 2 * n) 0) count-back
      ∙ sym (get_or-drop 3 S (2 * length ps) 0)
      ∙ ap (λ (t : List ℕ). get_or t (2 * length ps) 0) behind
      ∙ get_or_at (locations ps) (length W) W 0 (2 * length ps) (locations-length ps)

  -- "A sheet has 4 + 2P + W numbers."
  pub sheet-length : length S ≡ 4 + 2 * length ps + string_byte_count ps
  unfolding sheet_of
  sheet-length =
      let k = locations-length ps in
      let l = length-append (locations ps) (length W ∷ W) in
      let w = words-room ps in
      omega arith

  pub shaped-back : shaped S ≡ true
  unfolding shaped
  shaped-back =
      let l = sheet-length in
      let w = words-room ps in
      rw (
        first_back,
        word-count-back,
        count-back,
        le-leb (4 + 2 * length ps) (length S) (omega arith),
        eq-eqb (length S) (4 + 2 * length ps + length W) (omega arith),
      )

  -- tests 5, 6 and 20 pass where every packet is placed, and what the words are is left
  pub list-placed : (packets : List ℕ → Outcome) (y : System) → All (Placed y) ps → length ps ≤ limit
      → list_tests_by packets y S
      ≡ and_then (packets W) (λ (qs : List Packet). unless 11 (eqb (length qs) (length ps)) (listed (located (locations ps) qs)))
  list-placed packets y g few =
      rw (locations-back, words_back, count-back, le-leb (length ps) limit few)
      (locations-stand y 0 ps _ g ∙ lines-allowed y 0 ps _ (all_give (Placed y) (OnAllowed y) (λ p h. h.line) ps g))

  -- what is laid is read: tests 5 to 11
  pub list-read-by : (packets : List ℕ → Outcome) (Fine : System → Packet → Type 0) → Reader packets Fine → (y : System) → All (Fine y) ps
      → length ps ≤ limit → list_tests_by packets y S ≡ listed ps
  list-read-by packets Fine r y g few =
      list-placed packets y (all_give (Fine y) (Placed y) (r.placed y) ps g) few
      ∙ rw (r.read y ps g, eq-eqb (length (bares ps)) (length ps) (length-map ps bare), located-back ps)

  pub list_read : (y : System) → All (Sound y) ps → length ps ≤ limit → list_tests y S ≡ listed ps
  unfolding list_tests
  list_read y g few = list-read-by packets_of_words Sound sound-reader y g few

-- and all of the lister's
pub sheet-read-by : (packets : List ℕ → Outcome) (Fine : System → Packet → Type 0) → Reader packets Fine
    → (sys : ℕ) (ps : List Packet) (s : List ℕ) → SheetBy Fine sys ps s → sheet_tests_by packets s ≡ listed ps
sheet-read-by packets Fine r sys ps s g =
    rw (g.whole, shaped-back sys ps, system-back sys ps, g.known) (list-read-by sys ps packets Fine r (system sys) g.fine g.few)

-- a sheet's record says the same of sound packets
to-sound : (sys : ℕ) (ps : List Packet) (s : List ℕ) → SheetBy Sound sys ps s → SheetOf sys ps s
to-sound sys ps s g = record { known = g.known; few = g.few; sound = g.fine; whole = g.whole }

from-sound : (sys : ℕ) (ps : List Packet) (s : List ℕ) → SheetOf sys ps s → SheetBy Sound sys ps s
from-sound sys ps s g = record { known = g.known; few = g.few; fine = g.sound; whole = g.whole }

pub sheet-read : (sys : ℕ) (ps : List Packet) (s : List ℕ) → SheetOf sys ps s → sheet_tests s ≡ listed ps
unfolding sheet_tests list_tests
sheet-read sys ps s g = sheet-read-by packets_of_words Sound sound-reader sys ps s (from-sound sys ps s g)

-- ---- the sections of any sheet

-- where a test of the locations has passed, what follows it has
pub passed_on : (n : ℕ) (test : ℕ → ℕ → Bool) (i : ℕ) (ls : List ℕ) (o : Outcome) (ps : List Packet) → unless_at n test i ls o ≡ listed ps
    → o ≡ listed ps
passed_on n test i [] o ps e = e
passed_on n test i (l ∷ []) o ps e = e
passed_on n test i (l ∷ f ∷ ls) o ps e = go (test l f) (passed_on n test (suc i) ls o ps) e
  where
    go : (t : Bool) → (unless_at n test (suc i) ls o ≡ listed ps → o ≡ listed ps)
        → cond t (unless_at n test (suc i) ls o) (refused n i) ≡ listed ps → o ≡ listed ps
    go true ih e = ih e
    go false ih e = never (cc)

-- where 20 has passed, every packet's line is allowed
pub locations-fine : (y : System) (i : ℕ) (ps : List Packet) (o : Outcome) (qs : List Packet)
    → unless_at 20 (location_allowed y) i (locations ps) o ≡ listed qs → All (OnAllowed y) ps
locations-fine y i [] o qs e = none
locations-fine y i (p ∷ ps) o qs e = go (allowed y p.line) refl (locations-fine y (suc i) ps o qs) e
  where
    go : (t : Bool) → allowed y p.line ≡ t
        → (unless_at 20 (location_allowed y) (suc i) (locations ps) o ≡ listed qs → All (OnAllowed y) ps)
        → cond t (unless_at 20 (location_allowed y) (suc i) (locations ps) o) (refused 20 i) ≡ listed qs
        → All (OnAllowed y) (p ∷ ps)
    go true a ih e = one a (ih e)
    go false a ih e = never (cc)

-- locations that stand and are allowed, each with its packet, are those packets' locations, and leave their words as they were
module _ (y : System) (Fine : Packet → Type 0)
    (move : (p : Packet) (line flags : ℕ) → Fine p → allowed y line ≡ true → flags < 4 → Fine (moved p line flags)) where
  -- what the packets of a list are with these locations
  pub record Located (ls : List ℕ) (qs : List Packet) : Type 0 where
    pub locations : locations (located ls qs) ≡ ls
    pub words : all_words (located ls qs) ≡ all_words qs
    pub count : length (located ls qs) ≡ length qs
    pub fine : All Fine (located ls qs)

  locate : (i : ℕ) (ls : List ℕ) (qs : List Packet) (o u : Outcome) (ps : List Packet) → length ls ≡ 2 * length qs → All Fine qs
      → unless_at 6 (location_stands y) i ls o ≡ listed ps → unless_at 20 (location_allowed y) i ls u ≡ listed ps → Located ls qs
  unfolding words coded check_of
  locate i [] [] o u ps h g d e = record { locations = refl; words = refl; count = refl; fine = none }
  locate i [] (q ∷ qs) o u ps h g d e = absurd (omega arith)
  locate i (l ∷ []) [] o u ps h g d e = absurd (omega arith)
  locate i (l ∷ []) (q ∷ qs) o u ps h g d e = absurd (omega arith)
  locate i (l ∷ f ∷ ls) [] o u ps h g d e = absurd (omega arith)
  locate i (l ∷ f ∷ ls) (q ∷ qs) o u ps h (one g gs) d e =
      go (location_stands y l f) refl (allowed y l) refl (locate (suc i) ls qs o u ps (omega arith) gs) d e
    where
      go : (s : Bool) → location_stands y l f ≡ s → (a : Bool) → allowed y l ≡ a
          → (unless_at 6 (location_stands y) (suc i) ls o ≡ listed ps → unless_at 20 (location_allowed y) (suc i) ls u ≡ listed ps → Located ls qs)
          → cond s (unless_at 6 (location_stands y) (suc i) ls o) (refused 6 i) ≡ listed ps
          → cond a (unless_at 20 (location_allowed y) (suc i) ls u) (refused 20 i) ≡ listed ps → Located (l ∷ f ∷ ls) (q ∷ qs)
      go false k a m ih d e = never (cc)
      go true k false m ih d e = never (cc)
      go true k true m ih d e =
          let w = ih d e in
          record {
            locations = ap (λ (t : List ℕ). l ∷ f ∷ t) w.locations;
            words = ap (λ (t : List ℕ). Rattle.rules.specs.Packet.words q ++ t) w.words;
            count = ap suc w.count;
            fine = one (move q l f g m (ltb-true f 4 (both (stands y l) (ltb f 4) k).1)) w.fine;
          }

-- a sheet is of the shape that document 01 gives: its own sections joined
shape_of : (s : List ℕ) → shaped s ≡ true
    → (s ≡ (1 ∷ system_in s ∷ count_in s ∷ locations_in s) ++ length (words_in s) ∷ words_in s) × (length (locations_in s) ≡ 2 * count_in s)
unfolding shaped
shape_of s e =
    let w = both (eqb (get_or s 0 0) 1) (leb (4 + 2 * count_in s) (length s) && eqb (length s) (4 + 2 * count_in s + word_count_in s)) e in
    let v = both (leb (4 + 2 * count_in s) (length s)) (eqb (length s) (4 + 2 * count_in s + word_count_in s)) w.1 in
    go s (eqb-true (get_or s 0 0) 1 w.0) (leb-true (4 + 2 * count_in s) (length s) v.0)
    (eqb-true (length s) (4 + 2 * count_in s + word_count_in s) v.1)
  where
    go : (s : List ℕ) → get_or s 0 0 ≡ 1 → 4 + 2 * count_in s ≤ length s → length s ≡ 4 + 2 * count_in s + word_count_in s
        → (s ≡ (1 ∷ system_in s ∷ count_in s ∷ locations_in s) ++ length (words_in s) ∷ words_in s) × (length (locations_in s) ≡ 2 * count_in s)
    go [] a b c = absurd (omega arith)
    go (x ∷ []) a b c = absurd (omega arith)
    go (x ∷ y ∷ []) a b c = absurd (omega arith)
    go (x ∷ y ∷ n ∷ t) a b c =
        let s : List ℕ = x ∷ y ∷ n ∷ t in
        let l : length (take (2 * n) t) ≡ 2 * n = length-take-le (2 * n) t (omega arith) in
        let wc : word_count_in s ≡ get_or t (2 * n) 0 = sym (get_or-drop 3 s (2 * n) 0) in
        let e : 4 + 2 * n ≡ 3 + suc (2 * n) = omega arith in
        let ws : words_in s ≡ drop (suc (2 * n)) t = ap (λ (k : ℕ). drop k s) e ∙ sym (drop-drop (suc (2 * n)) 3 s) in
        let lw : length (words_in s) ≡ length s - (4 + 2 * n) = length-drop (4 + 2 * n) s in
        let lc : get_or t (2 * n) 0 ≡ length (words_in s) = omega arith in
        let rest : drop (2 * n) t ≡ length (words_in s) ∷ words_in s =
        drop-cons t (2 * n) 0 (omega arith) ∙ ap₂ (λ (a : ℕ) (u : List ℕ). a ∷ u) lc (sym ws) in (
          ap₂ (λ (k : ℕ) (u : List ℕ). k ∷ y ∷ n ∷ u) a (sym (take-append-drop (2 * n) t) ∙ ap (λ (u : List ℕ). take (2 * n) t ++ u) rest),
          l,
        )

-- ---- what is read was laid

-- a sheet that passes the tests is the sheet of the list it gives, which is fine and within the limit
module _ (packets : List ℕ → Outcome) (Fine : System → Packet → Type 0) (r : Reader packets Fine) where
  pub list-laid-by : (s : List ℕ) (ps : List Packet) → known (system_in s) ≡ true → shaped s ≡ true
      → list_tests_by packets (system (system_in s)) s ≡ listed ps → SheetBy Fine (system_in s) ps s
  unfolding sheet_of
  list-laid-by s ps kn sh e = first (leb (count_in s) limit) refl e
    where
      y : System
      y = system (system_in s)

      ls : List ℕ
      ls = locations_in s

      paired : List Packet → Outcome
      paired qs = unless 11 (eqb (length qs) (count_in s)) (listed (located ls qs))

      on_lines : Outcome → Outcome
      on_lines o = unless_at 20 (location_allowed y) 0 ls o

      in_range : Outcome → Outcome
      in_range o = unless_at 6 (location_stands y) 0 ls (on_lines o)

      last : (qs : List Packet) → WordsBy (Fine y) (words_in s) qs → count_in s ≤ limit → in_range (paired qs) ≡ listed ps
          → on_lines (paired qs) ≡ listed ps → (t : Bool) → eqb (length qs) (count_in s) ≡ t → unless 11 t (listed (located ls qs)) ≡ listed ps
          → SheetBy Fine (system_in s) ps s
      last qs w few d e false q f = never (cc)
      last qs w few d e true q f =
          let n : length qs ≡ count_in s = eqb-true (length qs) (count_in s) q in
          let sp = shape_of s sh in
          let lo =
          locate y (Fine y) (r.move y) 0 ls qs (on_lines (paired qs)) (paired qs) ps (sp.1 ∙ ap (λ (k : ℕ). 2 * k) (sym n)) w.fine d e in
          let a : count_in s ≡ length (located ls qs) = sym n ∙ sym lo.count in
          let b : ls ≡ locations (located ls qs) = sym lo.locations in
          let c : words_in s ≡ all_words (located ls qs) = w.whole ∙ sym lo.words in
          let is : located ls qs ≡ ps = cc in
          subst (λ (rs : List Packet). SheetBy Fine (system_in s) rs s) is
          (record {
            known = kn;
            whole = sp.0 ∙ (λ i. (1 ∷ system_in s ∷ a i ∷ b i) ++ length (c i) ∷ c i);
            fine = lo.fine;
            few = omega arith;
          })

      words_of : (o : Outcome) → packets (words_in s) ≡ o → count_in s ≤ limit → in_range (and_then o paired) ≡ listed ps
          → SheetBy Fine (system_in s) ps s
      words_of o q few d = go o q (passed_on 6 (location_stands y) 0 ls _ ps d) d
        where
          go : (o : Outcome) → packets (words_in s) ≡ o → on_lines (and_then o paired) ≡ listed ps → in_range (and_then o paired) ≡ listed ps
              → SheetBy Fine (system_in s) ps s
          go (refused n i) q e d = never (let z = passed_on 20 (location_allowed y) 0 ls (refused n i) ps e in cc)
          go (listed qs) q e d =
              last qs (r.laid y (words_in s) qs q) few d e (eqb (length qs) (count_in s)) refl
              (passed_on 20 (location_allowed y) 0 ls (paired qs) ps e)

      first : (t : Bool) → leb (count_in s) limit ≡ t → unless 5 t (in_range (and_then (packets (words_in s)) paired)) ≡ listed ps
          → SheetBy Fine (system_in s) ps s
      first false q e = never (cc)
      first true q e = words_of (packets (words_in s)) refl (leb-true (count_in s) limit q) e

  -- the same of all of the lister's tests
  pub sheet-laid-by : (s : List ℕ) (ps : List Packet) → sheet_tests_by packets s ≡ listed ps → SheetBy Fine (system_in s) ps s
  sheet-laid-by s ps e = go (shaped s) refl (known (system_in s)) refl e
    where
      go : (a : Bool) → shaped s ≡ a → (b : Bool) → known (system_in s) ≡ b
          → unless 2 a (unless 3 b (list_tests_by packets (system (system_in s)) s)) ≡ listed ps → SheetBy Fine (system_in s) ps s
      go false p b q e = never (cc)
      go true p false q e = never (cc)
      go true p true q e = list-laid-by s ps q p e

  -- from one list only, of one system
  pub sheet-unique-by : (sys other : ℕ) (ps qs : List Packet) (s : List ℕ) → SheetBy Fine sys ps s → SheetBy Fine other qs s
      → (sys ≡ other) × (ps ≡ qs)
  sheet-unique-by sys other ps qs s g h =
      let a = sheet-read-by packets Fine r sys ps s g in
      let b = sheet-read-by packets Fine r other qs s h in
      (sym (system-back sys ps) ∙ ap system_in (sym g.whole ∙ h.whole) ∙ system-back other qs, cc)

pub list-laid : (s : List ℕ) (ps : List Packet) → known (system_in s) ≡ true → shaped s ≡ true → list_tests (system (system_in s)) s ≡ listed ps
    → SheetOf (system_in s) ps s
unfolding list_tests
list-laid s ps kn sh e = to-sound (system_in s) ps s (list-laid-by packets_of_words Sound sound-reader s ps kn sh e)

pub sheet-laid : (s : List ℕ) (ps : List Packet) → sheet_tests s ≡ listed ps → SheetOf (system_in s) ps s
unfolding sheet_tests list_tests
sheet-laid s ps e = to-sound (system_in s) ps s (sheet-laid-by packets_of_words Sound sound-reader s ps e)

pub sheet-unique : (sys other : ℕ) (ps qs : List Packet) (s : List ℕ) → SheetOf sys ps s → SheetOf other qs s → (sys ≡ other) × (ps ≡ qs)
sheet-unique sys other ps qs s g h =
    sheet-unique-by packets_of_words Sound sound-reader sys other ps qs s (from-sound sys ps s g) (from-sound other qs s h)

-- ---- room

-- every number is of sixteen bits, as a sheet's have to be
abbrev pub Sixteen : List ℕ → Type 0
Sixteen s = (i : ℕ) → get_or s i 0 < 65536

word_small : (b : ℕ) → b < 256 → word b < 1024
unfolding word parity
word_small b h = go (ones b % 2) (omega arith)
  where
    go : (p : ℕ) → p < 2 → b + 256 * p + 512 * (1 - p) < 1024
    go p k = omega arith

check-small : (ws : List ℕ) → check ws < 1024
unfolding check
check-small ws = go (sum9 ws)
  where
    go : (n : ℕ) → n % 512 + 512 * (1 - n % 512 / 256) < 1024
    go n = omega arith

user-small : (bs : List ℕ) → Bytes bs → Sixteen (map word bs)
user-small [] h i = omega arith
user-small (b ∷ bs) h zero = let w = word_small b (h 0) in omega arith
user-small (b ∷ bs) h (suc i) = user-small bs (λ j. h (suc j)) i

packet-small : (y : System) (p : Packet) → Sound y p → Sixteen (words p)
unfolding words coded check_of
packet-small y p g zero = omega arith
packet-small y p g (suc zero) = omega arith
packet-small y p g (suc (suc zero)) = omega arith
packet-small y p g (suc (suc (suc zero))) = rw g.mark (let w = word_small p.did g.did in omega arith)
packet-small y p g (suc (suc (suc (suc zero)))) = rw g.mark (let w = word_small p.sdid g.sdid in omega arith)
packet-small y p g (suc (suc (suc (suc (suc zero))))) = rw g.mark (let w = word_small (length p.user) g.many in omega arith)
packet-small y p g (suc (suc (suc (suc (suc (suc i)))))) =
    rw g.mark (append-below 65536 (map word p.user) (check (map word (body p)) ∷ []) (user-small p.user g.user) only i)
  where
    only : Sixteen (check (map word (body p)) ∷ [])
    only zero = let w = check-small (map word (body p)) in omega arith
    only (suc i) = omega arith

all_small : (y : System) (ps : List Packet) → All (Sound y) ps → Sixteen (all_words ps)
all_small y [] g i = omega arith
all_small y (p ∷ ps) (one g gs) i = append-below 65536 (words p) (all_words ps) (packet-small y p g) (all_small y ps gs) i

locations-small : (y : System) (ps : List Packet) → y.last < 2047 → All (Sound y) ps → Sixteen (locations ps)
locations-small y [] hm g i = omega arith
locations-small y (p ∷ ps) hm (one g gs) zero = let w = allowed-last y p.line g.line in omega arith
locations-small y (p ∷ ps) hm (one g gs) (suc zero) = let w = g.flags in omega arith
locations-small y (p ∷ ps) hm (one g gs) (suc (suc i)) = locations-small y ps hm gs i

-- where a sheet's numbers are of sixteen bits, its words are at most 65,535, whatever the list
pub sheet-words : (sys : ℕ) (ps : List Packet) → Sixteen (sheet_of sys ps) → string_byte_count ps < 65536
unfolding sheet_of
sheet-words sys ps h = let k = h (3 + 2 * length ps) in let w = word-count-back sys ps in let r = words-room ps in omega arith

-- a sound list has a sheet of sixteen-bit numbers exactly when its words are at most 65,535
pub sheet-room : (sys : ℕ) (y : System) (ps : List Packet) → sys < 65536 → y.last < 2047 → All (Sound y) ps → length ps ≤ limit
    → Sixteen (sheet_of sys ps) ↔ (string_byte_count ps < 65536)
unfolding sheet_of limit
sheet-room sys y ps hs hm g few = (sheet-words sys ps, back)
  where
    behind-small : string_byte_count ps < 65536 → Sixteen (length (all_words ps) ∷ all_words ps)
    behind-small h zero = let r = words-room ps in omega arith
    behind-small h (suc i) = all_small y ps g i

    back : string_byte_count ps < 65536 → Sixteen (sheet_of sys ps)
    back h zero = omega arith
    back h (suc zero) = hs
    back h (suc (suc zero)) = omega arith
    back h (suc (suc (suc i))) =
        append-below 65536 (locations ps) (length (all_words ps) ∷ all_words ps) (locations-small y ps hm g) (behind-small h) i

-- ---- refusals

-- a refusal's number is at least that of the first test
pub unless-from : (b m : ℕ) (t : Bool) (o : Outcome) (n k : ℕ) → (o ≡ refused n k → b ≤ n) → b ≤ m → unless m t o ≡ refused n k → b ≤ n
unless-from b m true o n k h l e = h e
unless-from b m false o n k h l e = let z : m ≡ n = cc in omega arith

pub at_from : (b m : ℕ) (test : ℕ → ℕ → Bool) (i : ℕ) (ls : List ℕ) (o : Outcome) (n k : ℕ) → (o ≡ refused n k → b ≤ n) → b ≤ m
    → unless_at m test i ls o ≡ refused n k → b ≤ n
at_from b m test i [] o n k h l e = h e
at_from b m test i (x ∷ []) o n k h l e = h e
at_from b m test i (x ∷ f ∷ ls) o n k h l e = go (test x f) (at_from b m test (suc i) ls o n k h l) e
  where
    go : (t : Bool) → (unless_at m test (suc i) ls o ≡ refused n k → b ≤ n)
        → cond t (unless_at m test (suc i) ls o) (refused m i) ≡ refused n k → b ≤ n
    go true ih e = ih e
    go false ih e = let z : m ≡ n = cc in omega arith

-- the tests of the list refuse with 5 to 11, and 20
module _ (packets : List ℕ → Outcome) (Fine : System → Packet → Type 0) (r : Reader packets Fine) where
  pub list-refused-by : (y : System) (s : List ℕ) (n k : ℕ) → list_tests_by packets y s ≡ refused n k → 5 ≤ n
  list-refused-by y s n k e =
      unless-from 5 5 (leb (count_in s) limit) _ n k
      (at_from 5 6 (location_stands y) 0 (locations_in s) _ n k
      (at_from 5 20 (location_allowed y) 0 (locations_in s) _ n k (words_of (packets (words_in s)) refl) (omega arith)) (omega arith))
      (omega arith) e
    where
      words_of : (o : Outcome) → packets (words_in s) ≡ o
          → and_then o (λ (ps : List Packet). unless 11 (eqb (length ps) (count_in s)) (listed (located (locations_in s) ps))) ≡ refused n k → 5 ≤ n
      words_of (refused m i) q e = let w = r.fault (words_in s) m i q in let z : m ≡ n = cc in omega arith
      words_of (listed ps) q e =
          unless-from 5 11 (eqb (length ps) (count_in s)) (listed (located (locations_in s) ps)) n k (λ f. never (cc)) (omega arith) e

  -- and those of the sheet never with 0
  pub sheet-refused-by : (s : List ℕ) (n k : ℕ) → sheet_tests_by packets s ≡ refused n k → 1 ≤ n
  sheet-refused-by s n k e =
      unless-from 1 2 (shaped s) _ n k
      (unless-from 1 3 (known (system_in s)) _ n k (λ q. let h = list-refused-by (system (system_in s)) s n k q in omega arith)
      (omega arith)) (omega arith) e

pub list-refused : (y : System) (s : List ℕ) (n k : ℕ) → list_tests y s ≡ refused n k → 5 ≤ n
unfolding list_tests
list-refused y s n k e = list-refused-by packets_of_words Sound sound-reader y s n k e

-- what the number of the sheet's tests says: 2 for its shape, 3 for its system, and else the tests of the list
pub record Told (s : List ℕ) (n : ℕ) : Type 0 where
  pub two : n ≡ 2 → shaped s ≡ false
  pub three : n ≡ 3 → (shaped s ≡ true) × (known (system_in s) ≡ false)
  pub rest : (n ≡ 2 → ⊥) → (n ≡ 3 → ⊥) → (shaped s ≡ true) × (known (system_in s) ≡ true)

pub sheet-told : (s : List ℕ) (o : Outcome) → sheet_tests s ≡ o → Told s (number_of o)
unfolding sheet_tests
sheet-told s o e = go (shaped s) refl (known (system_in s)) refl e
  where
    later : list_tests (system (system_in s)) s ≡ o → (number_of o ≡ 2 → ⊥) × (number_of o ≡ 3 → ⊥)
    later q = numbers o q
      where
        numbers : (o : Outcome) → list_tests (system (system_in s)) s ≡ o → (number_of o ≡ 2 → ⊥) × (number_of o ≡ 3 → ⊥)
        numbers (listed ps) q = (λ n. omega arith, λ n. omega arith)
        numbers (refused m i) q = let h = list-refused (system (system_in s)) s m i q in (λ n. omega arith, λ n. omega arith)

    go : (a : Bool) → shaped s ≡ a → (b : Bool) → known (system_in s) ≡ b
        → unless 2 a (unless 3 b (list_tests (system (system_in s)) s)) ≡ o → Told s (number_of o)
    go false p b q e =
        let n : number_of o ≡ 2 = ap number_of (sym e) in
        record { two = λ m. p; three = λ m. absurd (omega arith); rest = λ m l. absurd (m n) }
    go true p false q e =
        let n : number_of o ≡ 3 = ap number_of (sym e) in
        record { two = λ m. absurd (omega arith); three = λ m. (p, q); rest = λ m l. absurd (l n) }
    go true p true q e =
        let w = later e in
        record { two = λ m. absurd (w.0 m); three = λ m. absurd (w.1 m); rest = λ m l. (p, q) }

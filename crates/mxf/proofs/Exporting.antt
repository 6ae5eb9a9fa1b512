-- What is written, reading gives back.
--
-- In order: as it is given back; the way back.
-- Assumes nothing.
use Prim.Native.Nat.{ℕ, suc, ◌+◌, ◌*◌, ◌/◌, ◌≤◌}
use mathlib.Core.Path.{◌≡◌, refl, sym, ap, ap₂, ◌∙◌, subst}
use mathlib.Core.Bool.{Bool, true, false, cond}
use mathlib.Core.List.{List, [], ◌∷◌, ◌++◌, map}
use native.Mathlib.Omega.{arith}
use lib.ListN.{length, length-append, length-map}
use borrow.Author.Tests.{le-leb}
use Rattle.rules.specs.Base.{All, none, one, joined}
use Rattle.rules.specs.Systems.{System, system}
use Rattle.rules.specs.Packet.{Packet, Sound}
use Rattle.rules.specs.Danc.{bytes_of, string_byte_count}
use Rattle.rules.specs.Sheet.{limit, all_words, sheet_of}
use Rattle.rules.specs.Numbers.{listed}
use Rattle.rules.specs.Reading.{buffer_of}
use Rattle.rules.specs.Demands.{SheetOf}
use Rattle.rules.proofs.Words.{words-room}
use Rattle.rules.proofs.Sheets.{sound-moved, Sixteen, sheet-words}
use Rattle.sheet.specs.Write.{has_room}
use Rattle.mxf.specs.Element.{two, klv, Padded, bare, coding, structure, value, element, element_of}
use Rattle.mxf.specs.Served.{serves, served, fi_read, given_back, all_back}
use Rattle.mxf.specs.Reading.{read_of, read, sheet_after}
use Rattle.mxf.specs.Demands.{Lined, Held, Gives}
use Rattle.mxf.proofs.Structures.{fi-small, HeadOf}
use Rattle.mxf.proofs.Elements.{structure-length}
use Rattle.mxf.proofs.Accepting.{accepted}

-- ---- as it is given back

module _ (sys : ℕ) (fi : Bool) where
  pub served-sound : (P : Packet → Type 0) (ps : List Packet) → All P ps → All P (served sys fi ps)
  served-sound P [] none = none
  served-sound P (p ∷ ps) (one g gs) = go (serves sys fi p.flags) (served-sound P ps gs)
    where
      go : (t : Bool) → All P (served sys fi ps) → All P (cond t (p ∷ served sys fi ps) (served sys fi ps))
      go true later = one g later
      go false later = later

  -- no more packets, and no more words, than the sheet has
  pub served-few : (ps : List Packet) → (length (served sys fi ps) ≤ length ps) × (string_byte_count (all_back sys fi ps) ≤ string_byte_count ps)
  served-few [] = (omega arith, omega arith)
  served-few (p ∷ ps) = go (serves sys fi p.flags) (served-few ps)
    where
      go : (t : Bool) → (length (served sys fi ps) ≤ length ps) × (string_byte_count (all_back sys fi ps) ≤ string_byte_count ps)
          → (length (cond t (p ∷ served sys fi ps) (served sys fi ps)) ≤ suc (length ps))
          × (string_byte_count (map (given_back sys fi) (cond t (p ∷ served sys fi ps) (served sys fi ps))) ≤ bytes_of p + string_byte_count ps)
      go true w = let a = w.0 in let b = w.1 in (omega arith, omega arith)
      go false w = let a = w.0 in let b = w.1 in (omega arith, omega arith)

  -- whatever items the packets make, they are no more, and have their packets
  pub few-back : {X : Type 0} (make : Packet → X) (ps : List Packet) → length (map make (all_back sys fi ps)) ≤ length ps
  few-back make ps =
      let a = (served-few ps).0 in
      let b = length-map (all_back sys fi ps) make in
      let c = length-map (served sys fi ps) (given_back sys fi) in
      omega arith

  pub packets-back : {X : Type 0} (packet : X → Packet) (make : Packet → X) → ((p : Packet) → packet (make p) ≡ p) → (qs : List Packet)
      → map packet (map make qs) ≡ qs
  packets-back packet make own [] = refl
  packets-back packet make own (q ∷ qs) = ap₂ (λ (p : Packet) (ps : List Packet). p ∷ ps) (own q) (packets-back packet make own qs)

  -- items with a structure each, of whose flags YCF alone decides, so that it comes back as it is
  module _ {X : Type 0} (structure : X → List ℕ) (make : Packet → X)
      (back : (p : Packet) → structure (make (given_back sys fi p)) ≡ structure (make p)) where
    joined_back : (qs : List Packet) → joined structure (map make (map (given_back sys fi) qs)) ≡ joined structure (map make qs)
    joined_back [] = refl
    joined_back (q ∷ qs) = ap₂ (λ (a b : List ℕ). a ++ b) (back q) (joined_back qs)

    count-back : (qs : List Packet) → length (map make (map (given_back sys fi) qs)) ≡ length (map make qs)
    count-back qs = length-map (map (given_back sys fi) qs) make ∙ length-map qs (given_back sys fi) ∙ sym (length-map qs make)

    -- the head of the element that is written is that of the items that come back
    pub head-back : (ps : List Packet) → length ps ≤ limit → length (joined structure (map make (served sys fi ps))) ≤ 16777213
        → HeadOf (klv (two (length (map make (served sys fi ps))) ++ joined structure (map make (served sys fi ps))))
        (length (map make (all_back sys fi ps))) (joined structure (map make (all_back sys fi ps)))
    unfolding limit
    head-back ps few short =
        let n = few-back make ps in
        let l = ap length (joined_back (served sys fi ps)) in
        record {
          few = omega arith;
          short = omega arith;
          bytes = ap₂ (λ (n : ℕ) (js : List ℕ). klv (two n ++ js)) (sym (count-back (served sys fi ps))) (sym (joined_back (served sys fi ps)));
        }

  -- the words of the sheet are at most 65,535, and those that are served are no more
  pub back-room : (ps : List Packet) → Sixteen (sheet_of sys ps) → (room : ℕ) → length (sheet_of sys (all_back sys fi ps)) ≤ room
      → has_room sys room (all_back sys fi ps) ≡ true
  back-room ps hs room h =
      let w = sheet-words sys ps hs in
      let k = (served-few ps).1 in
      let m = words-room (all_back sys fi ps) in
      rw (le-leb (length (all_words (all_back sys fi ps))) 65535 (omega arith), le-leb (length (sheet_of sys (all_back sys fi ps))) room h)

-- ---- the way back

module _ (sys : ℕ) (fi : Bool) where
  -- YCF comes back, and so the structure is the same
  structure-back : (p : Packet) → structure sys (bare (given_back sys fi p)) ≡ structure sys (bare p)
  unfolding structure coding
  structure-back p =
      let f = fi-small sys fi in
      let e : (fi_read sys fi + 2 * (p.flags / 2)) / 2 ≡ p.flags / 2 = omega arith in
      rw e

  held_back : (qs : List Packet) → All (Sound (system sys)) qs → All Lined qs → All (Held sys fi) (map bare (map (given_back sys fi) qs))
  held_back [] g l = none
  held_back (q ∷ qs) (one g gs) (one l ls) =
      let f = fi-small sys fi in
      let h = g.flags in
      one {x = bare (given_back sys fi q)}
      (record {
        sound = sound-moved (system sys) q q.line (given_back sys fi q).flags g g.line (omega arith);
        lined = l;
        own = omega arith;
        padding = λ i. omega arith;
      })
      (held_back qs gs ls)

  -- a packet has 272 bytes of structure at most
  pub joined-short : (y : System) (qs : List Packet) → All (Sound y) qs → length (joined (structure sys) (map bare qs)) ≤ 272 * length qs
  joined-short y [] g = omega arith
  joined-short y (q ∷ qs) (one g gs) =
      let h = joined-short y qs gs in
      let k = structure-length sys (bare q) in
      let m = g.many in
      let l = length-append (structure sys (bare q)) (joined (structure sys) (map bare qs)) in
      omega arith

  -- the element that is written, its packets give as they come back
  pub written-gives : (ps : List Packet) → All (Sound (system sys)) ps → All Lined (served sys fi ps) → length ps ≤ limit
      → Gives sys fi (map bare (all_back sys fi ps)) (element_of sys (served sys fi ps))
  unfolding limit element value
  written-gives ps g l few =
      let gs = served-sound sys fi (Sound (system sys)) ps g in
      let w = (served-few sys fi ps).0 in
      let h = joined-short (system sys) (served sys fi ps) gs in
      let b = head-back sys fi (structure sys) bare structure-back ps few (omega arith) in
      record { held = held_back (served sys fi ps) gs l; few = b.few; short = b.short; bytes = b.bytes }

-- reading what was written
pub comes_back_lem : (fi : Bool) (s : List ℕ) → Sixteen s → (sys : ℕ) (ps : List Packet) → SheetOf sys ps s → All Lined (served sys fi ps)
    → (e sheet : List ℕ) → e ≡ element_of sys (served sys fi ps) → length (sheet_of sys (all_back sys fi ps)) ≤ length sheet
    → (read sys fi e sheet ≡ read_of sys (listed (all_back sys fi ps)))
    × (sheet_after sys fi e sheet ≡ buffer_of sys sheet (listed (all_back sys fi ps)))
unfolding read sheet_after
comes_back_lem fi s hs sys ps g l e sheet q h =
    let xs : List Padded = map bare (all_back sys fi ps) in
    let same = packets-back sys fi (λ (x : Padded). x.packet) bare (λ p. refl) (all_back sys fi ps) in
    let given = subst (Gives sys fi xs) (sym q) (written-gives sys fi ps g.sound l g.few) in
    let few : length xs ≤ limit = let a = few-back sys fi bare ps in let b = g.few in omega arith in
    let roomy = ap (has_room sys (length sheet)) same ∙ back-room sys fi ps (subst Sixteen g.whole hs) (length sheet) h in
    let w = accepted sys fi e (length sheet) g.known xs given few roomy ∙ ap listed same in
    (ap (read_of sys) w, ap (buffer_of sys sheet) w)

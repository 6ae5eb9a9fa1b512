-- Our own writing: the packets of the element that we write give it as they come back, and reading gives them back.
-- Assumes nothing.
use Prim.Native.Nat.{ℕ, ◌+◌, ◌*◌, ◌/◌, ◌≤◌}
use mathlib.Core.Path.{◌≡◌, refl, sym, ap, ◌∙◌, subst}
use mathlib.Core.Bool.{Bool}
use mathlib.Core.List.{List, [], ◌∷◌, map}
use native.Mathlib.Omega.{arith}
use lib.ListN.{length, take, length-append}
use Rattle.rules.specs.Base.{All, none, one, joined}
use Rattle.rules.specs.Systems.{System, system}
use Rattle.rules.specs.Packet.{Packet, coded, check_of, Found}
use Rattle.rules.specs.Sheet.{limit, sheet_of}
use Rattle.rules.specs.Numbers.{listed}
use Rattle.rules.specs.Reading.{buffer_of}
use Rattle.rules.specs.Found.{SheetFound}
use Rattle.rules.proofs.Sheets.{Sixteen}
use Rattle.rules.proofs.Found.{found-moved}
use Rattle.sheet.specs.Write.{has_room}
use Rattle.mxf.specs.Served.{served, fi_read, given_back, all_back}
use Rattle.mxf.specs.Judging.{samples_in}
use Rattle.mxf.specs.Reading.{read_of}
use Rattle.mxf.specs.Demands.{Lined}
use Rattle.mxf.proofs.Structures.{fi-small}
use Rattle.mxf.proofs.Exporting.{served-sound, served-few, few-back, head-back, packets-back, back-room}
use Rattle.mxf10.specs.Element.{Arrayed, tens, source, ours, samples, structure, value, element, element_of}
use Rattle.mxf10.specs.Reading.{read, sheet_after}
use Rattle.mxf10.specs.Demands.{Held, Gives}
use Rattle.mxf10.specs.FoundTens.{tens-length, source-length, found-ten}
use Rattle.mxf10.proofs.TensLaws.{tens-bytes, tens-back}
use Rattle.mxf10.proofs.Elements.{structure-length}
use Rattle.mxf10.proofs.Accepting.{accepted}

-- the array that we write shows the packet's samples
pub ours-shows : (y : System) (p : Packet) → Found y p → take (samples p) (samples_in (ours p).array) ≡ source p
ours-shows y p g = ap (λ (n : ℕ). take n (samples_in (tens (source p)))) (sym (source-length p)) ∙ tens-back (source p) (found-ten y p g)

module _ (sys : ℕ) (fi : Bool) where
  -- YCF comes back, and so the structure is the same
  structure-back : (p : Packet) → structure sys (ours (given_back sys fi p)) ≡ structure sys (ours p)
  unfolding structure coded check_of
  structure-back p =
      let f = fi-small sys fi in
      let e : (fi_read sys fi + 2 * (p.flags / 2)) / 2 ≡ p.flags / 2 = omega arith in
      rw e

  -- a packet as found that comes back is held
  pub ours-held : (p : Packet) → Found (system sys) p → Lined p → Held sys fi (ours (given_back sys fi p))
  ours-held p g l =
      let f = fi-small sys fi in
      let h = g.within.flags in
      let q : Packet = given_back sys fi p in
      let gq : Found (system sys) q = found-moved (system sys) p p.line q.flags g g.within.line (omega arith) in
      let n = source-length q in
      let m = tens-length (source q) in
      record {
        found = gq;
        lined = l;
        own = omega arith;
        bytes = tens-bytes (source q) (found-ten (system sys) q gq);
        long = omega arith;
        shows = ours-shows (system sys) q gq;
      }

  all_held : (qs : List Packet) → All (Found (system sys)) qs → All Lined qs → All (Held sys fi) (map ours (map (given_back sys fi) qs))
  all_held [] g l = none
  all_held (q ∷ qs) (one g gs) (one l ls) = one {x = ours (given_back sys fi q)} (ours-held q g l) (all_held qs gs ls)

  -- a packet has 362 bytes of structure at most
  pub joined-short : (y : System) (qs : List Packet) → All (Found y) qs → length (joined (structure sys) (map ours qs)) ≤ 362 * length qs
  joined-short y [] g = omega arith
  joined-short y (q ∷ qs) (one g gs) =
      let h = joined-short y qs gs in
      let k = structure-length sys (ours q) in
      let n = source-length q in
      let t = tens-length (source q) in
      let m = g.within.many in
      let l = length-append (structure sys (ours q)) (joined (structure sys) (map ours qs)) in
      omega arith

  -- the element that is written, its packets give as they come back
  pub written-gives : (ps : List Packet) → All (Found (system sys)) ps → All Lined (served sys fi ps) → length ps ≤ limit
      → Gives sys fi (map ours (all_back sys fi ps)) (element_of sys (served sys fi ps))
  unfolding limit element value
  written-gives ps g l few =
      let gs = served-sound sys fi (Found (system sys)) ps g in
      let w = (served-few sys fi ps).0 in
      let h = joined-short (system sys) (served sys fi ps) gs in
      let b = head-back sys fi (structure sys) ours structure-back ps few (omega arith) in
      record { held = all_held (served sys fi ps) gs l; few = b.few; short = b.short; bytes = b.bytes }

-- reading what was written
pub comes_back_lem : (fi : Bool) (s : List ℕ) → Sixteen s → (sys : ℕ) (ps : List Packet) → SheetFound sys ps s → All Lined (served sys fi ps)
    → (e sheet : List ℕ) → e ≡ element_of sys (served sys fi ps) → length (sheet_of sys (all_back sys fi ps)) ≤ length sheet
    → (read sys fi e sheet ≡ read_of sys (listed (all_back sys fi ps)))
    × (sheet_after sys fi e sheet ≡ buffer_of sys sheet (listed (all_back sys fi ps)))
unfolding read sheet_after
comes_back_lem fi s hs sys ps g l e sheet q h =
    let xs : List Arrayed = map ours (all_back sys fi ps) in
    let same = packets-back sys fi (λ (x : Arrayed). x.packet) ours (λ p. refl) (all_back sys fi ps) in
    let given = subst (Gives sys fi xs) (sym q) (written-gives sys fi ps g.found l g.few) in
    let few : length xs ≤ limit = let a = few-back sys fi ours ps in let b = g.few in omega arith in
    let roomy = ap (has_room sys (length sheet)) same ∙ back-room sys fi ps (subst Sixteen g.whole hs) (length sheet) h in
    let w = accepted sys fi e (length sheet) g.known xs given few roomy ∙ ap listed same in
    (ap (read_of sys) w, ap (buffer_of sys sheet) w)

-- What reading gives back and the sheet buffer afterwards meet the contract `Reads`: an element is accepted exactly when some list of sound
-- packets with lines gives it, padding aside, and one list only. The tests that follow judging are the same for either coding: their laws are said
-- of every outcome of judging.
--
-- In order: the tests that follow judging: what is accepted, what is accepted only, refusals, room; the contract.
-- Assumes nothing.
use Prim.Native.Nat.{ℕ, suc, ◌≤◌}
use mathlib.Core.Path.{◌≡◌, refl, sym, ap, ◌∙◌, subst}
use mathlib.Core.Bool.{Bool, true, false, cond}
use mathlib.Core.List.{List, [], ◌∷◌, map}
use native.Mathlib.Omega.{arith}
use lib.Dec.{leb}
use lib.ListN.{length, length-map}
use borrow.Author.Tests.{le-leb, leb-true}
use Rattle.rules.specs.Base.{All, Bytes}
use Rattle.rules.specs.Systems.{known, system, allowed}
use Rattle.rules.specs.Packet.{Packet}
use Rattle.rules.specs.Sheet.{limit, locations, all_words, sheet_of}
use Rattle.rules.specs.Numbers.{Outcome, listed, refused, unless, and_then}
use Rattle.rules.specs.Laying.{unless_at, location_allowed}
use Rattle.rules.specs.Reading.{buffer_of}
use Rattle.rules.proofs.Basics.{never, both}
use Rattle.rules.proofs.Lines.{OnAllowed, sound-lines}
use Rattle.rules.proofs.Sheets.{lines-allowed, locations-fine, passed_on, at_from}
use Rattle.sheet.specs.Write.{has_room}
use Rattle.mxf.specs.Element.{eight, Padded, packets_of}
use Rattle.mxf.specs.Judging.{judged}
use Rattle.mxf.specs.Reading.{last_tests, packet_tests, reading_of, reading, read_of, read, sheet_after}
use Rattle.mxf.specs.Demands.{Gives, Unread, Reads}
use Rattle.mxf.specs.declared.ElementRead.{ElementRead}
use Rattle.mxf.proofs.Inversion.{judged-number}
use Rattle.mxf.proofs.Elements.{gives-sound, gives-judged, gives_one, judged-gives}

-- ---- the tests that follow judging, whatever it has given

module _ (sys : ℕ) (o : Outcome) (room : ℕ) (kn : known sys ≡ true) where
  reading-is : reading_of sys o room ≡ and_then o (packet_tests sys room)
  reading-is = rw kn

  -- what is accepted: packets on allowed lines
  module _ (qs : List Packet) (is : o ≡ listed qs) (fine : All (OnAllowed (system sys)) qs) where
    last-left : reading_of sys o room ≡ last_tests sys room qs
    last-left =
        reading-is
        ∙ ap (λ (o : Outcome). and_then o (packet_tests sys room)) is
        ∙ lines-allowed (system sys) 0 qs (last_tests sys room qs) fine

    pub reading-passed : length qs ≤ limit → has_room sys room qs ≡ true → reading_of sys o room ≡ listed qs
    reading-passed few h = last-left ∙ rw (le-leb (length qs) limit few, h)

    -- the last tests never refuse with 19
    pub not-form : (read_of sys (reading_of sys o room)).number ≡ 19 → ⊥
    not-form z = go (leb (length qs) limit) (has_room sys room qs) (sym (ap (λ (o : Outcome). (read_of sys o).number) last-left) ∙ z)
      where
        go : (a b : Bool) → (read_of sys (cond a (unless 17 b (listed qs)) (refused 5 limit))).number ≡ 19 → ⊥
        go true true z = omega arith
        go true false z = omega arith
        go false b z = omega arith

  last-listed : (qs ps : List Packet) → last_tests sys room qs ≡ listed ps → (qs ≡ ps) × (length qs ≤ limit) × (has_room sys room qs ≡ true)
  last-listed qs ps z = go (leb (length qs) limit) refl (has_room sys room qs) refl z
    where
      go : (a : Bool) → leb (length qs) limit ≡ a → (b : Bool) → has_room sys room qs ≡ b
          → cond a (unless 17 b (listed qs)) (refused 5 limit) ≡ listed ps → (qs ≡ ps) × (length qs ≤ limit) × (has_room sys room qs ≡ true)
      go true p true q z = (cc, leb-true (length qs) limit p, q)
      go true p false q z = never (cc)
      go false p b q z = never (cc)

  -- a refusal's number is not 0, where judging's is not
  module _ (number : (n i : ℕ) → o ≡ refused n i → 1 ≤ n) where
    reading-refused : (n i : ℕ) → reading_of sys o room ≡ refused n i → 1 ≤ n
    reading-refused n i z = go o refl (sym reading-is ∙ z)
      where
        last : (qs : List Packet) (a b : Bool) → cond a (unless 17 b (listed qs)) (refused 5 limit) ≡ refused n i → 1 ≤ n
        last qs true true z = never (cc)
        last qs true false z = let k : n ≡ 17 = cc in omega arith
        last qs false b z = let k : n ≡ 5 = cc in omega arith

        go : (q : Outcome) → o ≡ q → and_then q (packet_tests sys room) ≡ refused n i → 1 ≤ n
        go (listed qs) q z =
            at_from 1 20 (location_allowed (system sys)) 0 (locations qs) _ n i (last qs (leb (length qs) limit) (has_room sys room qs))
            (omega arith) z
        go (refused m j) q z = number n i (q ∙ z)

    -- what is accepted only: what judging lists, items give
    pub given-only : {X : Type 0} (packet : X → Packet) (Gives : List X → Type 0)
        → ((ps : List Packet) → o ≡ listed ps → All (OnAllowed (system sys)) ps → (xs : List X) × (map packet xs ≡ ps) × Gives xs)
        → (read_of sys (reading_of sys o room)).number ≡ 0
        → (xs : List X) × Gives xs × (length xs ≤ limit) × (has_room sys room (map packet xs) ≡ true)
    given-only {X} packet Gives back n = answered (reading_of sys o room) refl n
      where
        accepted : (ps : List Packet) → (q : Outcome) → o ≡ q → and_then q (packet_tests sys room) ≡ listed ps
            → (xs : List X) × Gives xs × (length xs ≤ limit) × (has_room sys room (map packet xs) ≡ true)
        accepted ps (refused n i) q z = never (cc)
        accepted ps (listed qs) q z =
            let w = last-listed qs ps (passed_on 20 (location_allowed (system sys)) 0 (locations qs) _ ps z) in
            let v = back qs q (locations-fine (system sys) 0 qs _ ps z) in
            let m = length-map v.0 packet in
            let l = ap length v.1 in
            let few = w.1 in
            (v.0, v.2, omega arith, ap (has_room sys room) v.1 ∙ w.2)

        answered : (q : Outcome) → reading_of sys o room ≡ q → (read_of sys q).number ≡ 0
            → (xs : List X) × Gives xs × (length xs ≤ limit) × (has_room sys room (map packet xs) ≡ true)
        answered (refused m i) q n = let h = reading-refused m i q in absurd (omega arith)
        answered (listed ps) q n = accepted ps o refl (sym reading-is ∙ q)

-- ---- the answer, whatever judging has given

module _ (sys : ℕ) (sheet : List ℕ) where
  -- on a refusal the buffer is unchanged, and the later figures are 0
  pub not-read : (o : Outcome) (r : ElementRead) (after : List ℕ) → r ≡ read_of sys o → after ≡ buffer_of sys sheet o → (r.number ≡ 0 → ⊥)
      → Unread r sheet after
  not-read (listed ps) r after p q n = absurd (n (ap (λ (x : ElementRead). x.number) p))
  not-read (refused m i) r after p q n =
      record { kept = q; packets = ap (λ (x : ElementRead). x.packets) p; numbers = ap (λ (x : ElementRead). x.numbers) p }

  -- the sheet has room in its buffer
  pub reading-within : (o : Outcome) → (read_of sys (reading_of sys o (length sheet))).numbers ≤ length sheet
  reading-within o = within (known sys) o
    where
      fitted : (ps : List Packet) (a b : Bool) → has_room sys (length sheet) ps ≡ b
          → (read_of sys (cond a (unless 17 b (listed ps)) (refused 5 limit))).numbers ≤ length sheet
      fitted ps true true q =
          leb-true (length (sheet_of sys ps)) (length sheet)
          (both (leb (length (all_words ps)) 65535) (leb (length (sheet_of sys ps)) (length sheet)) q).1
      fitted ps true false q = omega arith
      fitted ps false b q = omega arith

      on-lines : (i : ℕ) (ls : List ℕ) (o : Outcome) → (read_of sys o).numbers ≤ length sheet
          → (read_of sys (unless_at 20 (location_allowed (system sys)) i ls o)).numbers ≤ length sheet
      on-lines i [] o h = h
      on-lines i (l ∷ []) o h = h
      on-lines i (l ∷ f ∷ ls) o h = go (allowed (system sys) l) (on-lines (suc i) ls o h)
        where
          go : (t : Bool) → (read_of sys (unless_at 20 (location_allowed (system sys)) (suc i) ls o)).numbers ≤ length sheet
              → (read_of sys (cond t (unless_at 20 (location_allowed (system sys)) (suc i) ls o) (refused 20 i))).numbers ≤ length sheet
          go true ih = ih
          go false ih = omega arith

      within : (k : Bool) (o : Outcome) → (read_of sys (unless 3 k (and_then o (packet_tests sys (length sheet))))).numbers ≤ length sheet
      within false o = omega arith
      within true (refused n i) = omega arith
      within true (listed ps) = on-lines 0 (locations ps) _ (fitted ps (leb (length ps) limit) (has_room sys (length sheet) ps) refl)

-- ---- the contract

gives-lines : (sys : ℕ) (fi : Bool) (xs : List Padded) (e : List ℕ) → Gives sys fi xs e → All (OnAllowed (system sys)) (packets_of xs)
gives-lines sys fi xs e g = sound-lines (system sys) (packets_of xs) (gives-sound sys fi xs g.held)

pub accepted : (sys : ℕ) (fi : Bool) (e : List ℕ) (room : ℕ) → known sys ≡ true → (xs : List Padded) → Gives sys fi xs e → length xs ≤ limit
    → has_room sys room (packets_of xs) ≡ true → reading sys fi e room ≡ listed (packets_of xs)
unfolding reading
accepted sys fi e room kn xs g few h =
    let l : length (packets_of xs) ≤ limit = let m = length-map xs (λ (x : Padded). x.packet) in omega arith in
    reading-passed sys (judged sys fi e) room kn (packets_of xs) (gives-judged sys fi xs e g) (gives-lines sys fi xs e g) l h

-- the contract of reading follows from its first two fields, over an element of bytes
pub reads : (sys : ℕ) (fi : Bool) (e sheet : List ℕ) (r : ElementRead) (after : List ℕ) → Bytes e → r ≡ read sys fi e sheet
    → after ≡ sheet_after sys fi e sheet → Reads sys fi e sheet r after
unfolding read sheet_after reading
reads sys fi e sheet r after b er ea =
    record {
      answer = er;
      buffer = ea;
      demand1 = λ n. not-read sys sheet (reading sys fi e (length sheet)) r after er ea n;
      accepted = λ kn.
          record {
            accepts = λ xs g few h.
                let w = accepted sys fi e (length sheet) kn xs g few h in
                (er ∙ ap (read_of sys) w, ea ∙ ap (buffer_of sys sheet) w);
            only = λ n.
                given-only sys (judged sys fi e) (length sheet) kn numbered (λ (x : Padded). x.packet) (λ xs. Gives sys fi xs e)
                (λ ps z fine. judged-gives sys fi e ps b z fine) (sym (ap (λ (x : ElementRead). x.number) er) ∙ n);
            form = λ xs g z.
                not-form sys (judged sys fi e) (length sheet) kn (packets_of xs) (gives-judged sys fi xs e g) (gives-lines sys fi xs e g)
                (sym (ap (λ (x : ElementRead). x.number) er) ∙ z);
            one = λ xs ys g h. gives_one sys fi xs ys e g h;
          };
    }
  where
    numbered : (n i : ℕ) → judged sys fi e ≡ refused n i → 1 ≤ n
    numbered n i z = let k = judged-number eight sys fi e n i z in omega arith

-- the sheet that is read has room in its buffer
pub read-within : (sys : ℕ) (fi : Bool) (e sheet : List ℕ) (r : ElementRead) (after : List ℕ) → Reads sys fi e sheet r after
    → r.numbers ≤ length sheet
unfolding read reading
read-within sys fi e sheet r after d =
    subst (λ (x : ElementRead). x.numbers ≤ length sheet) (sym d.answer) (reading-within sys sheet (judged sys fi e))

-- An element of ten-bit samples is read as it was written, and what is read was written so, for some bits and bytes that a reader disregards.
--
-- In order: a structure, as written and as read; an element, both ways.
-- Assumes nothing.
use Prim.Native.Nat.{ℕ, ◌+◌, ◌≤◌}
use mathlib.Core.Path.{◌≡◌, refl, sym, ap, ap₂, ◌∙◌, subst}
use mathlib.Core.Bool.{Bool, true}
use mathlib.Core.List.{List, [], ◌∷◌, ◌++◌, append-nil}
use native.Mathlib.Omega.{arith}
use lib.ListN.{length, get_or, take, drop, length-append, take-append-drop, drop_of_length-le}
use lib.Seq.{get_or-drop, take_at}
use borrow.Author.Tests.{le-ltb, le-leb}
use Rattle.rules.specs.Base.{All, Bytes}
use Rattle.rules.specs.Systems.{system, allowed}
use Rattle.rules.specs.Packet.{Packet, coded, check_of, words, Found}
use Rattle.rules.specs.Numbers.{Outcome, listed}
use Rattle.rules.specs.Laying.{dc_in as dcOf}
use Rattle.rules.specs.Found.{is_ten, are_ten, found_fault, found_of_words, found_row}
use Rattle.rules.proofs.Basics.{both, take-bytes, drop-bytes}
use Rattle.rules.proofs.Lines.{OnAllowed}
use Rattle.rules.proofs.Words.{bare, coded-length, dc-low}
use Rattle.rules.proofs.Sheets.{moved}
use Rattle.rules.proofs.Found.{ten-append, ten-parts, found_back, found-uncut, found-moved}
use Rattle.mxf.specs.Element.{ten}
use Rattle.mxf.specs.Judging.{two_in, four_in, samples_in, array_for, size_in, dc_in, front_then, array_then, sampled, packet_in}
use Rattle.mxf.specs.Parts.{Whole}
use Rattle.mxf.proofs.Inversion.{Structure}
use Rattle.mxf.proofs.Structures.{laid, Says, laid-says, flags-back, structure-passes, rest_back}
use Rattle.mxf.proofs.Structures.{flags_in, flags-small, flags-own, array_long, array-rest, structure-split}
use Rattle.mxf.proofs.Structures.{packets-give, Kind, ElementBy, element-read, element-one, element-written}
use Rattle.mxf10.specs.Element.{Arrayed, packets_of, source, samples, structure, value, element}
use Rattle.mxf10.specs.Reading.{judged}
use Rattle.mxf10.specs.Demands.{Held, Gives}
use Rattle.mxf10.proofs.TensLaws.{samples-ten, samples-append, ten-at}
use Rattle.mxf.proofs.Tens.{dc-sample, shown-long, dc-shown}

-- ---- a structure: what is written is read

-- the packet and the array that a structure shows
abbrev arrayed_in : ℕ → Bool → List ℕ → Arrayed
arrayed_in sys fi s = record { packet = packet_in ten sys fi s; array = take (four_in s 6) (drop 14 s) }

pub structure-length : (sys : ℕ) (x : Arrayed) → length (structure sys x) ≡ 14 + length x.array
unfolding structure
structure-length sys x = omega arith

module _ (sys : ℕ) (fi : Bool) (x : Arrayed) (r : List ℕ) (g : Held sys fi x) where
  abbrev p : Packet
  p = x.packet

  abbrev s : List ℕ
  s = structure sys x ++ r

  abbrev size : ℕ
  size = length x.array

  says : Says ten sys p.line p.flags (samples p) size x.array r s
  unfolding structure laid
  says = laid-says ten sys p.line p.flags (samples p) size x.array r s refl

  samples-shown : take (two_in s 4) (samples_in (drop 14 s)) ≡ source p
  samples-shown =
      ap₂ (λ (n : ℕ) (t : List ℕ). take n (samples_in t)) says.samples says.behind
      ∙ samples-append x.array r (samples p) g.long
      ∙ g.shows

  words-shown : 0x000 ∷ 0x3FF ∷ 0x3FF ∷ take (two_in s 4) (samples_in (drop 14 s)) ≡ words p ++ []
  unfolding words
  words-shown = ap (λ (t : List ℕ). 0x000 ∷ 0x3FF ∷ 0x3FF ∷ t) (samples-shown ∙ sym (append-nil (source p)))

  dc-back : dc_in ten s + 4 ≡ samples p
  dc-back =
      let n = says.samples in
      let l = says.long in
      let h = g.long in
      let d = sym (dc-sample s (two_in s 4) (omega arith) (omega arith)) ∙ ap dcOf words-shown ∙ dc-low p [] g.found.within.many in
      ap (λ (k : ℕ). k + 4) d

  passes : (at : ℕ) (o : Outcome) → front_then ten sys at s (array_then ten at s o) ≡ o
  passes =
      let m = g.found.within.many in
      structure-passes ten sys p.line p.flags (samples p) size x.array r s says g.lined g.found.within.line (omega arith)
      (omega arith) g.long refl dc-back

  structure-packet : packet_in ten sys fi s ≡ p
  structure-packet =
      let shown : sampled ten s ≡ bare p = ap found_of_words words-shown ∙ found_back (system sys) p [] g.found in
      let flags = flags-back ten sys p.line p.flags (samples p) size x.array r s says fi g.own g.found.within.flags in
      λ i. record { did = (shown i).did; sdid = (shown i).sdid; user = (shown i).user; line = says.line i; flags = flags i; mark = (shown i).mark }

  structure-rest : drop (size_in s) s ≡ r
  structure-rest = rest_back ten sys p.line p.flags (samples p) size x.array r s says refl

  structure-arrayed : arrayed_in sys fi s ≡ x
  structure-arrayed =
      let array : take (four_in s 6) (drop 14 s) ≡ x.array =
      ap₂ (λ (n : ℕ) (t : List ℕ). take n t) says.array says.behind ∙ take_at x.array r size refl in
      λ i. record { packet = structure-packet i; array = array i }

-- ---- a structure: what is read was written

ten-take : (n : ℕ) (ws : List ℕ) → are_ten ws ≡ true → are_ten (take n ws) ≡ true
ten-take n ws e =
    (both (are_ten (take n ws)) (are_ten (drop n ws)) (sym (ten-append (take n ws) (drop n ws)) ∙ ap are_ten (take-append-drop n ws) ∙ e)).0

module _ (sys : ℕ) (fi : Bool) (s : List ℕ) (hs : Bytes s) (g : Structure ten sys s) where
  abbrev x : Arrayed
  x = arrayed_in sys fi s

  abbrev q : Packet
  q = packet_in ten sys fi s

  abbrev n : ℕ
  n = two_in s 4

  -- the samples, and the words that they are behind a flag
  abbrev ws : List ℕ
  ws = take n (samples_in (drop 14 s))

  abbrev W : List ℕ
  W = 0x000 ∷ 0x3FF ∷ 0x3FF ∷ ws

  array_whole : Whole ten s
  array_whole = record { there = g.inside; room = g.enough; dc = g.dc }

  ws-long : length ws ≡ n
  ws-long = shown-long sys fi s array_whole

  ws-ten : are_ten ws ≡ true
  ws-ten = ten-take n (samples_in (drop 14 s)) (samples-ten (drop 14 s) (drop-bytes 14 s hs))

  dc-in : dcOf W + 4 ≡ n
  dc-in = ap (λ (k : ℕ). k + 4) (dc-shown sys fi s array_whole) ∙ g.dc

  no-fault : found_fault W ≡ 0
  unfolding found_fault
  no-fault =
      let l = ws-long in
      let d = dc-in in
      let least = g.least in
      let t : are_ten (take (dcOf W + 3) (drop 3 W)) ≡ true = ten-take (dcOf W + 3) ws ws-ten in
      let w = both (are_ten (take 3 (drop 3 W))) (are_ten (take (dcOf W) (drop 6 W))) (sym (ten-parts (dcOf W) W) ∙ t) in
      let e : 3 + (dcOf W + 3) ≡ dcOf W + 6 = omega arith in
      let last : get_or ws (dcOf W + 3) 0 ≡ get_or W (dcOf W + 6) 0 = get_or-drop 3 W (dcOf W + 3) 0 ∙ ap (λ (k : ℕ). get_or W k 0) e in
      let small = ten-at ws ws-ten (dcOf W + 3) in
      let c : is_ten (get_or W (dcOf W + 6) 0) ≡ true = le-leb (get_or W (dcOf W + 6) 0) 0x3FF (omega arith) in
      rw (le-ltb (length W) 7 (omega arith), w.0, le-ltb (length W) (dcOf W + 7) (omega arith), w.1, c)

  -- the packet as found that these words are
  record Shown : Type 0 where
    of : Packet
    is : bare of ≡ found_of_words W
    whole : words of ≡ W
    found : Found (system sys) of

  shown : Shown
  unfolding found_row
  shown =
      let w = found-uncut (system sys) W tt no-fault in
      let l = ws-long in
      let d = dc-in in
      let all : length W ≤ dcOf W + 7 = omega arith in
      let end : drop (dcOf W + 7) W ≡ [] = drop_of_length-le W all in
      record {
        of = w.0;
        is = w.1;
        whole = sym (append-nil (words w.0)) ∙ ap (λ (t : List ℕ). words w.0 ++ t) (sym end) ∙ sym w.2;
        found = w.3;
      }

  -- with the line and flags of the structure
  placed : moved shown.of (two_in s 0) (flags_in ten sys fi s hs g) ≡ q
  placed = ap (λ (p : Packet). moved p (two_in s 0) (flags_in ten sys fi s hs g)) shown.is

  source_in : source q ≡ ws
  unfolding words coded check_of
  source_in = ap source (sym placed) ∙ ap (drop 3) shown.whole

  samples-in : samples q ≡ n
  samples-in =
      let l = ws-long in
      let c = coded-length q in
      let k = length-append (coded q) (check_of q ∷ []) in
      let m = ap length source_in in
      omega arith

  structure-held : allowed (system sys) q.line ≡ true → Held sys fi x
  structure-held a =
      let l = array_long ten sys fi s hs g in
      let m = samples-in in
      let b = g.enough in
      let long : array_for ten n ≤ length x.array = omega arith in
      record {
        found =
            subst (Found (system sys)) placed
            (found-moved (system sys) shown.of (two_in s 0) (flags_in ten sys fi s hs g) shown.found a (flags-small ten sys fi s hs g));
        lined = g.lined;
        own = flags-own ten sys fi s hs g;
        bytes = take-bytes (four_in s 6) (drop 14 s) (drop-bytes 14 s hs);
        long = omega arith;
        shows =
            ap (λ (k : ℕ). take k (samples_in x.array)) m
            ∙ sym (samples-append x.array (drop (size_in s) s) n long)
            ∙ ap (λ (t : List ℕ). take n (samples_in t)) (array-rest ten sys fi s hs g)
            ∙ sym source_in;
      }

  structure-whole : s ≡ structure sys x ++ drop (size_in s) s
  unfolding structure laid
  structure-whole =
      structure-split ten sys fi s hs g x.array (drop (size_in s) s) (array-rest ten sys fi s hs g)
      ∙ ap₂ (λ (i j : ℕ). laid ten sys q.line q.flags i j x.array ++ drop (size_in s) s) (sym samples-in) (sym (array_long ten sys fi s hs g))

-- ---- an element, both ways

module _ (sys : ℕ) (fi : Bool) where
  abbrev view : Arrayed → Packet
  view x = x.packet

  -- packets with arrays, as the items of an element
  arrayed : Kind ten sys fi (structure sys) view (arrayed_in sys fi) (Held sys fi)
  arrayed =
      record {
        passes = passes sys fi;
        shows = structure-packet sys fi;
        rest = structure-rest sys fi;
        finds = structure-arrayed sys fi;
        found = λ s. refl;
        held = structure-held sys fi;
        whole = structure-whole sys fi;
      }

  abbrev Of : List Arrayed → List ℕ → Type 0
  Of xs e = ElementBy ten sys fi (structure sys) view (arrayed_in sys fi) (Held sys fi) xs e

  given-of : (xs : List Arrayed) (e : List ℕ) → Gives sys fi xs e → Of xs e
  unfolding element value
  given-of xs e g = record { held = g.held; head = record { few = g.few; short = g.short; bytes = g.bytes } }

  gives_of : (xs : List Arrayed) (e : List ℕ) → Of xs e → Gives sys fi xs e
  unfolding element value
  gives_of xs e g = record { held = g.held; few = g.head.few; short = g.head.short; bytes = g.head.bytes }

  -- the packets of what is given are as found
  pub gives_found : (xs : List Arrayed) → All (Held sys fi) xs → All (Found (system sys)) (packets_of xs)
  gives_found xs g = packets-give view (Held sys fi) (Found (system sys)) (λ x h. h.found) xs g

  -- what is given is read
  pub gives-judged : (xs : List Arrayed) (e : List ℕ) → Gives sys fi xs e → judged sys fi e ≡ listed (packets_of xs)
  gives-judged xs e g = element-read ten sys fi (structure sys) view (arrayed_in sys fi) (Held sys fi) arrayed xs e (given-of xs e g)

  -- from one list with one array each
  pub gives_one : (xs ys : List Arrayed) (e : List ℕ) → Gives sys fi xs e → Gives sys fi ys e → xs ≡ ys
  gives_one xs ys e g h =
      element-one ten sys fi (structure sys) view (arrayed_in sys fi) (Held sys fi) arrayed xs ys e (given-of xs e g) (given-of ys e h)

  -- what is read was given
  pub judged-gives : (e : List ℕ) (ps : List Packet) → Bytes e → judged sys fi e ≡ listed ps → All (OnAllowed (system sys)) ps
      → (xs : List Arrayed) × (packets_of xs ≡ ps) × Gives sys fi xs e
  judged-gives e ps he z fine =
      let w = element-written ten sys fi (structure sys) view (arrayed_in sys fi) (Held sys fi) arrayed e ps he z fine in
      (w.0, w.1, gives_of w.0 e w.2)

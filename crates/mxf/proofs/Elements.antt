-- An element is read as it was written, and what is read was written so, for some padding.
--
-- In order: a structure, as written and as read; an element, both ways.
-- Assumes nothing.
use Prim.Native.Nat.{ℕ, ◌+◌, ◌-◌, ◌<◌}
use mathlib.Core.Path.{◌≡◌, refl, sym, ap, ap₂, ◌∙◌, subst}
use mathlib.Core.Bool.{Bool, true}
use mathlib.Core.List.{List, ◌++◌, append_assoc}
use native.Mathlib.Omega.{arith}
use native.Mathlib.Numerals.{add-three}
use lib.ListN.{length, get_or, take, drop, length-append, length-drop, take-append-drop}
use lib.Seq.{drop_at, take_at, take-append_seam, drop-drop, length-take-le}
use Rattle.rules.specs.Base.{All, Bytes}
use Rattle.rules.specs.Systems.{system, allowed}
use Rattle.rules.specs.Packet.{Packet, body, Sound}
use Rattle.rules.specs.Numbers.{Outcome, listed}
use Rattle.rules.proofs.Basics.{take-bytes, drop-bytes}
use Rattle.rules.proofs.Lines.{OnAllowed}
use Rattle.mxf.specs.Element.{eight, Padded, packets_of, coding, samples, structure, value, element}
use Rattle.mxf.specs.Judging.{two_in, four_in, size_in, front_then, array_then, packet_in, judged}
use Rattle.mxf.specs.Demands.{Held, Gives}
use Rattle.mxf.proofs.Inversion.{Structure}
use Rattle.mxf.proofs.Structures.{laid, Says, laid-says, flags-back, structure-passes, rest_back}
use Rattle.mxf.proofs.Structures.{firsts, flags-small, flags-own, structure-split}
use Rattle.mxf.proofs.Structures.{packets-give, Kind, ElementBy, element-read, element-one, element-written}

-- ---- a structure: what is written is read

-- the packet and the padding that a structure shows
abbrev padded_in : ℕ → Bool → List ℕ → Padded
padded_in sys fi s = record { packet = packet_in eight sys fi s; padding = take (four_in s 6 - two_in s 4) (drop (two_in s 4) (drop 14 s)) }

pub structure-length : (sys : ℕ) (x : Padded) → length (structure sys x) ≡ 17 + length x.packet.user + length x.padding
unfolding structure
structure-length sys x = let k = length-append x.packet.user x.padding in omega arith

module _ (sys : ℕ) (fi : Bool) (x : Padded) (r : List ℕ) (g : Held sys fi x) where
  abbrev p : Packet
  p = x.packet

  abbrev s : List ℕ
  s = structure sys x ++ r

  abbrev array : List ℕ
  array = body p ++ x.padding

  abbrev size : ℕ
  size = samples p + length x.padding

  says : Says eight sys p.line p.flags (samples p) size array r s
  unfolding structure coding laid
  says = laid-says eight sys p.line p.flags (samples p) size array r s refl

  array_size : size ≡ length array
  array_size = let k = length-append p.user x.padding in omega arith

  dc-back : get_or s 16 0 ≡ length p.user
  unfolding structure
  dc-back = refl

  passes : (at : ℕ) (o : Outcome) → front_then eight sys at s (array_then eight at s o) ≡ o
  passes =
      let d = dc-back in
      let m = g.sound.many in
      structure-passes eight sys p.line p.flags (samples p) size array r s says g.lined g.sound.line (omega arith)
      (omega arith) (omega arith) array_size (omega arith)

  user-back : take (get_or s 16 0) (drop 17 s) ≡ p.user
  unfolding structure
  user-back = ap (take (length p.user)) (append_assoc p.user x.padding r) ∙ take-append_seam p.user (x.padding ++ r)

  structure-packet : packet_in eight sys fi s ≡ p
  unfolding structure
  structure-packet =
      let flags = flags-back eight sys p.line p.flags (samples p) size array r s says fi g.own g.sound.flags in
      λ i. record { did = p.did; sdid = p.sdid; user = user-back i; line = says.line i; flags = flags i; mark = sym g.sound.mark i }

  structure-rest : drop (size_in s) s ≡ r
  structure-rest = rest_back eight sys p.line p.flags (samples p) size array r s says array_size

  padding-back : take (four_in s 6 - two_in s 4) (drop (two_in s 4) (drop 14 s)) ≡ x.padding
  padding-back =
      let m = says.samples in
      let a = says.array in
      let n : two_in s 4 ≡ length (body p) = m ∙ add-three (length p.user) in
      let e : drop (two_in s 4) (drop 14 s) ≡ x.padding ++ r =
      ap (drop (two_in s 4)) (says.behind ∙ append_assoc (body p) x.padding r) ∙ drop_at (body p) (x.padding ++ r) (two_in s 4) (sym n) in
      ap (take (four_in s 6 - two_in s 4)) e ∙ take_at x.padding r (four_in s 6 - two_in s 4) (omega arith)

  structure-padded : padded_in sys fi s ≡ x
  structure-padded = λ i. record { packet = structure-packet i; padding = padding-back i }

-- ---- a structure: what is read was written

module _ (sys : ℕ) (fi : Bool) (s : List ℕ) (hs : Bytes s) (g : Structure eight sys s) where
  abbrev x : Padded
  x = padded_in sys fi s

  abbrev q : Packet
  q = packet_in eight sys fi s

  abbrev t : List ℕ
  t = drop 17 s

  abbrev dc : ℕ
  dc = get_or s 16 0

  abbrev pads : ℕ
  pads = four_in s 6 - two_in s 4

  left : length t ≡ length s - 17
  left = length-drop 17 s

  user-long : length q.user ≡ dc
  user-long = let l = left in let a = g.dc in let b = g.enough in let c = g.inside in length-take-le dc t (omega arith)

  behind : drop (two_in s 4) (drop 14 s) ≡ drop dc t
  behind =
      let e : 14 + two_in s 4 ≡ 17 + dc = let a = g.dc in omega arith in
      drop-drop (two_in s 4) 14 s ∙ ap (λ (n : ℕ). drop n s) e ∙ sym (drop-drop dc 17 s)

  pads-long : length x.padding ≡ pads
  pads-long =
      let l = left in
      let a = g.dc in
      let b = g.enough in
      let c = g.inside in
      let m = length-drop dc t in
      let k = ap length behind in
      length-take-le pads (drop (two_in s 4) (drop 14 s)) (omega arith)

  rest : drop (size_in s) s ≡ drop pads (drop dc t)
  rest =
      let e : size_in s ≡ 17 + dc + pads = let a = g.dc in let b = g.enough in omega arith in
      ap (λ (n : ℕ). drop n s) e ∙ sym (drop-drop pads (17 + dc) s) ∙ ap (drop pads) (sym (drop-drop dc 17 s))

  tail : (q.user ++ x.padding) ++ drop (size_in s) s ≡ t
  tail =
      append_assoc q.user x.padding (drop (size_in s) s)
      ∙ ap (λ (r : List ℕ). q.user ++ r)
      (ap₂ (λ (a b : List ℕ). a ++ b) (ap (take pads) behind) rest ∙ take-append-drop pads (drop dc t))
      ∙ take-append-drop dc t

  array_whole : (body q ++ x.padding) ++ drop (size_in s) s ≡ drop 14 s
  array_whole =
      let a = g.least in
      let b = g.enough in
      let c = g.inside in
      let e = firsts 3 14 s (omega arith) in
      let u = user-long in
      let r = tail in
      cc

  structure-whole : s ≡ structure sys x ++ drop (size_in s) s
  unfolding structure coding laid
  structure-whole =
      let u = user-long in
      let v = pads-long in
      let a = g.dc in
      let b = g.enough in
      let n : samples q ≡ two_in s 4 = omega arith in
      let k : samples q + length x.padding ≡ four_in s 6 = omega arith in
      structure-split eight sys fi s hs g (body q ++ x.padding) (drop (size_in s) s) array_whole
      ∙ ap₂ (λ (i j : ℕ). laid eight sys q.line q.flags i j (body q ++ x.padding) ++ drop (size_in s) s) (sym n) (sym k)

  structure-held : allowed (system sys) q.line ≡ true → Held sys fi x
  structure-held a =
      record {
        sound =
            record {
              did = hs 14;
              sdid = hs 15;
              many = subst (λ (n : ℕ). n < 256) (sym user-long) (hs 16);
              user = take-bytes dc t (drop-bytes 17 s hs);
              line = a;
              flags = flags-small eight sys fi s hs g;
              mark = refl;
            };
        lined = g.lined;
        own = flags-own eight sys fi s hs g;
        padding = take-bytes pads (drop (two_in s 4) (drop 14 s)) (drop-bytes (two_in s 4) (drop 14 s) (drop-bytes 14 s hs));
      }

-- ---- an element, both ways

module _ (sys : ℕ) (fi : Bool) where
  abbrev view : Padded → Packet
  view x = x.packet

  -- padded packets, as the items of an element
  padded : Kind eight sys fi (structure sys) view (padded_in sys fi) (Held sys fi)
  padded =
      record {
        passes = passes sys fi;
        shows = structure-packet sys fi;
        rest = structure-rest sys fi;
        finds = structure-padded sys fi;
        found = λ s. refl;
        held = structure-held sys fi;
        whole = structure-whole sys fi;
      }

  abbrev Of : List Padded → List ℕ → Type 0
  Of xs e = ElementBy eight sys fi (structure sys) view (padded_in sys fi) (Held sys fi) xs e

  given-of : (xs : List Padded) (e : List ℕ) → Gives sys fi xs e → Of xs e
  unfolding element value
  given-of xs e g = record { held = g.held; head = record { few = g.few; short = g.short; bytes = g.bytes } }

  gives_of : (xs : List Padded) (e : List ℕ) → Of xs e → Gives sys fi xs e
  unfolding element value
  gives_of xs e g = record { held = g.held; few = g.head.few; short = g.head.short; bytes = g.head.bytes }

  -- the packets of what is given are sound
  pub gives-sound : (xs : List Padded) → All (Held sys fi) xs → All (Sound (system sys)) (packets_of xs)
  gives-sound xs g = packets-give view (Held sys fi) (Sound (system sys)) (λ x h. h.sound) xs g

  -- what is given is read
  pub gives-judged : (xs : List Padded) (e : List ℕ) → Gives sys fi xs e → judged sys fi e ≡ listed (packets_of xs)
  gives-judged xs e g = element-read eight sys fi (structure sys) view (padded_in sys fi) (Held sys fi) padded xs e (given-of xs e g)

  -- from one list with one padding
  pub gives_one : (xs ys : List Padded) (e : List ℕ) → Gives sys fi xs e → Gives sys fi ys e → xs ≡ ys
  gives_one xs ys e g h =
      element-one eight sys fi (structure sys) view (padded_in sys fi) (Held sys fi) padded xs ys e (given-of xs e g) (given-of ys e h)

  -- what is read was given
  pub judged-gives : (e : List ℕ) (ps : List Packet) → Bytes e → judged sys fi e ≡ listed ps → All (OnAllowed (system sys)) ps
      → (xs : List Padded) × (packets_of xs ≡ ps) × Gives sys fi xs e
  judged-gives e ps he z fine =
      let w = element-written eight sys fi (structure sys) view (padded_in sys fi) (Held sys fi) padded e ps he z fine in
      (w.0, w.1, gives_of w.0 e w.2)

-- What reading gives back and the sheet buffer afterwards meet the contract `ReadsTen`: an element is accepted exactly when some list of packets
-- as found with lines gives it, unused bits and padding aside, and one list only.
-- Assumes nothing.
use Prim.Native.Nat.{ℕ, ◌≤◌}
use mathlib.Core.Path.{◌≡◌, sym, ap, ◌∙◌, subst}
use mathlib.Core.Bool.{Bool, true}
use mathlib.Core.List.{List}
use native.Mathlib.Omega.{arith}
use lib.ListN.{length, length-map}
use Rattle.rules.specs.Base.{All, Bytes}
use Rattle.rules.specs.Systems.{known, system}
use Rattle.rules.specs.Packet.{Found}
use Rattle.rules.specs.Sheet.{limit}
use Rattle.rules.specs.Numbers.{listed, refused}
use Rattle.rules.specs.Reading.{buffer_of}
use Rattle.rules.proofs.Basics.{all_give}
use Rattle.rules.proofs.Lines.{OnAllowed}
use Rattle.sheet.specs.Write.{has_room}
use Rattle.mxf.specs.Element.{ten}
use Rattle.mxf.specs.Reading.{read_of}
use Rattle.mxf.specs.declared.ElementRead.{ElementRead}
use Rattle.mxf.proofs.Inversion.{judged-number}
use Rattle.mxf.proofs.Accepting.{reading-passed, not-form, given-only, not-read, reading-within}
use Rattle.mxf10.specs.Element.{Arrayed, packets_of}
use Rattle.mxf10.specs.Reading.{judged, reading, read, sheet_after}
use Rattle.mxf10.specs.Demands.{Gives, ReadsTen}
use Rattle.mxf10.proofs.Elements.{gives_found, gives-judged, gives_one, judged-gives}

gives-lines : (sys : ℕ) (fi : Bool) (xs : List Arrayed) (e : List ℕ) → Gives sys fi xs e → All (OnAllowed (system sys)) (packets_of xs)
gives-lines sys fi xs e g =
    all_give (Found (system sys)) (OnAllowed (system sys)) (λ p h. h.within.line) (packets_of xs) (gives_found sys fi xs g.held)

pub accepted : (sys : ℕ) (fi : Bool) (e : List ℕ) (room : ℕ) → known sys ≡ true → (xs : List Arrayed) → Gives sys fi xs e → length xs ≤ limit
    → has_room sys room (packets_of xs) ≡ true → reading sys fi e room ≡ listed (packets_of xs)
unfolding reading
accepted sys fi e room kn xs g few h =
    let l : length (packets_of xs) ≤ limit = let m = length-map xs (λ (x : Arrayed). x.packet) in omega arith in
    reading-passed sys (judged sys fi e) room kn (packets_of xs) (gives-judged sys fi xs e g) (gives-lines sys fi xs e g) l h

-- the contract of reading follows from its first two fields, over an element of bytes
pub reads : (sys : ℕ) (fi : Bool) (e sheet : List ℕ) (r : ElementRead) (after : List ℕ) → Bytes e → r ≡ read sys fi e sheet
    → after ≡ sheet_after sys fi e sheet → ReadsTen sys fi e sheet r after
unfolding read sheet_after reading
reads sys fi e sheet r after b er ea =
    record {
      answer = er;
      buffer = ea;
      demand1 = λ n. not-read sys sheet (reading sys fi e (length sheet)) r after er ea n;
      accepted = λ kn.
          record {
            accepts = λ xs g few h.
                let w = accepted sys fi e (length sheet) kn xs g few h in
                (er ∙ ap (read_of sys) w, ea ∙ ap (buffer_of sys sheet) w);
            only = λ n.
                given-only sys (judged sys fi e) (length sheet) kn numbered (λ (x : Arrayed). x.packet) (λ xs. Gives sys fi xs e)
                (λ ps z fine. judged-gives sys fi e ps b z fine) (sym (ap (λ (x : ElementRead). x.number) er) ∙ n);
            form = λ xs g z.
                not-form sys (judged sys fi e) (length sheet) kn (packets_of xs) (gives-judged sys fi xs e g) (gives-lines sys fi xs e g)
                (sym (ap (λ (x : ElementRead). x.number) er) ∙ z);
            one = λ xs ys g h. gives_one sys fi xs ys e g h;
          };
    }
  where
    numbered : (n i : ℕ) → judged sys fi e ≡ refused n i → 1 ≤ n
    numbered n i z = let k = judged-number ten sys fi e n i z in omega arith

-- the sheet that is read has room in its buffer
pub read-within : (sys : ℕ) (fi : Bool) (e sheet : List ℕ) (r : ElementRead) (after : List ℕ) → ReadsTen sys fi e sheet r after
    → r.numbers ≤ length sheet
unfolding read reading
read-within sys fi e sheet r after d =
    subst (λ (x : ElementRead). x.numbers ≤ length sheet) (sym d.answer) (reading-within sys sheet (judged sys fi e))

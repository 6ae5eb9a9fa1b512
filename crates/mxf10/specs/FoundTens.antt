-- The writer of packets as found in samples of ten bits (document 02, A13), and that it keeps the laws of one.
--
-- In order: samples; a structure; an element; words; the writer.
-- Assumes nothing.
use Rattle.std.specs.Prelude.{ℕ, ◌+◌, ◌≡◌, true, List, [], ◌∷◌, ◌++◌, map, length, get_or, take, drop, ltb}
use Rattle.std.proofs.Common.{refl, sym, ap, ◌∙◌, arith}
use Rattle.std.proofs.lemmas.List.{length-append, take_all}
use Rattle.rules.specs.Base.{joined}
use Rattle.rules.specs.Systems.{System, system}
use Rattle.rules.specs.Packet.{Packet, words, coded, check_of, Found}
use Rattle.rules.specs.Sheet.{locations_in, words_in}
use Rattle.rules.specs.Numbers.{refused}
use Rattle.rules.specs.Laying.{flagged, dc_in, word_at}
use Rattle.rules.specs.Found.{is_ten, are_ten, found_fault, found_word_at, found_word_in, found_tests, SheetFound}
use Rattle.rules.proofs.Words.{coded-length, dc-low, coded-taken, check-taken, passed}
use Rattle.rules.proofs.Sheets.{locations-back, words_back}
use Rattle.rules.proofs.Found.{ten-append, ten-parts, found-fine, found-read, found-made, found-unique, found-refused}
use Rattle.mxf.specs.Element.{two, wrapping, ten, klv}
use Rattle.mxf.specs.Judging.{array_for}
use Rattle.mxf.specs.Writer.{source_by, structure_of, size_by, Writer}
use Rattle.mxf10.specs.Element.{tens, Arrayed, source, ours, samples, structure, value, element, element_of}
use Rattle.mxf10.specs.Parts.{SectionsFound}

-- ---- samples

pub tens-length : (ws : List ℕ) → length (tens ws) ≡ array_for ten (length ws)
tens-length [] = refl
tens-length (a ∷ []) = refl
tens-length (a ∷ b ∷ []) = refl
tens-length (a ∷ b ∷ c ∷ ws) = let e = tens-length ws in omega arith

pub source-length : (p : Packet) → length (source p) ≡ samples p
source-length p = let c = coded-length p in let k = length-append (coded p) (check_of p ∷ []) in omega arith

-- the samples of a packet as found are below 1024
pub found-ten : (y : System) (p : Packet) → Found y p → are_ten (source p) ≡ true
unfolding found_fault
found-ten y p g =
    let v : List ℕ = words p ++ [] in
    let d = dc-low p [] g.within.many in
    let w =
    passed 7 (ltb (length v) 7) (flagged v) (are_ten (take 3 (drop 3 v))) (ltb (length v) (dc_in v + 7)) (are_ten (take (dc_in v) (drop 6 v)))
    (is_ten (get_or v (dc_in v + 6) 0)) (found-fine y p [] g) in
    let front : take (dc_in v + 3) (drop 3 v) ≡ coded p = ap (λ (n : ℕ). take (n + 3) (drop 3 v)) d ∙ coded-taken p [] in
    let last : get_or v (dc_in v + 6) 0 ≡ check_of p = ap (λ (n : ℕ). get_or v (n + 6) 0) d ∙ check-taken p [] in
    let a : are_ten (coded p) ≡ true = sym (ap are_ten front) ∙ ten-parts (dc_in v) v ∙ rw (w.2, w.4) in
    let b : is_ten (check_of p) ≡ true = sym (ap is_ten last) ∙ w.5 in
    ten-append (coded p) (check_of p ∷ []) ∙ rw (a, b)

-- from DID to CS
pub words-source : (p : Packet) → source_by ten p ≡ source p
unfolding words
words-source p = take_all (length p.user + 4) (source p) (let l = source-length p in omega arith)

pub source-fits : (y : System) (p : Packet) → Found y p → are_ten (source_by ten p) ≡ true
source-fits y p g = ap are_ten (words-source p) ∙ found-ten y p g

-- ---- a structure

-- as it is written
pub structure-is : (sys : ℕ) (p : Packet) → structure_of ten tens p.line (wrapping sys) p.flags (source_by ten p) ≡ structure sys (ours p)
unfolding structure
structure-is sys p = rw (words-source p, source-length p)

pub structure-sized : (sys : ℕ) (p : Packet) → length (structure sys (ours p)) ≡ size_by ten (length p.user)
unfolding structure
structure-sized sys p =
    let a : length (tens (source p)) ≡ array_for ten (samples p) = tens-length (source p) ∙ ap (array_for ten) (source-length p) in
    omega arith

-- ---- an element

pub element-made : (sys : ℕ) (ps : List Packet) → element_of sys ps ≡ klv (two (length (map ours ps)) ++ joined (structure sys) (map ours ps))
unfolding element value
element-made sys ps = refl

pub sections-found : (sys : ℕ) (ps : List Packet) (s ls ws : List ℕ) → ls ≡ locations_in s → ws ≡ words_in s → SheetFound sys ps s
    → SectionsFound (system sys) ps ls ws
sections-found sys ps s ls ws b c h = record {
  found = h.found;
  section_b = b ∙ ap locations_in h.whole ∙ locations-back sys ps;
  section_c = c ∙ ap words_in h.whole ∙ words_back sys ps;
}

pub word_none : (ws : List ℕ) (i : ℕ) → (found_word_in ws (refused 18 i) ≡ 0) × (found_word_in ws (refused 17 i) ≡ 0)
unfolding found_word_at word_at
word_none ws i = (refl, refl)

-- ---- the writer

-- packets as found, in samples of ten bits
abbrev pub found_tens : Writer
found_tens = record {
  -- words of ten bits
  coding = ten;
  fits = λ (ws : List ℕ). are_ten ws ≡ true;
  array = tens;
  array_long = tens-length;
  -- the sections of packets as found
  Of = SectionsFound;
  Fine = Found;
  each = λ y ps ls ws h. h.found;
  section_b = λ y ps ls ws h. h.section_b;
  section_c = λ y ps ls ws h. h.section_c;
  many = λ y p g. g.within.many;
  fitting = source-fits;
  -- their structures
  Item = Arrayed;
  item = ours;
  bytes = structure;
  sized = structure-sized;
  laid_as = λ sys y p g. structure-is sys p;
  make = element_of;
  made = element-made;
  -- their sheet
  Sheet = SheetFound;
  few = λ sys ps s g. g.few;
  whole = λ sys ps s g. g.whole;
  sections = sections-found;
  unique = found-unique;
  -- the tests as found
  tests = found_tests;
  read = found-read;
  laid = found-made;
  refuses = found-refused;
  word = found_word_in;
  word_none = λ ws ps. refl;
  word-18 = λ ws i. (word_none ws i).0;
  word-17 = λ ws i. (word_none ws i).1;
}

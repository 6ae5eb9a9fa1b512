-- The writer of sound packets in samples of 8 bits (document 02, A1), and that it keeps the laws of one.
--
-- In order: a structure; an element; words; the writer.
-- Assumes nothing.
use Rattle.std.specs.Prelude.{ℕ, ◌+◌, ◌≡◌, List, [], ◌∷◌, ◌++◌, map, length}
use Rattle.std.proofs.Common.{refl, arith}
use Rattle.std.proofs.lemmas.List.{length-append, length-map, append-nil, take_at}
use Rattle.rules.specs.Base.{joined}
use Rattle.rules.specs.Systems.{System}
use Rattle.rules.specs.Packet.{Packet, words, coded, check_of, Sound}
use Rattle.rules.specs.Numbers.{refused}
use Rattle.rules.specs.Laying.{low, word_at, word_in, sheet_tests}
use Rattle.rules.specs.Demands.{SheetOf}
use Rattle.rules.proofs.Words.{body_bytes, coded-length, coded-low}
use Rattle.rules.proofs.Lister.{sheet-refused}
use Rattle.rules.proofs.Sheets.{sheet-read, sheet-laid, sheet-unique}
use Rattle.sections.specs.Sections.{SectionsOf}
use Rattle.sections.proofs.Laws.{sections-of}
use Rattle.mxf.specs.Element.{two, wrapping, eight, coding, Padded, bare, samples, structure, value, klv, element, element_of}
use Rattle.mxf.specs.Writer.{source_by, structure_of, size_by, Writer}

-- the words from DID to the last user word
coded-source : (p : Packet) → source_by eight p ≡ coded p
unfolding words
coded-source p = take_at (coded p) (check_of p ∷ []) (length p.user + 3) (coded-length p)

-- as it is written, the structure of a sound packet
pub structure-is : (sys : ℕ) (y : System) (p : Packet) → Sound y p
    → structure_of eight (map low) p.line (wrapping sys) p.flags (source_by eight p) ≡ structure sys (bare p)
unfolding structure coding
structure-is sys y p g =
    let n : samples p + 0 ≡ samples p = omega arith in
    rw (n, coded-source p, length-map (coded p) low, coded-length p, coded-low p (body_bytes y p g), append-nil p.user)

pub element-made : (sys : ℕ) (ps : List Packet) → element_of sys ps ≡ klv (two (length (map bare ps)) ++ joined (structure sys) (map bare ps))
unfolding element value
element-made sys ps = refl

pub structure-sized : (sys : ℕ) (p : Packet) → length (structure sys (bare p)) ≡ size_by eight (length p.user)
unfolding structure
structure-sized sys p = let k = length-append p.user [] in omega arith

pub word_none : (ws : List ℕ) (i : ℕ) → (word_in ws (refused 18 i) ≡ 0) × (word_in ws (refused 17 i) ≡ 0)
unfolding word_at
word_none ws i = (refl, refl)

-- ---- the writer

abbrev pub eights : Writer
eights = record {
  -- 8 bits of any word
  coding = eight;
  fits = λ (ws : List ℕ). Unit {0};
  array = map low;
  array_long = λ ws. length-map ws low;
  -- the sections of sound packets
  Of = SectionsOf;
  Fine = Sound;
  each = λ y ps ls ws h. h.sound;
  section_b = λ y ps ls ws h. h.section_b;
  section_c = λ y ps ls ws h. h.section_c;
  many = λ y p g. g.many;
  fitting = λ y p g. tt;
  -- their structures
  Item = Padded;
  item = bare;
  bytes = structure;
  sized = structure-sized;
  laid_as = structure-is;
  make = element_of;
  made = element-made;
  -- their sheet
  Sheet = SheetOf;
  few = λ sys ps s g. g.few;
  whole = λ sys ps s g. g.whole;
  sections = λ sys ps s ls ws b c g. sections-of b c g;
  unique = sheet-unique;
  -- "the lister's" tests
  tests = sheet_tests;
  read = sheet-read;
  laid = sheet-laid;
  refuses = sheet-refused;
  word = word_in;
  word_none = λ ws ps. refl;
  word-18 = λ ws i. (word_none ws i).0;
  word-17 = λ ws i. (word_none ws i).1;
}

-- The lister: what its tests give back meets the contract `Tests`, and a sheet is the same in memory and in a file.
--
-- In order: the contract (`tests`); the word of a refusal; the figures of its first line; files (`file-read`, `listing-read`, `listing-laid`).
-- Assumes nothing.
use Prim.Native.Nat.{ℕ, ◌+◌, ◌*◌, ◌/◌, ◌%◌, ◌≤◌}
use mathlib.Core.Path.{◌≡◌, refl, sym, ap, ap₂, ◌∙◌}
use mathlib.Core.Bool.{Bool, true, false, ◌&&◌}
use mathlib.Core.List.{List, [], ◌∷◌, map}
use native.Mathlib.Omega.{arith}
use lib.Dec.{eqb, leb}
use lib.ListN.{length}
use borrow.Author.Tests.{eqb-true, leb-true, eq-eqb, le-leb}
use Rattle.rules.specs.Base.{joined, sum}
use Rattle.rules.specs.Packet.{Packet, Sound}
use Rattle.rules.specs.Danc.{written, string, string_byte_count}
use Rattle.rules.specs.Sheet.{system_in, words_in}
use Rattle.rules.specs.Packing1.{packs, packs_of}
use Rattle.rules.specs.Numbers.{Outcome, listed, refused, unless}
use Rattle.rules.specs.Laying.{word_at, from_packet, word_in, packets_of_words, list_tests, sheet_tests}
use Rattle.rules.specs.Lister.{tested_of, tested_in, tested, file_of, numbers_of, listing}
use Rattle.rules.specs.Demands.{SheetOf, Tests}
use Rattle.rules.specs.declared.Tested.{Tested}
use Rattle.rules.proofs.Basics.{never, both, written_back}
use Rattle.rules.proofs.Strings.{string-room}
use Rattle.rules.proofs.Packs.{packs-length}
use Rattle.rules.proofs.Sheets.{sound-reader, system-back, sheet-read, sheet-laid, sheet-refused-by}

-- a refusal's number is not 0
pub sheet-refused : (s : List ℕ) (n i : ℕ) → sheet_tests s ≡ refused n i → 1 ≤ n
unfolding sheet_tests list_tests
sheet-refused s n i e = sheet-refused-by packets_of_words Sound sound-reader s n i e

-- the contract of the lister's tests follows from its first field
pub tests : (s : List ℕ) (r : Tested) → r ≡ tested s → Tests s r
unfolding tested
tests s r e =
    record {
      answer = e;
      passes = λ sys ps g.
          let y : system_in s ≡ sys = ap system_in g.whole ∙ system-back sys ps in
          e ∙ rw (y, sheet-read sys ps s g);
      only = λ n. only (sheet_tests s) refl (ap (λ (x : Tested). x.number) e) n;
    }
  where
    only : (o : Outcome) → sheet_tests s ≡ o → r.number ≡ (tested_of (system_in s) o).number → r.number ≡ 0
        → (sys : ℕ) × (ps : List Packet) × SheetOf sys ps s
    only (refused m i) q p n = let h = sheet-refused s m i q in absurd (omega arith)
    only (listed ps) q p n = (system_in s, ps, sheet-laid s ps q)

-- a refusal's word is the one that its number and place name
pub word-told : (s : List ℕ) (t : Tested) → Tests s t → (t.number ≡ 0 → ⊥) → t.word ≡ word_in (words_in s) (refused t.number t.place)
unfolding tested
word-told s t w n = go (sheet_tests s) w.answer
  where
    go : (o : Outcome) → t ≡ tested_in (system_in s) (words_in s) o
        → t.word ≡ word_in (words_in s) (refused t.number t.place)
    go (listed ps) e = absurd (n (ap (λ (x : Tested). x.number) e))
    go (refused m i) e =
        let number : t.number ≡ m = ap (λ (x : Tested). x.number) e in
        let place : t.place ≡ i = ap (λ (x : Tested). x.place) e in
        ap (λ (x : Tested). x.word) e ∙ sym (ap₂ (λ (n j : ℕ). word_at n (from_packet j (words_in s))) number place)

-- the bytes and packs that the first line counts are those that laying would lay
pub bytes_counted : (ps : List Packet) → string_byte_count ps ≡ length (string (map written ps))
bytes_counted ps = sym (string-room (map written ps) ∙ ap string_byte_count (written_back ps))

pub packs-laid-counted : (ps : List Packet) → sum (map packs_of ps) ≡ length (joined packs (map written ps))
packs-laid-counted ps = sym (packs-length (map written ps) ∙ ap (λ (qs : List Packet). sum (map packs_of qs)) (written_back ps))

-- ---- files

-- the numbers of a file are those that it was written from
pub file-read : (s : List ℕ) → numbers_of (file_of s) ≡ s
file-read [] = refl
file-read (n ∷ s) = ap₂ (λ (m : ℕ) (t : List ℕ). m ∷ t) (let e : n / 256 * 256 + n % 256 ≡ n = omega arith in e) (file-read s)

pub file-length : (s : List ℕ) → length (file_of s) ≡ 2 * length s
file-length [] = refl
file-length (n ∷ s) = let k = file-length s in omega arith

-- the file of a sheet is listed as the sheet is, where it has at most 65,536 bytes
pub listing-read : (s : List ℕ) → 2 * length s ≤ 65536 → listing (file_of s) ≡ sheet_tests s
unfolding listing
listing-read s h =
    let l = file-length s in
    rw (
      le-leb (length (file_of s)) 65536 (omega arith),
      eq-eqb (length (file_of s) % 2) 0 (omega arith),
      file-read s,
    )

-- what is listed is the file of a sheet that passes
pub listing-laid : (file : List ℕ) (ps : List Packet) → listing file ≡ listed ps
    → (length file ≤ 65536) × (length file % 2 ≡ 0) × SheetOf (system_in (numbers_of file)) ps (numbers_of file)
unfolding listing
listing-laid file ps e = go (leb (length file) 65536 && eqb (length file % 2) 0) refl e
  where
    go : (t : Bool) → (leb (length file) 65536 && eqb (length file % 2) 0) ≡ t → unless 2 t (sheet_tests (numbers_of file)) ≡ listed ps
        → (length file ≤ 65536) × (length file % 2 ≡ 0) × SheetOf (system_in (numbers_of file)) ps (numbers_of file)
    go false q e = never (cc)
    go true q e =
        let w = both (leb (length file) 65536) (eqb (length file % 2) 0) q in
        (leb-true (length file) 65536 w.0, eqb-true (length file % 2) 0 w.1, sheet-laid (numbers_of file) ps e)

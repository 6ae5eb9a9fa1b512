-- The numbers of a file and the bytes of a sheet, one by one, for the loops that move them; and what a file of each length shows.
--
-- In order: decoding; encoding; the file's length.
-- Assumes nothing.
use Prim.Native.Nat.{ℕ, zero, suc, ◌+◌, ◌*◌, ◌/◌, ◌%◌, ◌≤◌, ◌<◌}
use mathlib.Core.Path.{◌≡◌, refl, sym, ap, ap₂, ◌∙◌}
use mathlib.Core.Bool.{true, false}
use mathlib.Core.List.{List, [], ◌∷◌}
use native.Mathlib.Numerals.{add-one}
use native.Mathlib.Omega.{arith}
use lib.ListN.{length, get_or, take, set, length-set}
use lib.Seq.{take-suc, take_all, take-suc-set, length-take-le}
use borrow.Author.Tests.{leb-true, le-leb, lt-leb}
use Rattle.rules.specs.Lister.{file_of, numbers_of}
use Rattle.rules.proofs.Basics.{both}
use Rattle.rules.proofs.Lister.{file-length}
use Rattle.sheet_file.specs.Files.{is_whole, sheet_in, file_in}

-- ---- decoding

numbers-length : (s : List ℕ) → length (numbers_of s) ≡ length s / 2
numbers-length [] = refl
numbers-length (h ∷ []) = refl
numbers-length (h ∷ l ∷ s) = let k = numbers-length s in omega arith

-- a number is its high byte and its low byte
numbers-at : (s : List ℕ) (i : ℕ) → i < length s / 2 → get_or (numbers_of s) i 0 ≡ get_or s (2 * i) 0 * 256 + get_or s (2 * i + 1) 0
numbers-at [] i h = absurd (omega arith)
numbers-at (x ∷ []) i h = absurd (omega arith)
numbers-at (x ∷ l ∷ s) zero h = refl
numbers-at (x ∷ l ∷ s) (suc i) h =
    let e : 2 * suc i ≡ suc (suc (2 * i)) = omega arith in
    let f : 2 * suc i + 1 ≡ suc (suc (2 * i + 1)) = omega arith in
    numbers-at s i (omega arith) ∙ sym (ap₂ (λ (a b : ℕ). get_or (x ∷ l ∷ s) a 0 * 256 + get_or (x ∷ l ∷ s) b 0) e f)

-- one number more is decoded
pub numbers-turn : (file s : List ℕ) (i v : ℕ) → i < length file / 2 → i < length s → take i s ≡ take i (numbers_of file)
    → v ≡ get_or file (2 * i) 0 * 256 + get_or file (2 * i + 1) 0 → take (i + 1) (set s i v) ≡ take (i + 1) (numbers_of file)
numbers-turn file s i v h k e q =
    let l = numbers-length file in
    rw (add-one i, take-suc-set s i v k, take-suc (numbers_of file) i 0 (omega arith), e, q, numbers-at file i h)

-- and in the end all of them
pub numbers-end : (file s : List ℕ) (i : ℕ) → i ≡ length file / 2 → take i s ≡ take i (numbers_of file) → take (length file / 2) s ≡ numbers_of file
numbers-end file s i h e = let l = numbers-length file in ap (λ (n : ℕ). take n s) (sym h) ∙ e ∙ take_all i (numbers_of file) (omega arith)

-- ---- encoding

-- a number's high byte and its low byte
file-high : (s : List ℕ) (i : ℕ) → i < length s → get_or (file_of s) (2 * i) 0 ≡ get_or s i 0 / 256
file-high [] i h = absurd (omega arith)
file-high (n ∷ s) zero h = refl
file-high (n ∷ s) (suc i) h =
    let e : 2 * suc i ≡ suc (suc (2 * i)) = omega arith in
    ap (λ (a : ℕ). get_or (file_of (n ∷ s)) a 0) e ∙ file-high s i (omega arith)

file-low : (s : List ℕ) (i : ℕ) → i < length s → get_or (file_of s) (2 * i + 1) 0 ≡ get_or s i 0 % 256
file-low [] i h = absurd (omega arith)
file-low (n ∷ s) zero h = refl
file-low (n ∷ s) (suc i) h =
    let e : 2 * suc i + 1 ≡ suc (suc (2 * i + 1)) = omega arith in
    ap (λ (a : ℕ). get_or (file_of (n ∷ s)) a 0) e ∙ file-low s i (omega arith)

-- one number more is encoded
pub file-turn : (s file : List ℕ) (i : ℕ) → i < length s → 2 * length s ≤ length file → take (2 * i) file ≡ take (2 * i) (file_of s)
    → take (2 * (i + 1)) (set (set file (2 * i) (get_or s i 0 / 256)) (2 * i + 1) (get_or s i 0 % 256)) ≡ take (2 * (i + 1)) (file_of s)
file-turn s file i h k e =
    let l = file-length s in
    let m = length-set file (2 * i) (get_or s i 0 / 256) in
    let n : 2 * (i + 1) ≡ suc (2 * i + 1) = omega arith in
    let a : 2 * i + 1 ≡ suc (2 * i) = omega arith in
    let first : take (2 * i + 1) (set file (2 * i) (get_or s i 0 / 256)) ≡ take (2 * i + 1) (file_of s) =
    rw (a, take-suc-set file (2 * i) (get_or s i 0 / 256) (omega arith), take-suc (file_of s) (2 * i) 0 (omega arith), e, file-high s i h) in
    rw (
      n,
      take-suc-set (set file (2 * i) (get_or s i 0 / 256)) (2 * i + 1) (get_or s i 0 % 256) (omega arith),
      take-suc (file_of s) (2 * i + 1) 0 (omega arith),
      first,
      file-low s i h,
    )

-- and in the end all of them
pub file-end : (s file : List ℕ) (i : ℕ) → i ≡ length s → 2 * length s ≤ length file → take (2 * i) file ≡ take (2 * i) (file_of s)
    → (2 * length s ≡ length (file_in (length file) s)) × (take (2 * length s) file ≡ file_in (length file) s)
unfolding file_in
file-end s file i h k e =
    let l = file-length s in
    let t : take (2 * length s) file ≡ file_of s =
    ap (λ (n : ℕ). take (2 * n) file) (sym h) ∙ e ∙ take_all (2 * i) (file_of s) (omega arith) in
    rw (le-leb (2 * length s) (length file) k) (sym l, t)

pub file-none : (s file : List ℕ) → length file / 2 < length s → (0 ≡ length (file_in (length file) s)) × (take 0 file ≡ file_in (length file) s)
unfolding file_in
file-none s file h = rw (lt-leb (2 * length s) (length file) (omega arith)) (refl, refl)

-- ---- the file's length

module _ (file : List ℕ) where
  pub whole_length : is_whole file ≡ true → length file ≤ 65536
  unfolding is_whole
  whole_length h = leb-true _ _ (both _ _ h).0

  pub not-whole : is_whole file ≡ false → sheet_in file ≡ []
  unfolding sheet_in
  not-whole h = rw h

  pub whole : is_whole file ≡ true → (s : List ℕ) → take (length file / 2) s ≡ numbers_of file
      → (length file / 2 ≡ length (sheet_in file)) × (take (length file / 2) s ≡ sheet_in file)
  unfolding sheet_in
  whole h s q = rw h (sym (numbers-length file), q)

-- what was read, the first n numbers of s, has room in its buffer, which is as long as it was, and its file in that for the file
pub encoded : (n k room : ℕ) (before s file : List ℕ) → n ≤ length before → length s ≡ length before → 2 * length before ≤ room
    → (k ≡ length (file_in room (take n s))) × (take k file ≡ file_in room (take n s))
    → (take (2 * n) file ≡ file_of (take n s)) × (n ≤ length s)
unfolding file_in
encoded n k room before s file h z r e =
    let l = length-take-le n s (omega arith) in
    let f = file-length (take n s) in
    let w : file_in room (take n s) ≡ file_of (take n s) = rw (le-leb (2 * length (take n s)) room (omega arith)) in
    let m : k ≡ 2 * n = (e.0 ∙ ap length w) ∙ (let g = f in omega arith) in
    (ap (λ (x : ℕ). take x file) (sym m) ∙ e.1 ∙ w, omega arith)

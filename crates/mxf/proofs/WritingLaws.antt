-- Laws for the proofs of `writing`, one path of the code at a time: what is its own, beside the laws of every writer; and its contract.
--
-- In order: stores from the front; a structure; the head; the writer; the lister's tests; the contract.
-- Assumes nothing.
use Prim.Native.Nat.{ℕ, ◌+◌, ◌-◌, ◌/◌, ◌%◌, ◌≤◌, ◌<◌}
use mathlib.Core.Path.{◌≡◌, refl, sym, ap, ap₂, ◌∙◌}
use mathlib.Core.Bool.{Bool}
use mathlib.Core.List.{List, [], ◌∷◌, ◌++◌, append-nil}
use native.Mathlib.Omega.{arith}
use native.Mathlib.Numerals.{add-one}
use lib.ListN.{length, get_or, take, drop, set, drop_of_length-le, take-append-drop}
use lib.Seq.{sets, sets-eq, length-sets, drop-cons, drop-drop}
use Rattle.rules.specs.Sheet.{system_in, words_in}
use Rattle.rules.specs.Numbers.{Outcome, listed, refused}
use Rattle.rules.specs.Laying.{word_at, from_packet, sheet_tests}
use Rattle.std.specs.Prelude.{Ok, Err}
use Rattle.packet.specs.Tests.{told_by}
use Rattle.sheet.specs.Telling.{header_of}
use Rattle.sheet.specs.declared.Header.{Header}
use Rattle.rules.specs.Refusals.{Told, tell}
use Rattle.rules.proofs.Basics.{never, sets-front, sets_behind}
use Rattle.rules.proofs.Sheets.{Sixteen}
use Rattle.mxf.specs.Element.{two, three, four, key}
use Rattle.mxf.specs.Eights.{eights}
use Rattle.mxf.specs.Writer.{tested_by, Answered}
use Rattle.mxf.specs.Writing.{writing, write, element_after}
use Rattle.mxf.specs.Demands.{Writes}
use Rattle.mxf.specs.declared.ElementWritten.{ElementWritten}
use Rattle.mxf.proofs.Exporting.{comes_back_lem}
use Rattle.mxf.proofs.Writers.{unwritten, sent-written, sent-only, sent_back}

-- ---- stores from the front

-- a run over the whole of a list
pub over-all : (vs s : List ℕ) → length s ≡ length vs → sets s 0 vs ≡ vs
over-all vs s l =
    let z : 0 + length vs ≡ length vs = omega arith in
    let h : length s ≤ 0 + length vs = omega arith in
    sets-eq vs s 0 (omega arith)
    ∙ ap (λ (t : List ℕ). vs ++ t) (drop_of_length-le s h)
    ∙ append-nil vs

-- the key byte by byte
pub key-turn : (s goal : List ℕ) (i : ℕ) → i < 16 → sets s i (drop i key) ≡ goal → sets (set s i (get_or key i 0)) (i + 1) (drop (i + 1) key) ≡ goal
unfolding key
key-turn s goal i h was = rw (add-one i) (rw (drop-cons key i 0 h) at was)

pub key-end : (s goal : List ℕ) (i : ℕ) → 16 ≤ i → sets s i (drop i key) ≡ goal → s ≡ goal
unfolding key
key-end s goal i h was = rw (drop_of_length-le key h) at was

-- the first i bytes of l are stored, and behind them stands what stood there
record Front (l₀ l : List ℕ) (i : ℕ) (front : List ℕ) : Type 0 where
  long : length l ≡ length l₀
  stored : take i l ≡ front
  behind : drop i l ≡ drop i l₀

front-none : (l : List ℕ) → Front l l 0 []
front-none l = record { long = refl; stored = refl; behind = refl }

front-run : {l₀ l after front : List ℕ} {i j : ℕ} (vs : List ℕ) → Front l₀ l i front → i + length vs ≡ j → j ≤ length l₀ → after ≡ sets l i vs
    → Front l₀ after j (front ++ vs)
front-run {l₀} {l} {after} {front} {i} {j} vs f e h is =
    let g = f.long in
    record {
      long = ap length is ∙ length-sets l i vs ∙ f.long;
      stored =
          ap₂ (λ (n : ℕ) (t : List ℕ). take n t) (sym e) is
          ∙ sets-front l i vs (omega arith)
          ∙ ap (λ (t : List ℕ). t ++ vs) f.stored;
      behind =
          ap₂ (λ (n : ℕ) (t : List ℕ). drop n t) (sym e) is
          ∙ sets_behind l i vs (i + length vs) (omega arith)
          ∙ sym (drop-drop (length vs) i l)
          ∙ ap (drop (length vs)) f.behind
          ∙ drop-drop (length vs) i l₀
          ∙ ap (λ (n : ℕ). drop n l₀) e;
    }

-- ---- a structure

-- the high half of a small number is 0
four-halves : (n : ℕ) → n < 65536 → two 0 ++ two n ≡ four n
four-halves n h =
    let a : 0 ≡ n / 16777216 = omega arith in
    let b : 0 ≡ n / 65536 % 256 = omega arith in
    let c : n / 256 ≡ n / 256 % 256 = omega arith in
    λ i. a i ∷ b i ∷ c i ∷ n % 256 ∷ []

-- its fields before the array's bytes, with the array's count and element length in halves
pub fields-put : (line w c n m : ℕ) (out : List ℕ) {o1 o2 o3 o4 o5 o6 : List ℕ} → m < 65536 → o1 ≡ sets out 0 (two line)
    → o2 ≡ sets (set (set o1 2 w) 3 c) 4 (two n) → o3 ≡ sets o2 6 (two 0) → o4 ≡ sets o3 8 (two m) → o5 ≡ sets o4 10 (two 0)
    → o6 ≡ sets o5 12 (two 1) → o6 ≡ sets out 0 (two line ++ w ∷ c ∷ two n ++ four m ++ four 1)
fields-put line w c n m out h e1 e2 e3 e4 e5 e6 =
    let f2 = e2 ∙ ap (λ (t : List ℕ). sets (set (set t 2 w) 3 c) 4 (two n)) e1 in
    let f3 = e3 ∙ ap (λ (t : List ℕ). sets t 6 (two 0)) f2 in
    let f4 = e4 ∙ ap (λ (t : List ℕ). sets t 8 (two m)) f3 in
    let f5 = e5 ∙ ap (λ (t : List ℕ). sets t 10 (two 0)) f4 in
    e6
    ∙ ap (λ (t : List ℕ). sets t 12 (two 1)) f5
    ∙ ap (λ (t : List ℕ). sets out 0 (two line ++ w ∷ c ∷ two n ++ t ++ four 1)) (four-halves m h)

-- ---- the head

-- the length in three bytes, of which the low two are stored as one number
three_halves : (n : ℕ) → n < 16777216 → n / 65536 ∷ two (n % 65536) ≡ three n
three_halves n h =
    let a : n % 65536 / 256 ≡ n / 256 % 256 = omega arith in
    let b : n % 65536 % 256 ≡ n % 256 = omega arith in
    λ i. n / 65536 ∷ a i ∷ b i ∷ []

pub head-put : (packets v : ℕ) (out : List ℕ) {o1 o2 o3 : List ℕ} → 22 ≤ length out → length out < 16777216 → v ≡ length out - 20
    → o1 ≡ sets out 0 key
    → o2 ≡ sets (set (set o1 16 0x83) 17 (v / 65536)) 18 (two (v % 65536)) → o3 ≡ sets o2 20 (two packets) → (n : ℕ) → length out ≡ 20 + n
    → o3 ≡ (key ++ 0x83 ∷ three n ++ two packets) ++ drop 22 out
unfolding key
head-put packets v out {o1} {o2} {o3} room short ev e1 e2 e3 n long =
    let f1 = front-run key (front-none out) refl (omega arith) e1 in
    let f2 = front-run (0x83 ∷ v / 65536 ∷ two (v % 65536)) f1 refl (omega arith) e2 in
    let f3 = front-run (two packets) f2 refl room e3 in
    let e : v / 65536 ∷ two (v % 65536) ≡ three n = three_halves v (omega arith) ∙ ap three (let m : v ≡ n = omega arith in m) in
    sym (take-append-drop 22 o3)
    ∙ ap₂ (λ (a b : List ℕ). a ++ b) f3.stored f3.behind
    ∙ ap (λ (t : List ℕ). (key ++ 0x83 ∷ t ++ two packets) ++ drop 22 out) e

-- ---- the lister's tests

-- of their header the system is asked for, and a refusal is told as it is
module _ (s : List ℕ) where
  pub system-refused : (t : Told) → Err t ≡ told_by word_at (header_of (system_in s)) (words_in s) (sheet_tests s)
      → Err t ≡ tested_by eights s (sheet_tests s)
  system-refused t e = go (sheet_tests s) e
    where
      go : (o : Outcome) → Err t ≡ told_by word_at (header_of (system_in s)) (words_in s) o → Err t ≡ tested_by eights s o
      go (listed ps) e = never (cc)
      go (refused n i) e = let q : t ≡ tell n i (word_at n (from_packet i (words_in s))) = cc in ap Err q

  pub system-listed : (h : Header) → Ok h ≡ told_by word_at (header_of (system_in s)) (words_in s) (sheet_tests s)
      → Ok h.system ≡ tested_by eights s (sheet_tests s)
  system-listed h e = go (sheet_tests s) e
    where
      go : (o : Outcome) → Ok h ≡ told_by word_at (header_of (system_in s)) (words_in s) o → Ok h.system ≡ tested_by eights s o
      go (listed ps) e = let q : h ≡ header_of (system_in s) ps = cc in ap (λ (x : Header). Ok x.system) q
      go (refused n i) e = never (cc)

-- ---- the contract

-- the contract of writing follows from its first two fields, over a sheet of sixteen-bit numbers
pub writes : (fi : Bool) (s target : List ℕ) (r : ElementWritten) (after : List ℕ) → Sixteen s → Answered eights fi s target r after
    → Writes fi s target r after
unfolding write element_after writing
writes fi s target r after hs e =
    record {
      answer = e.0;
      buffer = e.1;
      demand1 = unwritten eights fi s target r after e.0 e.1;
      exports =
          record {
            written = λ sys ps x.
                sent-written eights fi s target r after e.0 e.1 sys ps
                (record { sheet = x.sheet; lined = x.lined; room = x.room });
            only = λ n.
                let x = sent-only eights fi s target r after e.0 e.1 n in
                (x.0, x.1, record { sheet = x.2.sheet; lined = x.2.lined; room = x.2.room });
          };
      comes_back =
          record {
            back = λ sys ps sheet g n h.
                let x = sent_back eights fi s target r after e.0 e.1 sys ps g n in
                comes_back_lem fi s hs sys ps g x.0 (take r.bytes after) sheet x.1 h;
          };
    }

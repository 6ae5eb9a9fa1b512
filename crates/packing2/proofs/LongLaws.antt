-- Long packs as the code lays and counts them.
--
-- In order: stores; one pack; packs that follow each other; rows; the count.
-- Assumes nothing.
use Prim.Native.Nat.{ℕ, zero, suc, ◌+◌, ◌-◌, ◌*◌, ◌/◌, ◌%◌, ◌≤◌, ◌<◌}
use mathlib.Core.Path.{◌≡◌, refl, sym, ap, ap₂, ◌∙◌}
use mathlib.Core.Bool.{Bool, true, false, cond, ◌&&◌}
use mathlib.Core.List.{List, [], ◌∷◌, ◌++◌, append_assoc, append-nil, map-append}
use native.Mathlib.Nat.{zero-add, add-zero}
use native.Mathlib.Omega.{arith}
use Rattle.std.proofs.Common.{Some, None}
use lib.Dec.{eqb, ltb, leb}
use lib.ListN.{length, take, drop, set, replicate, length-take, length-drop, length-replicate, take-append-drop, drop_of_length-le}
use lib.Seq.{sets, sets-eq, drop-drop, drop-nil, drop_at, drop-append-le}
use lib.Seq.{length-take-le}
use borrow.Author.Tests.{eqb-true, eqb-false, leb-true, leb-false, ltb-true, ltb-false, lt-ltb, le-leb, lt-leb, eq-eqb, ne_eqb}
use Rattle.rules.specs.Base.{sum, none, one}
use Rattle.rules.specs.Systems.{System, known, system}
use Rattle.rules.specs.Blocks.{Run, block_start, shift, width, runs, sizes, block_sizes, area_size, into, scatter}
use Rattle.rules.specs.Packing2.{fill, filled, end_bit, long_packs, string_room, long_count}
use Rattle.rules.proofs.Basics.{all_append, second-false}
use Rattle.rules.proofs.Blocks.{each-system, scatter-front}
use Rattle.rules.proofs.Long.{Roomy, long-none, long-length}
use Rattle.packing2.specs.Long.{Padded, laid_in, long_fits, long_after, CountOf, rows_of, rows_found, four, row_sizes, rows_sizes}
use Rattle.packing2.specs.Long.{block_at, four_runs, row_runs, rows_runs, PackAt, Packed, LaidAt}

-- ---- stores

-- a part of a list with others in its place has them stored there
pub part-stored : (us xs ys : List ℕ) (to d : ℕ) → xs ≡ ys → length ys ≡ d → to + d ≤ length us
    → take to us ++ (xs ++ drop d (drop to us)) ≡ sets us to ys
part-stored us xs ys to d e l h =
    rw (e, drop-drop d to us, ← l) (sym (sets-eq ys us to (omega arith) ∙ append_assoc (take to us) ys (drop (to + length ys) us)))

-- ---- one pack

-- fill is cut to fill
take-fill : (n k : ℕ) → n ≤ k → take n (fill k) ≡ fill n
take-fill zero k h = refl
take-fill (suc n) zero h = absurd (omega arith)
take-fill (suc n) (suc k) h = ap (λ (t : List ℕ). 0xFF ∷ t) (take-fill n k (omega arith))

-- a string with enough fill behind it, cut, is the string, cut and filled
take-filled : (n : ℕ) (s : List ℕ) (k : ℕ) → n ≤ length s + k → take n (s ++ fill k) ≡ filled n (take n s)
take-filled zero s k h = refl
take-filled (suc n) [] k h = let e : suc n - 0 ≡ suc n = omega arith in rw e (take-fill (suc n) k (omega arith))
take-filled (suc n) (x ∷ s) k h =
    let e : suc n - suc (length (take n s)) ≡ n - length (take n s) = omega arith in
    rw e (ap (λ (t : List ℕ). x ∷ t) (take-filled n s k (omega arith)))

-- the pack of a string that has a byte
pack-of : (n : ℕ) (s : List ℕ) → 0 < length s
    → long_packs (n ∷ []) [] s ≡ 0xE3 ∷ (254 + end_bit (n - 3) s) ∷ 0xFF ∷ filled (n - 3) (take (n - 3) s)
pack-of n [] h = absurd (omega arith)
pack-of n (x ∷ s) h = append-nil _

-- a padded buffer from a place before the string's end on: the string's rest, and fill
rest-padded : (s : List ℕ) (at len : ℕ) → at ≤ len → len ≤ length s → Padded len s
    → drop at s ≡ drop at (take len s) ++ fill (9000 - len)
rest-padded s at len h k p =
    let l : length (take len s) ≡ len = length-take-le len s k in
    let g : at ≤ length (take len s) = omega arith in
    ap (drop at) (sym (take-append-drop len s) ∙ ap (λ (t : List ℕ). take len s ++ t) p) ∙ drop-append-le at (take len s) (fill (9000 - len)) g

-- a padded buffer has 9,000 bytes
padded-length : (s : List ℕ) (len : ℕ) → len < 9000 → Padded len s → length s ≡ 9000
padded-length s len h p =
    let e : length s - len ≡ 9000 - len = sym (length-drop len s) ∙ ap length p ∙ length-replicate (9000 - len) 0xFF in
    omega arith

-- the string's rest is within a pack exactly where the string's end is within the pack's
leb-rest : (len at room m : ℕ) → m ≡ len - at → at < len → leb m room ≡ leb len (at + room)
leb-rest len at room m e h = go (leb len (at + room)) refl
  where
    go : (t : Bool) → leb len (at + room) ≡ t → leb m room ≡ t
    go true q = let z = leb-true len (at + room) q in le-leb m room (omega arith)
    go false q = let z = leb-false len (at + room) q in lt-leb m room (omega arith)

-- behind the string's end nothing is left of it
rest-none : (s : List ℕ) (at len : ℕ) → len ≤ at → drop at (take len s) ≡ []
rest-none s at len h =
    let l : length (take len s) ≤ at = simp length-take (omega arith) in
    drop_of_length-le (take len s) l

-- and blocks have fill
pub packs-none : (ns s : List ℕ) (at len : ℕ) → len ≤ at → long_packs ns [] (drop at (take len s)) ≡ fill (sum ns)
packs-none ns s at len h = rw (rest-none s at len h) (long-none ns [])

-- before it, a pack has the buffer's bytes
pack-some : (n : ℕ) (s : List ℕ) (at len : ℕ) → len < 9000 → Padded len s → at < len → at + (n - 3) ≤ 9000
    → long_packs (n ∷ []) [] (drop at (take len s)) ≡ 0xE3 ∷ (254 + cond (leb len (at + (n - 3))) 0 1) ∷ 0xFF ∷ take (n - 3) (drop at s)
pack-some n s at len hl p h k =
    let ls : length s ≡ 9000 = padded-length s len hl p in
    let lt : length (take len s) ≡ len = length-take-le len s (omega arith) in
    let ld : length (drop at (take len s)) ≡ len - at = length-drop at (take len s) ∙ ap (λ (m : ℕ). m - at) lt in
    let f : take (n - 3) (drop at s) ≡ filled (n - 3) (take (n - 3) (drop at (take len s))) =
    ap (take (n - 3)) (rest-padded s at len (omega arith) (omega arith) p) ∙ take-filled (n - 3) (drop at (take len s)) (9000 - len) (omega arith) in
    pack-of n (drop at (take len s)) (omega arith)
    ∙ ap₂ (λ (e : Bool) (t : List ℕ). 0xE3 ∷ (254 + cond e 0 1) ∷ 0xFF ∷ t) (leb-rest len at (n - 3) (length (drop at (take len s))) ld h) (sym f)

-- so an array of fill is the pack, with its three bytes and then these stored
pub pack-stored : (n e : ℕ) (s xs : List ℕ) (len at d : ℕ) → 3 ≤ n → at < len → len < 9000 → at + (n - 3) ≤ 9000
    → e ≡ 254 + cond (leb len (at + (n - 3))) 0 1 → xs ≡ take (n - 3) (drop at s) → d ≡ n - 3
    → PackAt n s len at
    (take 3 (set (set (set (replicate n 0xFF) 0 0xE3) 1 e) 2 0xFF) ++ (xs ++ drop d (drop 3 (set (set (set (replicate n 0xFF) 0 0xE3) 1 e) 2 0xFF))))
pack-stored (suc (suc (suc k))) e s xs len at d h g l m f q z =
    let v : length (replicate {A = ℕ} k 0xFF) ≤ d = let w : length (replicate {A = ℕ} k 0xFF) ≡ k = length-replicate k 0xFF in omega arith in
    record {
      is = λ p. rw (drop_of_length-le (replicate k 0xFF) v, append-nil xs, f, q) (sym (pack-some (suc (suc (suc k))) s at len l p g m));
    }
pack-stored (suc (suc zero)) e s xs len at d h g l m f q z = absurd (omega arith)
pack-stored (suc zero) e s xs len at d h g l m f q z = absurd (omega arith)
pack-stored zero e s xs len at d h g l m f q z = absurd (omega arith)

-- behind the string's end it is fill
pub pack-filled : (n : ℕ) (s : List ℕ) (len at : ℕ) → len ≤ at → PackAt n s len at (fill n)
pack-filled n s len at h = record { is = λ _. sym (packs-none (n ∷ []) s at len h ∙ ap fill (add-zero n)) }

-- ---- packs that follow each other

-- the packs of more blocks are those of the first, and those of the others with the string's rest
pub packs-split : (ms ns s : List ℕ) → long_packs (ms ++ ns) [] s ≡ long_packs ms [] s ++ long_packs ns [] (drop (string_room ms) s)
packs-split [] ns s = refl
packs-split (n ∷ ms) ns [] =
    rw (packs-split ms ns [], drop-nil (string_room ms), drop-nil (n - 3 + string_room ms))
    (sym (append_assoc (fill n) (long_packs ms [] []) (long_packs ns [] [])))
packs-split (n ∷ ms) ns (x ∷ s) =
    rw (packs-split ms ns (drop (n - 3) (x ∷ s)), drop-drop (string_room ms) (n - 3) (x ∷ s))
    (sym (append_assoc
    (0xE3 ∷ (254 + end_bit (n - 3) (x ∷ s)) ∷ 0xFF ∷ filled (n - 3) (take (n - 3) (x ∷ s)))
    (long_packs ms [] (drop (n - 3) (x ∷ s)))
    (long_packs ns [] (drop (n - 3 + string_room ms) (x ∷ s)))))

-- bytes in runs, and then in others
scatter-append : (ms ns : List Run) (us area : List ℕ)
    → scatter (ms ++ ns) us area ≡ scatter ns (drop (sum (sizes ms)) us) (scatter ms us area)
scatter-append [] ns us area = refl
scatter-append (m ∷ ms) ns us area =
    scatter-append ms ns (drop m.size us) (into area m.start m.size us)
    ∙ rw (drop-drop (sum (sizes ms)) m.size us)

-- runs laid, and then others with the string's rest
laid_then : {ms ns : List Run} {t u area mid after : List ℕ} → Roomy (sizes ms) → u ≡ drop (string_room (sizes ms)) t
    → Packed ms t area mid → Packed ns u mid after → Packed (ms ++ ns) t area after
laid_then {ms} {ns} {t} {u} {area} {mid} {after} r e v w =
    let xs : List ℕ = long_packs (sizes ms) [] t in
    let ys : List ℕ = long_packs (sizes ns) [] (drop (string_room (sizes ms)) t) in
    let l : length xs ≡ sum (sizes ms) = long-length (sizes ms) [] t r in
    let q : long_packs (sizes (ms ++ ns)) [] t ≡ xs ++ ys =
    ap (λ (ks : List ℕ). long_packs ks [] t) (map-append (λ (m : Run). m.size) ms ns) ∙ packs-split (sizes ms) (sizes ns) t in
    record {
      is =
          w.is
          ∙ ap₂ (laid_in ns) e v.is
          ∙ ap₂ (scatter ns) (sym (drop_at xs ys (sum (sizes ms)) l)) (sym (scatter-front ms xs ys area l))
          ∙ sym (scatter-append ms ns (xs ++ ys) area)
          ∙ ap (λ (us : List ℕ). scatter (ms ++ ns) us area) (sym q);
    }

-- one block with its pack
pub block-laid : (n : ℕ) {to : ℕ} {t area after : List ℕ} (p : List ℕ) → p ≡ long_packs (n ∷ []) [] t → after ≡ into area to n p
    → Packed (block_at n to ∷ []) t area after
block-laid n {to} {t} {area} p q e = record { is = e ∙ ap (into area to n) q }

-- and then others
block-then : {n to : ℕ} → 3 < n → {ns : List Run} {t u area mid after : List ℕ} → u ≡ drop (n - 3) t
    → Packed (block_at n to ∷ []) t area mid → Packed ns u mid after → Packed (block_at n to ∷ ns) t area after
block-then {n} h {t = t} e v w =
    let k : n - 3 ≡ n - 3 + 0 = omega arith in
    laid_then (one h none) (e ∙ ap (λ (m : ℕ). drop m t) k) v w

-- the blocks of four channels
pub four-laid : (n step : ℕ) → 3 < n → {to : ℕ} {t₁ t₂ t₃ t₄ a₀ a₁ a₂ a₃ a₄ : List ℕ}
    → t₂ ≡ drop (n - 3) t₁ → t₃ ≡ drop (n - 3) t₂ → t₄ ≡ drop (n - 3) t₃
    → Packed (block_at n to ∷ []) t₁ a₀ a₁ → Packed (block_at n (to + step) ∷ []) t₂ a₁ a₂
    → Packed (block_at n (to + 2 * step) ∷ []) t₃ a₂ a₃ → Packed (block_at n (to + 3 * step) ∷ []) t₄ a₃ a₄
    → Packed (four_runs n to step) t₁ a₀ a₄
unfolding four_runs
four-laid n step h d₂ d₃ d₄ e₁ e₂ e₃ e₄ = block-then h d₂ e₁ (block-then h d₃ e₂ (block-then h d₄ e₃ e₄))

-- each of so many equal blocks has room
roomy-even : (n : ℕ) → 3 < n → (k : ℕ) → Roomy (replicate k n)
roomy-even n h zero = none
roomy-even n h (suc k) = one h (roomy-even n h k)

-- the blocks of a row
pub row_laid : (to step : ℕ) {t₁ t₂ t₃ t₄ t₅ t₆ a₀ a₁ a₂ a₃ a₄ a₅ a₆ : List ℕ}
    → t₂ ≡ drop 288 t₁ → t₃ ≡ drop 288 t₂ → t₄ ≡ drop 168 t₃ → t₅ ≡ drop 168 t₄ → t₆ ≡ drop 288 t₅
    → Packed (four_runs 75 (to + 3) step) t₁ a₀ a₁ → Packed (four_runs 75 (to + 83) step) t₂ a₁ a₂
    → Packed (four_runs 45 (to + 163) step) t₃ a₂ a₃ → Packed (four_runs 45 (to + 273) step) t₄ a₃ a₄
    → Packed (four_runs 75 (to + 323) step) t₅ a₄ a₅ → Packed (four_runs 75 (to + 403) step) t₆ a₅ a₆
    → Packed (row_runs step to) t₁ a₀ a₆
unfolding four_runs row_runs
row_laid to step d₂ d₃ d₄ d₅ d₆ e₁ e₂ e₃ e₄ e₅ e₆ =
    let r : Roomy (four 75) = roomy-even 75 (omega arith) 4 in
    let q : Roomy (four 45) = roomy-even 45 (omega arith) 4 in
    laid_then r d₂ e₁ (laid_then r d₃ e₂ (laid_then q d₄ e₃ (laid_then q d₅ e₄ (laid_then r d₆ e₅ e₆))))

-- what is left of a string further on
rest-on : (s : List ℕ) (len at b n : ℕ) → b ≡ at + n → drop b (take len s) ≡ drop n (drop at (take len s))
rest-on s len at b n e = ap (λ (k : ℕ). drop k (take len s)) e ∙ sym (drop-drop n at (take len s))

-- the same for a string in a padded buffer: one block
pub block-at : {n to : ℕ} {s : List ℕ} {len at : ℕ} {p area after : List ℕ} → PackAt n s len at p → after ≡ into area to n p
    → LaidAt (block_at n to ∷ []) s len at area after
block-at {n} {p = p} q e = record { is = λ d. block-laid n p (q.is d) e }

-- blocks behind the string's end
pub fill-at : {rs : List Run} {area after : List ℕ} (s : List ℕ) (len at : ℕ) → len ≤ at → Packed rs [] area after → LaidAt rs s len at area after
fill-at s len at h v = record { is = λ _. rw (rest-none s at len h) v }

-- the blocks of four channels
pub four-at : (n step : ℕ) → 3 < n → {to : ℕ} {s : List ℕ} {len at b c d : ℕ} {a₀ a₁ a₂ a₃ a₄ : List ℕ}
    → LaidAt (block_at n to ∷ []) s len at a₀ a₁ → LaidAt (block_at n (to + step) ∷ []) s len b a₁ a₂
    → LaidAt (block_at n (to + 2 * step) ∷ []) s len c a₂ a₃ → LaidAt (block_at n (to + 3 * step) ∷ []) s len d a₃ a₄
    → b ≡ at + (n - 3) → c ≡ b + (n - 3) → d ≡ c + (n - 3) → LaidAt (four_runs n to step) s len at a₀ a₄
four-at n step h {s = s} {len} {at} {b} {c} {d} e₁ e₂ e₃ e₄ eb ec ed =
    record {
      is =
          λ p.
          four-laid n step h (rest-on s len at b (n - 3) eb) (rest-on s len b c (n - 3) ec) (rest-on s len c d (n - 3) ed)
          (e₁.is p) (e₂.is p) (e₃.is p) (e₄.is p);
    }

-- the blocks of a row
pub row_at : (to step : ℕ) {s : List ℕ} {len at : ℕ} {a₀ a₁ a₂ a₃ a₄ a₅ a₆ : List ℕ}
    → LaidAt (four_runs 75 (to + 3) step) s len at a₀ a₁ → LaidAt (four_runs 75 (to + 83) step) s len (at + 288) a₁ a₂
    → LaidAt (four_runs 45 (to + 163) step) s len (at + 576) a₂ a₃ → LaidAt (four_runs 45 (to + 273) step) s len (at + 744) a₃ a₄
    → LaidAt (four_runs 75 (to + 323) step) s len (at + 912) a₄ a₅ → LaidAt (four_runs 75 (to + 403) step) s len (at + 1200) a₅ a₆
    → LaidAt (row_runs step to) s len at a₀ a₆
row_at to step {s} {len} {at} e₁ e₂ e₃ e₄ e₅ e₆ =
    record {
      is =
          λ p.
          row_laid to step (rest-on s len at (at + 288) 288 refl) (rest-on s len (at + 288) (at + 576) 288 (omega arith))
          (rest-on s len (at + 576) (at + 744) 168 (omega arith)) (rest-on s len (at + 744) (at + 912) 168 (omega arith))
          (rest-on s len (at + 912) (at + 1200) 288 (omega arith))
          (e₁.is p) (e₂.is p) (e₃.is p) (e₄.is p) (e₅.is p) (e₆.is p);
    }

-- ---- rows

-- each block of a row has room
roomy-first : Roomy (replicate 8 75 ++ replicate 8 45)
roomy-first = all_append _ (replicate 8 75) (replicate 8 45) (roomy-even 75 (omega arith) 8) (roomy-even 45 (omega arith) 8)

pub roomy-row : Roomy row_sizes
roomy-row = all_append _ (replicate 8 75 ++ replicate 8 45) (replicate 8 75) roomy-first (roomy-even 75 (omega arith) 8)

-- what so many rows hold
pub sum_rows : (k : ℕ) → sum (rows_sizes k) ≡ 1560 * k
sum_rows zero = refl
sum_rows (suc k) = let e = sum_rows k in omega arith

pub room-rows : (k : ℕ) → string_room (rows_sizes k) ≡ 1488 * k
room-rows zero = refl
room-rows (suc k) = let e = room-rows k in omega arith

-- a row laid, and then those behind it
pub row_then : (left step to : ℕ) {s : List ℕ} {len at : ℕ} {area mid whole : List ℕ} → LaidAt (row_runs step to) s len at area mid
    → LaidAt (rows_runs step (to + 480) left) s len (at + 1488) mid whole → LaidAt (rows_runs step to (suc left)) s len at area whole
unfolding four_runs row_runs
row_then left step to {s} {len} {at} v w = record { is = λ p. laid_then roomy-row (rest-on s len at (at + 1488) 1488 refl) (v.is p) (w.is p) }

-- so a turn of the loop over rows is one more of them
pub rows-turn : (rows r : ℕ) {s : List ℕ} {len : ℕ} {area mid whole : List ℕ} → r < rows
    → LaidAt (row_runs (480 * rows) (480 * r)) s len (1488 * r) area mid
    → LaidAt (rows_runs (480 * rows) (480 * (r + 1)) (rows - (r + 1))) s len (1488 * (r + 1)) mid whole
    → LaidAt (rows_runs (480 * rows) (480 * r) (rows - r)) s len (1488 * r) area whole
rows-turn rows r {s} {len} {mid = mid} {whole} h v w =
    let n : rows - r ≡ suc (rows - (r + 1)) = omega arith in
    let a : 480 * (r + 1) ≡ 480 * r + 480 = omega arith in
    let b : 1488 * (r + 1) ≡ 1488 * r + 1488 = omega arith in
    rw n (row_then (rows - (r + 1)) (480 * rows) (480 * r) v (rw (a, b) at w))

-- the blocks of a system are those of its rows
pub sizes-rows : (sys : ℕ) → block_sizes (system sys) ≡ rows_sizes (rows_of sys)
unfolding rows_of runs shift width
sizes-rows sys = each-system (λ (y : System) (k : Bool). block_sizes y ≡ rows_sizes (y.sequences / 2)) refl refl refl refl sys

-- and so is where they lie
runs-rows : (sys : ℕ) → runs (system sys) ≡ rows_runs (480 * rows_of sys) 0 (rows_of sys)
unfolding rows_of runs block_start shift width four_runs row_runs
runs-rows sys = each-system (λ (y : System) (k : Bool). runs y ≡ rows_runs (480 * (y.sequences / 2)) 0 (y.sequences / 2)) refl refl refl refl sys

-- and how long its area is
area-rows : (sys : ℕ) → area_size (system sys) ≡ 1920 * rows_of sys
unfolding rows_of
area-rows sys = each-system (λ (y : System) (k : Bool). area_size y ≡ 1920 * (y.sequences / 2)) refl refl refl refl sys

-- a system is known exactly where it has rows
known-rows : (sys : ℕ) → known sys ≡ ltb 0 (rows_of sys)
unfolding rows_of
known-rows sys = each-system (λ (y : System) (k : Bool). k ≡ ltb 0 (y.sequences / 2)) refl refl refl refl sys

-- the rows of a system are found exactly where it is known
pub record Found (sys rows : ℕ) : Type 0 where
  pub is_known : known sys ≡ true
  pub is : rows ≡ rows_of sys
  pub some : 0 < rows
  pub most : rows ≤ 6

some-rows : (k : Bool) (n r : ℕ) → Some r ≡ cond k (Some n) None → (k ≡ true) × (r ≡ n)
some-rows true n r e = (refl, cc)
some-rows false n r e = absurd (cc)

none-rows : (k : Bool) (n : ℕ) → None ≡ cond k (Some n) None → k ≡ false
none-rows true n e = absurd (cc)
none-rows false n e = refl

most-rows : (sys : ℕ) → rows_of sys ≤ 6
unfolding rows_of
most-rows sys = each-system (λ (y : System) (k : Bool). y.sequences / 2 ≤ 6) (omega arith) (omega arith) (omega arith) (omega arith) sys

pub found_rows : (sys rows : ℕ) → Some rows ≡ rows_found sys → Found sys rows
unfolding rows_found
found_rows sys rows e =
    let p = some-rows (known sys) (rows_of sys) rows e in
    let z = ltb-true 0 (rows_of sys) (sym (known-rows sys) ∙ p.0) in
    let m = most-rows sys in
    record { is_known = p.0; is = p.1; some = omega arith; most = omega arith }

pub found_none : (sys : ℕ) → None ≡ rows_found sys → known sys ≡ false
unfolding rows_found
found_none sys e = none-rows (known sys) (rows_of sys) e

pub rows-none : (sys : ℕ) → known sys ≡ false → rows_of sys ≡ 0
rows-none sys k = let z = ltb-false 0 (rows_of sys) (sym (known-rows sys) ∙ k) in omega arith

-- no number but 1 to 3 has rows
pub none_found : (sys : ℕ) → (sys ≡ 1 → ⊥) → (sys ≡ 2 → ⊥) → (sys ≡ 3 → ⊥) → None ≡ rows_found sys
unfolding rows_found known
none_found sys a b c = rw (ne_eqb sys 1 a, ne_eqb sys 2 b, ne_eqb sys 3 c) refl

-- where a string does not fit, the area stays
pub after_kept : (sys len : ℕ) (s area : List ℕ) → long_fits sys len area ≡ false → area ≡ long_after sys len s area
unfolding long_after
after_kept sys len s area f = rw f

-- nothing fits a system that is not known
pub fits-none : (sys len : ℕ) (area : List ℕ) → known sys ≡ false → long_fits sys len area ≡ false
unfolding long_fits
fits-none sys len area k = rw k

module _ (sys len rows : ℕ) (area : List ℕ) (e : rows ≡ rows_of sys) where
  -- whether a string fits, by rows
  fits-rows : long_fits sys len area ≡ (ltb 0 rows && (eqb (length area) (1920 * rows) && leb len (1488 * rows)))
  unfolding long_fits
  fits-rows = rw (known-rows sys, area-rows sys, sizes-rows sys, ← e, room-rows rows)

  -- nor more than the rows hold
  pub fits-over : 1488 * rows < len → long_fits sys len area ≡ false
  fits-over h =
      let f = second-false (eqb (length area) (1920 * rows)) (leb len (1488 * rows)) (lt-leb len (1488 * rows) h) in
      fits-rows ∙ second-false (ltb 0 rows) (eqb (length area) (1920 * rows) && leb len (1488 * rows)) f

  -- nor into an area of another length
  pub fits-other : (length area ≡ 1920 * rows → ⊥) → long_fits sys len area ≡ false
  fits-other n =
      let f : (eqb (length area) (1920 * rows) && leb len (1488 * rows)) ≡ false = rw (ne_eqb (length area) (1920 * rows) n) in
      fits-rows ∙ second-false (ltb 0 rows) (eqb (length area) (1920 * rows) && leb len (1488 * rows)) f

  -- all else fits
  pub fits_in : 0 < rows → len ≤ 1488 * rows → length area ≡ 1920 * rows → long_fits sys len area ≡ true
  fits_in z h l =
      fits-rows ∙ rw (lt-ltb 0 rows z, eq-eqb (length area) (1920 * rows) l, le-leb len (1488 * rows) h)

  -- where it fits, the rows laid are what the call promises
  pub after-laid : (s after : List ℕ) → long_fits sys len area ≡ true → LaidAt (rows_runs (480 * rows) 0 rows) s len 0 area after → Padded len s
      → after ≡ long_after sys len s area
  unfolding long_after
  after-laid s after f v p = rw (f, runs-rows sys, ← e) (v.is p).is

-- ---- the count

-- a string that fills the first blocks has a pack in each of them, and its rest in the others
count_past : (ms ns : List ℕ) (m : ℕ) → Roomy ms → string_room ms ≤ m → long_count (ms ++ ns) m ≡ length ms + long_count ns (m - string_room ms)
count_past [] ns m r h = let e : m - 0 ≡ m = omega arith in rw (e, zero-add)
count_past (n ∷ ms) ns m (one hn r) h =
    let e : m - (n - 3) - string_room ms ≡ m - (n - 3 + string_room ms) = omega arith in
    let g : string_room ms ≤ m - (n - 3) = omega arith in
    rw (ne_eqb m 0 (λ z. omega arith), count_past ms ns (m - (n - 3)) r g, e) (omega arith)

-- a string within the first blocks has no pack in the others
count-within : (ms ns : List ℕ) (m : ℕ) → m ≤ string_room ms → long_count (ms ++ ns) m ≡ long_count ms m
count-within [] [] m h = refl
count-within [] (n ∷ ns) m h = let e : m ≡ 0 = omega arith in rw e
count-within (n ∷ ms) ns m h = ap (λ (k : ℕ). cond (eqb m 0) 0 (1 + k)) (count-within ms ns (m - (n - 3)) (omega arith))

-- the packs of blocks of one size: any f that goes up by one with each room
count-even : (n : ℕ) (f : ℕ → ℕ) → f 0 ≡ 0 → ((m : ℕ) → 0 < m → f m ≡ 1 + f (m - (n - 3))) → (k m : ℕ) → m ≤ string_room (replicate k n)
    → long_count (replicate k n) m ≡ f m
count-even n f z step zero m h = let e : m ≡ 0 = omega arith in rw (e, z)
count-even n f z step (suc k) m h = go (λ l. count-even n f z step k (m - (n - 3)) l) (eqb m 0) refl
  where
    go : (m - (n - 3) ≤ string_room (replicate k n) → long_count (replicate k n) (m - (n - 3)) ≡ f (m - (n - 3)))
        → (t : Bool) → eqb m 0 ≡ t → cond t 0 (1 + long_count (replicate k n) (m - (n - 3))) ≡ f m
    go later true q = sym (rw (eqb-true m 0 q) z)
    go later false q =
        let y = eqb-false m 0 q in
        ap (λ (j : ℕ). 1 + j) (later (omega arith)) ∙ sym (step m (omega arith))

-- blocks of 75 and 45 user bytes
count75 : (m : ℕ) → m ≤ 576 → long_count (replicate 8 75) m ≡ (m + 71) / 72
count75 m h = count-even 75 (λ (j : ℕ). (j + 71) / 72) refl (λ j z. omega arith) 8 m h

count45 : (m : ℕ) → m ≤ 336 → long_count (replicate 8 45) m ≡ (m + 41) / 42
count45 m h = count-even 45 (λ (j : ℕ). (j + 41) / 42) refl (λ j z. omega arith) 8 m h

-- the packs in a row, by where the string ends
pub count_low : (m : ℕ) → m ≤ 576 → long_count row_sizes m ≡ (m + 71) / 72
count_low m h = count-within (replicate 8 75) (replicate 8 45 ++ replicate 8 75) m h ∙ count75 m h

pub count-middle : (m : ℕ) → 576 < m → m ≤ 912 → long_count row_sizes m ≡ 8 + (m - 576 + 41) / 42
count-middle m g h =
    count_past (replicate 8 75) (replicate 8 45 ++ replicate 8 75) m (roomy-even 75 (omega arith) 8) (omega arith)
    ∙ ap (λ (j : ℕ). 8 + j) (count-within (replicate 8 45) (replicate 8 75) (m - 576) (omega arith) ∙ count45 (m - 576) (omega arith))

pub count-high : (m : ℕ) → 912 < m → m ≤ 1488 → long_count row_sizes m ≡ 16 + (m - 912 + 71) / 72
count-high m g h =
    count_past (replicate 8 75 ++ replicate 8 45) (replicate 8 75) m roomy-first (omega arith)
    ∙ ap (λ (j : ℕ). 16 + j) (count75 (m - 912) (omega arith))

-- whole rows have 24 packs each, and the rest of the string is in one more
rows-count : (k m : ℕ) → m ≤ 1488 * k → long_count (rows_sizes k) m ≡ 24 * (m / 1488) + long_count row_sizes (m % 1488)
rows-count zero m h = let e : m ≡ 0 = omega arith in rw e
rows-count (suc k) m h = go (λ l. rows-count k (m - 1488) l) (ltb m 1488) refl
  where
    go : (m - 1488 ≤ 1488 * k → long_count (rows_sizes k) (m - 1488) ≡ 24 * ((m - 1488) / 1488) + long_count row_sizes ((m - 1488) % 1488))
        → (t : Bool) → ltb m 1488 ≡ t → long_count (row_sizes ++ rows_sizes k) m ≡ 24 * (m / 1488) + long_count row_sizes (m % 1488)
    go later true q =
        let y = ltb-true m 1488 q in
        let d : m / 1488 ≡ 0 = omega arith in
        let r : m % 1488 ≡ m = omega arith in
        count-within row_sizes (rows_sizes k) m (omega arith) ∙ rw (d, r) (sym (zero-add (long_count row_sizes m)))
    go later false q =
        let y = ltb-false m 1488 q in
        let d : m / 1488 ≡ 1 + (m - 1488) / 1488 = omega arith in
        let r : m % 1488 ≡ (m - 1488) % 1488 = omega arith in
        let c = later (omega arith) in
        count_past row_sizes (rows_sizes k) m roomy-row (omega arith) ∙ rw (d, r) (omega arith)

-- the count by rows is the count
pub count-rows : (len r : ℕ) → r ≡ 24 * (len / 1488) + long_count row_sizes (len % 1488) → CountOf len r
count-rows len r e sys y h =
    let l : len ≤ string_room (rows_sizes (rows_of sys)) = rw (sizes-rows sys) at h in
    let k = room-rows (rows_of sys) in
    rw (sizes-rows sys) (e ∙ sym (rows-count (rows_of sys) len (omega arith)))

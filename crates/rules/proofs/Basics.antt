-- Small laws that the others share.
--
-- In order: tests; fill; parts of lists; bytes; items.
-- Assumes nothing.
use Prim.Native.Nat.{ℕ, zero, suc, ◌+◌, ◌-◌, ◌≤◌, ◌<◌}
use mathlib.Core.Path.{◌≡◌, refl, sym, ap, ap₂, ◌∙◌}
use mathlib.Core.Logic.{◌⊎◌, inl, inr}
use mathlib.Core.Bool.{Bool, true, false, cond, ◌&&◌, ◌||◌}
use mathlib.Core.List.{List, [], ◌∷◌, ◌++◌, map, append_assoc, append-nil}
use native.Mathlib.Nat.{zero-add}
use native.Mathlib.Numerals.{add-one}
use native.Mathlib.Omega.{arith}
use lib.Dec.{eqb}
use lib.ListN.{length, get_or, take, drop, set, replicate, length-append, length-drop, drop_of_length-le}
use lib.Seq.{sets, sets-eq, take-nil, take_at, take_all, length-take-le, drop-set-lt, paste-suc}
use borrow.Author.Tests.{eqb-true, eq-eqb}
use Rattle.rules.specs.Base.{all_is, joined, All, none, one, Bytes}
use Rattle.rules.specs.Packet.{Packet}
use Rattle.rules.specs.Danc.{written, packets_of}

-- ---- tests

-- two constructors that are never equal give 0 ≡ 1 by `cc`, and anything follows
pub never : {A : Type 0} → ◌≡◌ {A = ℕ} 0 1 → A
never e = absurd (omega arith)

pub both : (a b : Bool) → (a && b) ≡ true → (a ≡ true) × (b ≡ true)
both true b e = (refl, e)
both false b e = never (cc)

pub either : (a b : Bool) → (a || b) ≡ true → (a ≡ true) ⊎ (b ≡ true)
either true b e = inl refl
either false b e = inr e

pub neither : (a b : Bool) → (a || b) ≡ false → (a ≡ false) × (b ≡ false)
neither true b e = never (cc)
neither false b e = (refl, e)

pub second-false : (a b : Bool) → b ≡ false → (a && b) ≡ false
second-false true b e = e
second-false false b e = refl

-- what holds of two numbers holds of the one that a test chooses
pub chosen : (P : ℕ → Type 0) (t : Bool) (m n : ℕ) → P m → P n → P (cond t m n)
chosen P true m n p q = p
chosen P false m n p q = q

-- ---- fill

pub all_is-fill : (v n : ℕ) → all_is v (replicate n v) ≡ true
all_is-fill v zero = refl
all_is-fill v (suc n) = rw (eq-eqb v v refl) (all_is-fill v n)

pub fill-all_is : (v : ℕ) (s : List ℕ) → all_is v s ≡ true → s ≡ replicate (length s) v
fill-all_is v [] e = refl
fill-all_is v (x ∷ s) e =
    let w = both (eqb x v) (all_is v s) e in
    ap₂ (λ (a : ℕ) (t : List ℕ). a ∷ t) (eqb-true x v w.0) (fill-all_is v s w.1)

-- ---- parts of lists, and bytes stored one after the other

pub drop-take : (a n : ℕ) (s : List ℕ) → drop a (take n s) ≡ take (n - a) (drop a s)
drop-take zero n s = let e : n - 0 ≡ n = omega arith in rw e
drop-take (suc a) zero s = let e : 0 - suc a ≡ 0 = omega arith in rw e
drop-take (suc a) (suc n) [] = sym (take-nil (suc n - suc a))
drop-take (suc a) (suc n) (x ∷ s) = let e : suc n - suc a ≡ n - a = omega arith in rw e (drop-take a n s)

-- bytes stored one after the other
pub sets-front : (l : List ℕ) (i : ℕ) (vs : List ℕ) → i + length vs ≤ length l → take (i + length vs) (sets l i vs) ≡ take i l ++ vs
sets-front l i vs h =
    let k : length (take i l) ≡ i = length-take-le i l (omega arith) in
    let m = length-append (take i l) vs in
    rw (sets-eq vs l i h) (take_at (take i l ++ vs) (drop (i + length vs) l) (i + length vs) (omega arith))

pub sets_behind : (l : List ℕ) (i : ℕ) (vs : List ℕ) (n : ℕ) → i + length vs ≤ n → drop n (sets l i vs) ≡ drop n l
sets_behind l i [] n h = refl
sets_behind l i (v ∷ vs) n h = sets_behind (set l i v) (suc i) vs n (omega arith) ∙ drop-set-lt n l i v (omega arith)

-- a run behind a run
pub sets-append : (s t us : List ℕ) (at : ℕ) → sets us at (s ++ t) ≡ sets (sets us at s) (at + length s) t
sets-append [] t us at = let e : at ≡ at + 0 = omega arith in ap (λ (n : ℕ). sets us n t) e
sets-append (x ∷ s) t us at =
    let e : suc at + length s ≡ at + suc (length s) = omega arith in
    sets-append s t (set us at x) (suc at) ∙ ap (λ (n : ℕ). sets (sets (set us at x) (suc at) s) n t) e

-- a part that starts at a place and goes to the end
pub rest_part : (n : ℕ) (s : List ℕ) → take (length s - n) (drop n s) ≡ drop n s
rest_part n s = take_all (length s - n) (drop n s) (omega (arith, length-drop n s))

-- a turn of a loop that copies s over z, element by element, and its end where z is full
pub copy-turn : (z cur s : List ℕ) (i : ℕ) → i < length z → i < length s → cur ≡ take i s ++ drop i z
    → set cur i (get_or s i 0) ≡ take (i + 1) s ++ drop (i + 1) z
copy-turn z cur s i h k e =
    let p = paste-suc z 0 s i 0 (omega arith) k in
    rw (e, add-one i) (rw (zero-add i, zero-add (suc i)) at p)

pub copy-full : (z cur s : List ℕ) (n i : ℕ) → cur ≡ take i s ++ drop i z → i ≡ n → length z ≤ n → cur ≡ take n s
copy-full z cur s n i v e h = v ∙ rw (e, drop_of_length-le z h) (append-nil (take n s))

-- ---- bytes

pub take-bytes : (n : ℕ) (s : List ℕ) → Bytes s → Bytes (take n s)
take-bytes zero s h i = omega arith
take-bytes (suc n) [] h i = omega arith
take-bytes (suc n) (x ∷ s) h zero = h 0
take-bytes (suc n) (x ∷ s) h (suc i) = take-bytes n s (λ j. h (suc j)) i

pub drop-bytes : (n : ℕ) (s : List ℕ) → Bytes s → Bytes (drop n s)
drop-bytes zero s h i = h i
drop-bytes (suc n) [] h i = omega arith
drop-bytes (suc n) (x ∷ s) h i = drop-bytes n s (λ j. h (suc j)) i

-- numbers below a bound, joined
pub append-below : (bound : ℕ) (s t : List ℕ) → ((i : ℕ) → get_or s i 0 < bound) → ((i : ℕ) → get_or t i 0 < bound) → (i : ℕ)
    → get_or (s ++ t) i 0 < bound
append-below bound [] t h k i = k i
append-below bound (x ∷ s) t h k zero = h 0
append-below bound (x ∷ s) t h k (suc i) = append-below bound s t (λ j. h (suc j)) k i

pub later-bytes : (s t : List ℕ) → Bytes (s ++ t) → Bytes t
later-bytes [] t h = h
later-bytes (x ∷ s) t h = later-bytes s t (λ j. h (suc j))

-- ---- items

pub joined-append : {A X : Type 0} (gives : X → List A) (xs zs : List X) → joined gives (xs ++ zs) ≡ joined gives xs ++ joined gives zs
joined-append gives [] zs = refl
joined-append gives (x ∷ xs) zs =
    ap (λ (t : List _). gives x ++ t) (joined-append gives xs zs) ∙ sym (append_assoc (gives x) (joined gives xs) (joined gives zs))

pub all-before : {X : Type 0} (P : X → Type 0) (xs zs : List X) → All P (xs ++ zs) → All P xs
all-before P [] zs g = none
all-before P (x ∷ xs) zs (one g gs) = one g (all-before P xs zs gs)

pub all_append : {X : Type 0} (P : X → Type 0) (xs zs : List X) → All P xs → All P zs → All P (xs ++ zs)
all_append P [] zs g h = h
all_append P (x ∷ xs) zs (one g gs) h = one g (all_append P xs zs gs h)

pub all_give : {X : Type 0} (P Q : X → Type 0) → ((x : X) → P x → Q x) → (xs : List X) → All P xs → All Q xs
all_give P Q h [] g = none
all_give P Q h (x ∷ xs) (one g gs) = one (h x g) (all_give P Q h xs gs)

pub written_back : (ps : List Packet) → packets_of (map written ps) ≡ ps
written_back [] = refl
written_back (p ∷ ps) = ap (λ (qs : List Packet). p ∷ qs) (written_back ps)

-- What follows from the definitions of a walker and of its step.
--
-- In order: the place after an answer fits a number of the machine; a walker after k steps (`kth-answer`, `kth-packet`); after the end or
-- a refusal (`moved-stays`, `moved-never`); the turns of `kth`.
-- Assumes nothing.
use Prim.Native.Nat.{ℕ, zero, suc, ◌+◌, ◌-◌, ◌≤◌, ◌<◌}
use mathlib.Core.Path.{◌≡◌, refl, sym, ap, ◌∙◌}
use mathlib.Core.Bool.{Bool, true, false, cond}
use mathlib.Core.List.{List, ◌∷◌, ◌++◌}
use native.Mathlib.Nat.{add-zero, zero-add}
use native.Mathlib.Omega.{arith}
use lib.Dec.{eqb, leb}
use lib.ListN.{length, get_or, drop, length-drop}
use borrow.Author.Tests.{eqb-true, leb-false}
use denote.Ref.{Bor}
use Rattle.rules.specs.Base.{All}
use Rattle.rules.specs.Systems.{known, system}
use Rattle.rules.specs.Danc.{Item, Good, string, bytes_of}
use Rattle.rules.specs.Reading.{string_fault}
use Rattle.rules.specs.Walker.{step, walk, place_of, answer}
use Rattle.rules.proofs.Walker.{walk-packet}
use Rattle.danc.proofs.Laws.{fault-room}
use Rattle.walker.specs.Moved.{started, answered, moved, moved_times, walked_on}
use Rattle.walker.specs.declared.Walker.{Walker}
use Rattle.walker.specs.declared.Walked.{Walked}

-- ---- the place after an answer

-- it is below what the place and the string's length are below: only a packet has a length, and a packet lies within the string
pub place-fits : (sys : ℕ) (s : List ℕ) (at m : ℕ) → at < m → length s < m → at + (walk sys s at).length < m
unfolding walk
place-fits sys s at m a l = go (known sys) (leb (length s) at) (eqb (string_fault (system sys) (drop at s)) 0) refl refl
  where
    go : (k e f : Bool) → leb (length s) at ≡ e → eqb (string_fault (system sys) (drop at s)) 0 ≡ f
        → at + (cond k
        (cond e (step 0 at 0) (cond f (step 0 at (get_or (drop at s) 5 0 + 7)) (step (string_fault (system sys) (drop at s)) at 0)))
        (step 3 0 0)).length < m
    go false e f p q = omega arith
    go true true f p q = omega arith
    go true false false p q = omega arith
    go true false true p q =
        let packet = fault-room (system sys) (drop at s) (eqb-true (string_fault (system sys) (drop at s)) 0 q) in
        let left = length-drop at s in
        let inside = leb-false (length s) at p in
        omega arith

-- ---- a walker after k steps

-- it stands where the rules say
pub kth-place : (sys : ℕ) (s : Bor (List ℕ)) (k : ℕ)
    → moved_times k (started sys s) ≡ record { system = sys; string = s; at = record { 0 = place_of sys s.now k } }
unfolding place_of
kth-place sys s zero = refl
kth-place sys s (suc k) = ap moved (kth-place sys s k)

-- so its next answer is the rules' k-th
pub kth-answer : (sys : ℕ) (s : Bor (List ℕ)) (k : ℕ) → answered (moved_times k (started sys s)) ≡ answer sys s.now k
unfolding answer
kth-answer sys s k = ap answered (kth-place sys s k)

-- "its k-th answer is the k-th packet of the string's definition"
pub kth-packet : (sys : ℕ) → known sys ≡ true → (s : Bor (List ℕ)) (xs : List Item) (x : Item) (zs : List Item)
    → s.now ≡ string (xs ++ x ∷ zs) → All (Good (system sys)) (xs ++ x ∷ zs)
    → answered (moved_times (length xs) (started sys s)) ≡ step 0 (length (string xs)) (bytes_of x.packet)
kth-packet sys k s xs x zs e g =
    kth-answer sys s (length xs) ∙ ap (λ (t : List ℕ). answer sys t (length xs)) e ∙ walk-packet sys k xs x zs g

-- ---- after the end or a refusal

-- "the place stays": a walker whose answer has no length is the same walker after its step
pub moved-stays : (w : Walker) → (answered w).length ≡ 0 → moved w ≡ w
moved-stays w e =
    ap (λ (n : ℕ). record { system = w.system; string = w.string; at = record { 0 = n } })
    (ap (λ (n : ℕ). w.at.0 + n) e ∙ add-zero w.at.0)

-- "and each further step answers the same": it is the same walker after any number of steps
pub moved-never : (w : Walker) → (answered w).length ≡ 0 → (k : ℕ) → moved_times k w ≡ w
moved-never w e zero = refl
moved-never w e (suc k) = ap moved (moved-never w e k) ∙ moved-stays w e

-- ---- the turns of `kth`

-- from the i-th place to the next
pub on-next : (sys : ℕ) (s : List ℕ) (i : ℕ) (w : Walked) → w ≡ walked_on sys s (place_of sys s i) → w.at.0 ≡ place_of sys s (i + 1)
unfolding place_of
on-next sys s i w e = let a : suc i ≡ i + 1 = omega arith in ap (λ (t : Walked). t.at.0) e ∙ ap (place_of sys s) a

-- an answer without a length is every further answer
pub answer-last : (sys : ℕ) (s : List ℕ) (i k : ℕ) → i ≤ k → (answer sys s i).length ≡ 0 → answer sys s i ≡ answer sys s k
unfolding answer place_of
answer-last sys s i k h e = sym (ap (walk sys s) (let b : k ≡ k - i + i = omega arith in ap (place_of sys s) b ∙ go (k - i)))
  where
    go : (d : ℕ) → place_of sys s (d + i) ≡ place_of sys s i
    go zero = ap (place_of sys s) (zero-add i)
    go (suc d) =
        let a : suc d + i ≡ suc (d + i) = omega arith in
        ap (place_of sys s) a ∙ ap (λ (n : ℕ). n + (walk sys s n).length) (go d)
        ∙ ap (λ (n : ℕ). place_of sys s i + n) e ∙ add-zero (place_of sys s i)

-- The test of a packet: what it gives back meets the contract `Judges`.
--
-- In order: the words before the first wrong one; a packet that is refused with 8; a packet that passes; the contract (`judges`).
-- Assumes nothing.
use Prim.Native.Nat.{ℕ, zero, suc, ◌+◌, ◌-◌, ◌<◌}
use mathlib.Core.Path.{◌≡◌, refl, sym, ap, ◌∙◌}
use mathlib.Core.Bool.{Bool, true, false, cond, not, ◌&&◌, ◌||◌}
use mathlib.Core.List.{List, [], ◌∷◌}
use native.Mathlib.Omega.{arith}
use lib.Dec.{eqb, ltb}
use lib.ListN.{length, get_or, take, drop}
use lib.Seq.{take-add, drop-drop, get_or-drop}
use Rattle.rules.specs.Packet.{check, words}
use Rattle.rules.specs.Laying.{is_word, are_words, flagged, dc_in, words_fault, word_row, words_before, word_at, judged}
use Rattle.rules.specs.Demands.{Judges}
use Rattle.rules.specs.declared.Judged.{Judged}
use Rattle.rules.proofs.Basics.{never}
use Rattle.rules.proofs.Words.{low_word, words_append, coded-back, fault-back, words-uncut}

-- ---- the words before the first wrong one

-- the first wrong word of t stands at n, among the first m
abbrev Wrong : ℕ → ℕ → List ℕ → Type 0
Wrong m n t = (n < m) × (is_word (get_or t n 0) ≡ false) × (are_words (take n t) ≡ true)

before-wrong : (m : ℕ) (t : List ℕ) → are_words (take m t) ≡ false → Wrong m (words_before t) t
before-wrong zero t e = never (cc)
before-wrong (suc m) [] e = never (cc)
before-wrong (suc m) (w ∷ t) e = go (before-wrong m t) (is_word w) refl e
  where
    go : (are_words (take m t) ≡ false → Wrong m (words_before t) t) → (b : Bool) → is_word w ≡ b → (b && are_words (take m t)) ≡ false
        → Wrong (suc m) (words_before (w ∷ t)) (w ∷ t)
    go later true q e = let h = later e in rw q (omega (arith, h.0), h.1, rw q h.2)
    go later false q e = rw q (omega arith, q, refl)

-- ---- a packet that is refused with 8

-- one of the words from DID to the last user word is wrong
eight : (s : List ℕ) → words_fault s ≡ 8 → are_words (take (3 + dc_in s) (drop 3 s)) ≡ false
unfolding words_fault
eight s e =
    ap are_words (take-add 3 (dc_in s) (drop 3 s))
    ∙ words_append (take 3 (drop 3 s)) (take (dc_in s) (drop 3 (drop 3 s)))
    ∙ ap (λ (t : List ℕ). are_words (take 3 (drop 3 s)) && are_words (take (dc_in s) t)) (drop-drop 3 3 s)
    ∙ go (ltb (length s) 7 || not (flagged s)) (are_words (take 3 (drop 3 s))) (ltb (length s) (dc_in s + 7)) (are_words (take (dc_in s) (drop 6 s)))
    (not (eqb (get_or s (dc_in s + 6) 0) (check (take (dc_in s + 3) (drop 3 s))))) e
  where
    go : (a b c d e : Bool) → ◌≡◌ {A = ℕ} (cond a 7 (cond (not b) 8 (cond c 9 (cond (not d) 8 (cond e 10 0))))) 8 → (b && d) ≡ false
    go true b c d e q = absurd (omega arith)
    go false false c d e q = refl
    go false true true d e q = absurd (omega arith)
    go false true false false e q = refl
    go false true false true true q = absurd (omega arith)
    go false true false true false q = absurd (omega arith)

-- ---- the contract

-- it follows from its first field
pub judges : (s : List ℕ) (r : Judged) → r ≡ judged s → Judges s r
unfolding judged word_at word_row words
judges s r e =
    record {
      answer = e;
      passes = λ y p rest g q. e ∙ ap judged q ∙ rw (fault-back y p rest g, coded-back y p rest g, low_word p.did g.did);
      only = λ n y. let w = words-uncut y s tt (sym (ap (λ (x : Judged). x.number) e) ∙ n) in (w.0, word_row.rest s, w.3, w.2);
      wrong = λ n.
          let q : words_fault s ≡ 8 = sym (ap (λ (x : Judged). x.number) e) ∙ n in
          let v : r.word ≡ 3 + words_before (drop 3 s) = ap (λ (x : Judged). x.word) e ∙ rw q in
          let h = before-wrong (3 + dc_in s) (drop 3 s) (eight s q) in
          let k : 3 + words_before (drop 3 s) - 3 ≡ words_before (drop 3 s) = omega arith in
          rw (v, k) (omega arith, omega (arith, h.0), sym (ap is_word (get_or-drop 3 s (words_before (drop 3 s)) 0)) ∙ h.1, h.2);
    }

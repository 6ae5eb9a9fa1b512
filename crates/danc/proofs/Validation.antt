-- The validation of a string, one packet at a time.
--
-- In order: one packet more in front; the end; 5; a fault; one packet more; a run of packets without a fault; one packet alone.
-- Assumes nothing.
use Prim.Native.Nat.{ℕ, zero, suc, ◌+◌, ◌-◌, ◌≤◌, ◌<◌}
use Rattle.std.proofs.Common.{Ok, Err}
use mathlib.Core.Path.{◌≡◌, refl, sym, ap, ◌∙◌}
use mathlib.Core.Bool.{Bool, true, false, cond}
use mathlib.Core.List.{List}
use native.Mathlib.Omega.{arith}
use native.Mathlib.Numerals.{add-one}
use lib.Dec.{eqb, ltb}
use lib.ListN.{length, get_or, take, drop, length-drop}
use lib.Seq.{length-take-le, get_or-take, get_or-drop, drop-drop}
use borrow.Author.Tests.{eqb-true, eqb-false, ne_eqb, le-ltb}
use Rattle.rules.specs.Base.{all_is}
use Rattle.rules.specs.Systems.{System}
use Rattle.rules.specs.Packet.{Packet}
use Rattle.rules.specs.Danc.{bytes_of, string_byte_count}
use Rattle.rules.specs.Sheet.{limit}
use Rattle.rules.specs.Numbers.{Outcome, listed, refused, also, packets_in}
use Rattle.rules.specs.Refusals.{Told, tell}
use Rattle.rules.specs.Reading.{packet_of_bytes, bytes_fault, string_fault, string_ends, string_row}
use Rattle.danc.specs.declared.Validated.{Validated}
use Rattle.danc.specs.Answer.{counted, answer_of}
use Rattle.danc.specs.Validated.{validated, judged_as}
use Rattle.rules.proofs.Basics.{second-false, drop-take}
use Rattle.rules.proofs.Strings.{string-faults}
use Rattle.danc.proofs.Laws.{not-fill, fault-bytes, fault-room, part-whole}

-- one packet more in front
pub answer-also : (at k : ℕ) (p : Packet) (o : Outcome) → answer_of at k (also p o) ≡ answer_of (at + bytes_of p) (k + 1) o
answer-also at k p (listed ps) =
    let n : k + suc (length ps) ≡ k + 1 + length ps = omega arith in
    let e : at + (bytes_of p + string_byte_count ps) ≡ at + bytes_of p + string_byte_count ps = omega arith in
    rw (n, e) refl
answer-also at k p (refused n i) = refl

-- no fault has a number over 20
pub fault-small : (y : System) (s : List ℕ) → string_fault y s ≤ 20
fault-small = string-faults (λ (n : ℕ). n ≤ 20) (omega arith) (omega arith) (omega arith) (omega arith) (omega arith)

-- from what the code holds: a part of the run that the string is the front of, and the tests of it
module _ (y : System) (room : ℕ) (us : List ℕ) (end at k : ℕ) where
  abbrev part : List ℕ
  part = take (end - at) (drop at us)

  -- the rest of the string
  abbrev rest : List ℕ
  rest = drop at (take end us)

  rest-is : rest ≡ part
  rest-is = drop-take at end us

  pub at-end : true ≡ string_ends room part → Ok (counted k at) ≡ validated y room (take end us) at k
  unfolding validated string_row
  at-end e = go (limit - k)
    where
      f : string_ends room rest ≡ true
      f = ap (string_ends room) rest-is ∙ sym e

      n : k + 0 ≡ k
      n = omega arith

      m : at + 0 ≡ at
      m = omega arith

      go : (left : ℕ) → Ok (counted k at) ≡ answer_of at k (packets_in (string_row y room) left k rest)
      go zero = rw (f, n, m) refl
      go (suc left) = rw (f, n, m) refl

  module _ (e : false ≡ string_ends room part) where
    goes_on : string_ends room rest ≡ false
    goes_on = ap (string_ends room) rest-is ∙ sym e

    pub at-limit : k ≡ limit → Err (tell 5 k 0) ≡ validated y room (take end us) at k
    unfolding validated string_row
    at-limit h = let z : limit - k ≡ 0 = omega arith in rw (z, goes_on)

    module _ (l : k ≤ limit) (h : k ≡ limit → ⊥) (n : ℕ) (w : n ≡ string_fault y part) where
      fault-at : string_fault y rest ≡ n
      fault-at = ap (string_fault y) rest-is ∙ sym w

      one-packet : packets_in (string_row y room) (limit - k) k rest
          ≡ cond (eqb n 0)
          (also (packet_of_bytes rest) (packets_in (string_row y room) (limit - (k + 1)) (k + 1) (drop (get_or rest 5 0 + 7) rest)))
          (refused n k)
      unfolding string_row
      one-packet =
          let z : limit - k ≡ suc (limit - (k + 1)) = omega arith in
          rw (z, goes_on, fault-at, add-one k)

      pub at-fault : (n ≡ 0 → ⊥) → Err (tell n k 0) ≡ validated y room (take end us) at k
      unfolding validated
      at-fault f = rw (one-packet, ne_eqb n 0 f)

      -- a packet without a fault, and where the next one begins
      module _ (f : n ≡ 0) (size : ℕ) (d : size ≡ get_or part 5 0 + 7) where
        size-rest : get_or rest 5 0 + 7 ≡ size
        size-rest = ap (λ (t : List ℕ). get_or t 5 0 + 7) rest-is ∙ sym d

        size-at : bytes_of (packet_of_bytes rest) ≡ size
        size-at =
            let a = fault-room y rest (fault-at ∙ f) in
            let b = length-drop 6 rest in
            ap (λ (m : ℕ). m + 7) (length-take-le (get_or rest 5 0) (drop 6 rest) (omega arith)) ∙ size-rest

        pub at_next : validated y room (take end us) (at + size) (k + 1) ≡ validated y room (take end us) at k
        unfolding validated
        at_next = rw (one-packet, f, answer-also at k (packet_of_bytes rest), size-at, size-rest, drop-drop size at (take end us))

-- what DC is in a part that has room for it
pub part-size : (us : List ℕ) (end at : ℕ) → at + 6 ≤ end → get_or us (at + 5) 0 + 7 ≡ get_or (take (end - at) (drop at us)) 5 0 + 7
part-size us end at h =
    ap (λ (m : ℕ). m + 7) (sym (get_or-take (end - at) (drop at us) 5 0 (omega arith) ∙ get_or-drop at us 5 0))

-- a packet without a fault in a part that has room for the longest, and where the next one begins
pub run-next : (y : System) (room : ℕ) (us : List ℕ) (end at k dc : ℕ) → at + 262 ≤ end → end ≤ length us → k < limit
    → dc ≡ get_or us (at + 5) 0 → dc < 256 → bytes_fault y (take (end - at) (drop at us)) ≡ 0
    → validated y room (take end us) (at + (dc + 7)) (k + 1) ≡ validated y room (take end us) at k
unfolding string_ends
run-next y room us end at k dc inside whole few d small z =
    let p : List ℕ = take (end - at) (drop at us) in
    let a = length-drop at us in
    let l : length p ≡ end - at = length-take-le (end - at) (drop at us) (omega arith) in
    let n : string_fault y p ≡ 0 = fault-bytes y p (part-whole us end at (omega arith) whole) ∙ z in
    let goes = second-false (ltb (length p) room) (all_is 0xFF p) (not-fill y p (omega arith) z) in
    let size = part-size us end at (omega arith) in
    at_next y room us end at k (sym goes) (omega arith) (λ e. omega arith) 0 (sym n) refl (dc + 7) (omega arith)

-- one packet alone, in a part that it fills
module _ (y : System) (us : List ℕ) (end at k : ℕ) (fit : at + (get_or us (at + 5) 0 + 7) ≡ end) (short : end ≤ 9360) (whole : length us ≡ 9360) where
  abbrev alone : List ℕ
  alone = take (end - at) (drop at us)

  pub judged-sound : bytes_fault y alone ≡ 0 → Ok tt ≡ judged_as y alone k
  unfolding judged_as
  judged-sound z = rw z

  -- what the validation of a string that ends there answers
  module _ (few : k < limit) where
    not_yet : false ≡ string_ends 1 alone
    unfolding string_ends
    not_yet =
        let d = length-drop at us in
        let l : length alone ≡ end - at = length-take-le (end - at) (drop at us) (omega arith) in
        rw (le-ltb (length alone) 1 (omega arith))

    bytes-are : bytes_fault y alone ≡ string_fault y alone
    bytes-are = sym (fault-bytes y alone (part-whole us end at (omega arith) (omega arith)))

    string-sound : bytes_fault y alone ≡ 0 → validated y 1 (take end us) at k ≡ Ok (counted (k + 1) end)
    unfolding string_ends
    string-sound z =
        let e : end - end ≡ 0 = omega arith in
        let ends : true ≡ string_ends 1 (take (end - end) (drop end us)) = rw e in
        let n : validated y 1 (take end us) end (k + 1) ≡ validated y 1 (take end us) at k =
        rw fit at (at_next y 1 us end at k not_yet (omega arith) (λ q. omega arith) (bytes_fault y alone) bytes-are z
        (get_or us (at + 5) 0 + 7) (part-size us end at (omega arith))) in
        sym n ∙ sym (at-end y 1 us end end (k + 1) ends)

    string-fault : (bytes_fault y alone ≡ 0 → ⊥) → validated y 1 (take end us) at k ≡ Err (tell (bytes_fault y alone) k 0)
    string-fault h = sym (at-fault y 1 us end at k not_yet (omega arith) (λ q. omega arith) (bytes_fault y alone) bytes-are h)

    pub judged-ok : (v : Validated) → Ok v ≡ validated y 1 (take end us) at k → Ok tt ≡ judged_as y alone k
    judged-ok v e = go (eqb (bytes_fault y alone) 0) refl
      where
        go : (t : Bool) → eqb (bytes_fault y alone) 0 ≡ t → Ok tt ≡ judged_as y alone k
        go true q = judged-sound (eqb-true (bytes_fault y alone) 0 q)
        go false q = let f = string-fault (eqb-false (bytes_fault y alone) 0 q) in absurd (cc)

    pub judged-err : (t : Told) → Err t ≡ validated y 1 (take end us) at k → Err t ≡ judged_as y alone k
    unfolding judged_as
    judged-err t e = go (eqb (bytes_fault y alone) 0) refl
      where
        go : (c : Bool) → eqb (bytes_fault y alone) 0 ≡ c → Err t ≡ cond c (Ok (tt {0})) (Err (tell (bytes_fault y alone) k 0))
        go true q = let f = string-sound (eqb-true (bytes_fault y alone) 0 q) in absurd (cc)
        go false q =
            let f = e ∙ string-fault (eqb-false (bytes_fault y alone) 0 q) in
            let w : t ≡ tell (bytes_fault y alone) k 0 = cc in
            ap (λ (x : Told). Err x) w

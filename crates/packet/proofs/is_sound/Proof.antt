-- `packet::is_sound` meets its contract. With the right table each test that is passed leaves the later ones of `words_fault`, and CS is over
-- the three words that are looked up one by one and the user words. Assumes nothing.
use Prim.Native.Nat.{ℕ, ◌+◌, ◌-◌, ◌≤◌}
use mathlib.Core.Path.{◌≡◌, sym, ◌∙◌, subst}
use mathlib.Core.Logic.{⊎_elim}
use mathlib.Core.Bool.{true, false}
use mathlib.Core.List.{List}
use native.Mathlib.Omega.{arith}
use lib.ListN.{length, take, drop}
use borrow.Author.Rules.{rules}
use borrow.Author.Tests.{not-true, not-false}
use Rattle.rules.specs.Packet.{sum9, check}
use Rattle.rules.specs.Laying.{are_words, dc_in}
use Rattle.packet.specs.Run.{word_table, Passed}
use Rattle.packet.proofs.Laws.{sum9-most}
use Rattle.packet.proofs.Faults.{unflagged, fault-flag, seven-words, fault-head, fault-size, fault-user, sound-check, not_sound}
use Rattle.packet.proofs.Faults.{head-words, did-wrong, sdid-wrong, dc-wrong, check-parts}
use Rattle.packet.proofs.is_sound.Statement.{statement}
use Rattle.packet.proofs.is_sound.Tie as tie

-- ---- the flag stands in front

module _ (c : tie.Else-not-is_flagged) where
  abbrev ws : List ℕ
  ws = c.before.before.before.args.ws.now

  abbrev table : List ℕ
  table = c.before.before.before.args.table.now

  flag : unflagged ws ≡ false
  flag = not-true _ (sym c.before.is_flagged.ensures ∙ not-false _ c.if-not-is_flagged.false-raw)

  long : 7 ≤ length ws
  long = seven-words ws flag

-- ---- DID, SDID and DC are words

module _ (c : tie.Else-not-is_word-3) where
  abbrev past-flag : tie.Else-not-is_flagged
  past-flag = c.before.before.before.before.before.before.before.before.before

  head : table past-flag ≡ word_table → are_words (take 3 (drop 3 (ws past-flag))) ≡ true
  head h =
      let second = c.before.before in
      let first = second.before.before in
      let l = long past-flag in
      head-words (ws past-flag) (omega arith)
      (sym (first.before.is_word.ensures h) ∙ not-false _ first.if-not-is_word.false-raw)
      (sym (second.before.is_word-else-not-is_word.ensures h) ∙ not-false _ second.if-not-is_word-2.false-raw)
      (sym (c.before.is_word-else-not-is_word-2.ensures h) ∙ not-false _ c.if-not-is_word-3.false-raw)

-- ---- the user words have been passed over

module _ (c : tie.After-pass_by-user) where
  abbrev past_head : tie.Else-not-is_word-3
  past_head = c.before.before.before.before

  abbrev s : List ℕ
  s = ws (past-flag past_head)

  abbrev by : List ℕ
  by = table (past-flag past_head)

  user : Passed by (take (dc_in s) (drop 6 s)) c.pass_by-user.result
  user =
      let e : c.before.before.before.low_byte-end.result + 6 - 6 ≡ dc_in s = omega arith in
      subst (λ (n : ℕ). Passed by (take n (drop 6 s)) c.pass_by-user.result) e c.pass_by-user.ensures

user-sum : (c : tie.Else-not-user)
    → (let p : tie.After-pass_by-user = c.before.before in p.pass_by-user.result.sum ≡ sum9 (take (dc_in (s p)) (drop 6 (s p))))
user-sum c = (user c.before.before).sum (not-false _ c.if-not-user.false)

-- ---- the needs

is-flagged-requires : tie.Need-is_flagged-requires
is-flagged-requires c κs = search rules

returns : tie.Need-returns-then-not-is_flagged
returns c =
    λ _. not_sound 7 _ (omega arith) (fault-flag _ (not-false _ (sym c.before.is_flagged.ensures ∙ not-true _ c.if-not-is_flagged.true-raw)))

shared-slice-read-did : tie.Need-bounds-ws-3
shared-slice-read-did c = let l = long c.before in omega arith

shared-slice-read-sdid : tie.Need-bounds-ws-4
shared-slice-read-sdid c = let l = long c.before.before in omega arith

shared-slice-read-dc : tie.Need-bounds-ws-5
shared-slice-read-dc c = let l = long c.before.before.before in omega arith

is-word-requires : tie.Need-is_word-requires
is-word-requires c κs = search rules

is-word-requires-2 : tie.Need-is_word-requires-else-not-is_word
is-word-requires-2 c κs = search rules

is-word-requires-3 : tie.Need-is_word-requires-else-not-is_word-2
is-word-requires-3 c κs = search rules

returns-2 : tie.Need-returns-then-not-is_word
returns-2 c =
    let f : tie.Else-not-is_flagged = c.before.before.before.before.before in
    let l = long f in
    λ h.
    not_sound 8 _ (omega arith) (fault-head (ws f) (flag f)
    (⊎_elim (λ w. did-wrong (ws f) (omega arith) (sym (c.before.is_word.ensures h) ∙ not-true _ w.if-not-is_word.true-raw))
    (⊎_elim (λ w. sdid-wrong (ws f) (omega arith) (sym (w.is_word-else-not-is_word.ensures h) ∙ not-true _ w.if-not-is_word-2.true-raw))
    (λ w. dc-wrong (ws f) (omega arith) (sym (w.is_word-else-not-is_word-2.ensures h) ∙ not-true _ w.if-not-is_word-3.true-raw)))
    c.then-not-is_word.branch-raw))

low-byte-requires : tie.Need-low_byte-end-requires
low-byte-requires c κs = search rules

add-end : tie.Need-overflow_add-end
add-end c = search rules

returns-3 : tie.Need-returns-then-ws-end
returns-3 c =
    let h : tie.Else-not-is_word-3 = c.before.before in
    λ right. not_sound 9 _ (omega arith) (fault-size _ (flag (past-flag h)) (head h right) (omega arith))

sub-pass-by : tie.Need-slice_bounds-pass_by-count
sub-pass-by c = search rules

part-pass-by-start : tie.Need-slice_bounds-pass_by-start
part-pass-by-start c = search rules

part-pass-by-end : tie.Need-slice_bounds-pass_by-end
part-pass-by-end c = search rules

pass-by-requires : tie.Need-pass_by-user-requires
pass-by-requires c κs = search rules

returns-4 : tie.Need-returns-then-not-user
returns-4 c =
    let p : tie.After-pass_by-user = c.before.before in
    let h : tie.Else-not-is_word-3 = past_head p in
    λ right.
    not_sound 8 _ (omega arith) (fault-user (s p) (flag (past-flag h)) (head h right) (omega arith)
    (sym ((user p).words right) ∙ not-true _ c.if-not-user.true))

mul-result : tie.Need-offset_bounds-ws-end
mul-result c = search rules

shared-slice-read-result : tie.Need-bounds-ws-end
shared-slice-read-result c = search rules

low-nine-requires : tie.Need-low_nine-requires
low-nine-requires c κs = search rules

low-nine-requires-2 : tie.Need-low_nine-requires-2
low-nine-requires-2 c κs = search rules

add-check-sum : tie.Need-overflow_add-low_nine
add-check-sum c = search rules

low-nine-requires-3 : tie.Need-low_nine-requires-3
low-nine-requires-3 c κs = search rules

add-check-sum-2 : tie.Need-overflow_add-low_nine-2
add-check-sum-2 c = search rules

add-check-sum-3 : tie.Need-overflow_add-low_nine-3
add-check-sum-3 c =
    let u : tie.Else-not-user = c.before.before.before.before.before in
    let t : List ℕ = s u.before.before in
    omega (arith, user-sum u, sum9-most (dc_in t) (drop 6 t))

check-sum-requires : tie.Need-check_sum-requires
check-sum-requires c κs = search rules

returns-5 : tie.Need-returns
returns-5 c =
    let third = c.before.before in
    let second = third.before in
    let first = second.before in
    let u : tie.Else-not-user = first.before.before in
    let p : tie.After-pass_by-user = u.before.before in
    let h : tie.Else-not-is_word-3 = past_head p in
    let l = long (past-flag h) in
    let cs : c.check_sum.result ≡ check (take (dc_in (s p) + 3) (drop 3 (s p))) =
    c.check_sum.ensures
    ∙ check-parts (s p) _ _ _ _ (omega arith) first.low_nine.ensures second.low_nine-2.ensures third.low_nine-3.ensures (user-sum u) in
    λ right.
    sound-check (s p) (flag (past-flag h)) (head h right) (omega arith) (sym ((user p).words right) ∙ not-false _ u.if-not-user.false) _ _
    p.before.before.before.low_byte-end.ensures cs

pub is_sound_spec : {M : Type 1} → statement M
is_sound_spec =
    tie.close
    (tie.spec
    is-flagged-requires
    returns
    shared-slice-read-did
    shared-slice-read-sdid
    shared-slice-read-dc
    is-word-requires
    is-word-requires-2
    is-word-requires-3
    returns-2
    low-byte-requires
    add-end
    returns-3
    sub-pass-by
    part-pass-by-start
    part-pass-by-end
    pass-by-requires
    returns-4
    mul-result
    shared-slice-read-result
    low-nine-requires
    low-nine-requires-2
    add-check-sum
    low-nine-requires-3
    add-check-sum-2
    add-check-sum-3
    check-sum-requires
    returns-5)

-- A pass over some of the locations, behind those that have passed.
use Prim.Native.Nat.{ℕ, ◌+◌, ◌*◌}
use mathlib.Core.Path.{◌≡◌, sym, ap, ◌∙◌}
use mathlib.Core.List.{List}
use native.Mathlib.Nat.{zero-add}
use native.Mathlib.Omega.{arith}
use lib.ListN.{drop, drop_of_length-le}
use Rattle.sheet.specs.Standing.{in_front, in_place}
use Rattle.sheet.proofs.Laws.{run-passed, run-stopped, run-all, run-full}
use Rattle.sheet.proofs.placed_in_passes.Goals as goal

pub loop-from-init : goal.loop-from-init
loop-from-init c = record { within = omega arith; behind = λ y e. sym (zero-add (in_front (in_place y) c.args.ls.now)) }

pub returns-then-k-to : goal.returns-then-k-to
returns-then-k-to c y e =
    let from : ℕ = c.loop-from.from in
    let to : ℕ = c.min-to.result in
    let k = c.in_place-k.ensures y e in
    sym
    (run-stopped (in_place y) c.args.ls.now c.args.p from to c.requires (omega arith) (omega arith) (c.loop-from.invariant.behind y e)
    (let l = c.if-k-to.true in omega arith)
    ∙ ap (λ (n : ℕ). from + n) (sym k))

pub loop-from-preserved-else-k-to : goal.loop-from-preserved-else-k-to
loop-from-preserved-else-k-to c =
    let from : ℕ = c.loop-from.from in
    let to : ℕ = c.min-to.result in
    let l : List ℕ = c.args.ls.now in
    record {
      within = omega arith;
      behind = λ y e.
          let b = c.loop-from.invariant.behind y e in
          run-passed (in_place y) l c.args.p from to c.requires (omega arith) (omega arith) b
          (run-full (in_place y) l c.args.p from to c.requires (omega arith) (omega arith) b _ (c.in_place-k.ensures y e) c.if-k-to.false);
    }

pub loop-from-preserved : goal.loop-from-preserved
loop-from-preserved c =
    let from : ℕ = c.loop-from.from in
    let to : ℕ = c.min-to.result in
    let l : List ℕ = c.args.ls.now in
    record {
      within = omega arith;
      behind = λ y e.
          let b = c.loop-from.invariant.behind y e in
          run-passed (in_place y) l c.args.p from to c.requires (omega arith) (omega arith) b
          (run-all (in_place y) l c.args.p from to c.requires (omega arith) (omega arith) b (c.all_in_place.ensures y e c.if-not-all_in_place.false));
    }

pub returns : goal.returns
returns c y e =
    let ls : List ℕ = c.args.ls.now in
    let from : ℕ = c.loop-from.from in
    let b = c.loop-from.invariant.behind y e in
    let d : in_front (in_place y) (drop (2 * from) ls) ≡ 0 = ap (in_front (in_place y)) (drop_of_length-le ls (omega arith)) in
    omega arith

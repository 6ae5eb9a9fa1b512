-- The packet here is outside the profile, or within it; or none is left.
use Prim.Native.Nat.{ℕ, ◌<◌}
use mathlib.Core.Path.{◌≡◌, sym, ◌∙◌}
use native.Mathlib.Omega.{arith}
use Rattle.profile.proofs.Searching.{search-begins, search-stops, search-goes-on, search-ends}
use Rattle.profile.proofs.first_outside.Goals as goal

pub loop-at-init : goal.loop-at-init
loop-at-init c = record { near = omega arith; few = omega arith; so = search-begins c.args.ws.now }

pub returns-then-not-are_eight : goal.returns-then-not-are_eight
returns-then-not-are_eight c =
    search-stops c.args.ws.now c.loop-at.at c.loop-at.k c.loop-at.invariant.so c.loop-at-test.true _ _ c.low_byte.ensures
    c.low_byte-in-loop-at.ensures (sym c.are_eight.ensures ∙ c.if-not-are_eight.true)

pub loop-at-preserved : goal.loop-at-preserved
loop-at-preserved c =
    let e = c.low_byte-in-loop-at-2.ensures in
    record {
      near = omega arith;
      few = omega arith;
      so =
          search-goes-on c.args.ws.now c.loop-at.at c.loop-at.k c.loop-at.invariant.so c.loop-at-test.true _ _ c.low_byte.ensures
          c.low_byte-in-loop-at.ensures (sym c.are_eight.ensures ∙ c.if-not-are_eight.false) _ e;
    }

pub returns : goal.returns
returns c = search-ends c.args.ws.now c.loop-at.at c.loop-at.k c.loop-at.invariant.so c.loop-at-test.false

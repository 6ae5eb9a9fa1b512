-- Each way through the loop by what it says of the rules.
use Prim.Native.Nat.{ℕ, ◌+◌, ◌-◌, ◌*◌}
use mathlib.Core.Path.{◌≡◌, refl, sym, ap, ◌∙◌}
use mathlib.Core.Bool.{true}
use mathlib.Core.List.{List}
use native.Mathlib.Omega.{arith}
use lib.Dec.{eqb}
use lib.ListN.{length, take, drop}
use Rattle.std.proofs.Common.{Err}
use Rattle.packet.proofs.Row.{no-packets, at_first, at-end, at-fault, row-there, at_next, place_next}
use Rattle.packet.proofs.packets.Goals as goal

pub returns-then-ws-eq0 : goal.returns-then-ws-eq0
returns-then-ws-eq0 g c = let t = g.T.WordTests in no-packets t.fault t.packet t.word c.args.ws.now c.if-ws-eq0.true

pub loop-dc-init : goal.loop-dc-init
loop-dc-init g c =
    let t = g.T.WordTests in
    record { within = omega arith; few = omega arith; place = refl; whole = at_first t.fault t.packet t.word c.args.ws.now }

pub bounds-ws-at : goal.bounds-ws-at
bounds-ws-at g c =
    let t = g.T.WordTests in
    let m = row-there t.fault t.packet t.word c.loop-dc.at c.args.ws.now g.met.T.WordTests.laws (sym c.is_sound.ensures ∙ c.loop-dc-test.true) in
    omega arith

pub loop-dc-smaller : goal.loop-dc-smaller
loop-dc-smaller g c =
    let t = g.T.WordTests in
    let m = row-there t.fault t.packet t.word c.loop-dc.at c.args.ws.now g.met.T.WordTests.laws (sym c.is_sound.ensures ∙ c.loop-dc-test.true) in
    omega arith

pub loop-dc-preserved : goal.loop-dc-preserved
loop-dc-preserved g c =
    let t = g.T.WordTests in
    let ws : List ℕ = c.args.ws.now in
    let l = c.loop-dc in
    let w = g.met.T.WordTests.laws in
    let z : eqb (t.fault (take (length ws - l.at) (drop l.at ws))) 0 ≡ true = sym c.is_sound.ensures ∙ c.loop-dc-test.true in
    let m = row-there t.fault t.packet t.word l.at ws w z in
    let dc = c.low_byte-dc.ensures in
    record {
      within = omega arith;
      few = omega arith;
      place = place_next t.fault t.packet t.word l.at ws w z _ l.packets dc l.invariant.place;
      whole = at_next t.fault t.packet t.word l.at ws w z _ dc l.packets l.packs ∙ l.invariant.whole;
    }

pub returns-then-at-ws : goal.returns-then-at-ws
returns-then-at-ws g c =
    let t = g.T.WordTests in
    let l = c.loop-dc in
    at-end t.fault t.packet t.word l.packets l.at (l.packs + 2 * l.packets) c.args.ws.now (omega arith) ∙ l.invariant.whole

pub refused-requires : goal.refused-requires
refused-requires g c = sym c.is_sound.ensures ∙ c.loop-dc-test.false

pub returns : goal.returns
returns g c =
    let t = g.T.WordTests in
    let l = c.loop-dc in
    let z = sym c.is_sound.ensures ∙ c.loop-dc-test.false in
    ap Err c.refused.ensures
    ∙ at-fault t.fault t.packet t.word l.at c.args.ws.now l.packets (l.packs + 2 * l.packets) (omega arith) z l.invariant.place
    ∙ l.invariant.whole

-- The packet at the place is the one behind as many packets.
use Prim.Native.Nat.{ℕ}
use mathlib.Core.Path.{◌≡◌, refl, sym, ap, ◌∙◌}
use mathlib.Core.List.{List}
use native.Mathlib.Omega.{arith}
use Rattle.rules.specs.Laying.{word_at, from_packet}
use Rattle.rules.proofs.Basics.{rest_part}
use Rattle.packet.proofs.Row.{behind-next}
use Rattle.packet.proofs.word_named.Goals as goal

pub loop-init : goal.loop-init
loop-init c = record { within = omega arith; place = refl }

pub loop-preserved : goal.loop-preserved
loop-preserved c =
    record {
      within = omega arith;
      place = behind-next c.args.ws.now c.loop.at c.size_of-at.result c.loop.counter c.size_of-at.ensures.behind c.loop.invariant.place;
    }

pub returns : goal.returns
returns c =
    let ws : List ℕ = c.args.ws.now in
    let k : c.loop.counter ≡ c.args.place = omega arith in
    c.word_at.ensures
    ∙ ap (word_at c.args.number) (rest_part c.loop.at ws ∙ sym c.loop.invariant.place ∙ ap (λ (i : ℕ). from_packet i ws) k)

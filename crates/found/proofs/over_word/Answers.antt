-- From DID on.
use Prim.Native.Nat.{ℕ, ◌+◌, ◌≤◌}
use mathlib.Core.Path.{ap, ◌∙◌}
use native.Mathlib.Omega.{arith}
use lib.ListN.{length, drop_of_length-le}
use Rattle.rules.specs.Found.{ten_before}
use Rattle.rules.proofs.Basics.{rest_part}
use Rattle.found.proofs.over_word.Goals as goal

pub returns-then-ws-lt3 : goal.returns-then-ws-lt3
returns-then-ws-lt3 c = let h : length c.args.ws.now ≤ 3 = omega arith in rw (drop_of_length-le c.args.ws.now h)

pub returns : goal.returns
returns c = ap (λ (n : ℕ). 3 + n) (c.ten_words.ensures.value ∙ ap ten_before (rest_part 3 c.args.ws.now))

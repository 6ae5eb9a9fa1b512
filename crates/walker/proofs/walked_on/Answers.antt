-- `walker::walked_on` meets its contract: the sum of the place and the answer's length is a number of the machine.
-- Assumes nothing.
use Rattle.std.proofs.Common.{length, ◌<◌, ◌^◌, rules}
use Rattle.walker.proofs.Laws.{place-fits}
use Rattle.walker.proofs.walked_on.Goals as goal

pub overflow_add-result : goal.overflow_add-result
overflow_add-result c =
    let a = c.args in
    let p : a.place.0 < 2 ^ 64 = search rules in
    let l : length a.string.now < 2 ^ 64 = search rules in
    record { fits = rw c.walk-answer.ensures (place-fits a.system a.string.now a.place.0 (2 ^ 64) p l) }

-- 29 for a list that is asked for and has a packet outside, and else what laying gives.
use Prim.Native.Nat.{ℕ}
use mathlib.Core.Path.{◌≡◌, refl, subst}
use Rattle.std.proofs.Common.{Some}
use Rattle.profile.specs.Search.{Answers}
use Rattle.profile.proofs.Strict.{refuses-outside, lays-within, lays-early}
use Rattle.profile.proofs.lay.Goals as goal
use Rattle.profile.proofs.lay.Goals.{in-Some+else-comes_to_room, in_default}

pub returns-then-comes_to_room : goal.returns-then-comes_to_room
returns-then-comes_to_room c =
    rw c.number.ensures
    (refuses-outside _ _ _ _ c.section_c.ensures (Some c.in-Some.place) c.in-Some.ensures c.in-Some.place refl
    (subst (Answers _ _ _) c.if-comes_to_room.true c.comes_to_room.ensures))

pub returns : goal.returns
returns c =
    elim c.match-first_outside.branch [
      | in-Some+else-comes_to_room w ↦
          lays-early _ _ _ _ c.section_c.ensures _ c.first_outside.ensures
          (subst (Answers _ _ _) w.if-comes_to_room.false w.comes_to_room.ensures) _ _ c.lay.ensures
      | in_default w ↦ lays-within _ _ _ _ c.section_c.ensures _ c.first_outside.ensures w.in_default.is _ _ c.lay.ensures
    ]

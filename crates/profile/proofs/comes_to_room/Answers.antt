-- A law for each way out; what the tests tell is what they give back.
use mathlib.Core.Path.{◌≡◌, refl, sym, ap, ◌∙◌}
use mathlib.Core.Bool.{true}
use native.Mathlib.Omega.{arith}
use Rattle.std.proofs.Common.{Ok, Err}
use Rattle.rules.specs.Packings.{is_packing}
use Rattle.rules.specs.Refusals.{number}
use Rattle.rules.specs.declared.Refusal.{Refusal}
use Rattle.rules.specs.declared.Refusal.TheVariants.{
  Packing,
  Shape,
  System,
  AreaLength,
  PacketLimit,
  Location,
  Flag,
  Word,
  CutOff,
  Checksum,
  PacketCount,
  Room,
  Packs,
  Length,
  StoredChecksum,
  Line,
  Buffer,
  NoLine,
  Element,
  PictureLine,
  EightBits,
}
use Rattle.rules.proofs.Lister.{tests}
use Rattle.sheet.specs.Telling.{tested_from}
use Rattle.sheet.proofs.Laws.{tested-is}
use Rattle.profile.proofs.Searching.{packing-1, packing-2, not-packing, not-passed, not-known, by-area}
use Rattle.profile.proofs.comes_to_room.Goals as goal
use Rattle.profile.proofs.comes_to_room.Goals.{else-packing-ne1-via-then-packing-ne1+else-packing-ne2, else-packing-ne1-via-else-packing-ne1}

-- no refusal has the number of success
refusing : (r : Refusal) → number r ≡ 0 → ⊥
refusing r e = grind arith

pub returns-then-packing-ne2 : goal.returns-then-packing-ne2
returns-then-packing-ne2 c = not-packing c.args.packing c.args.sheet.now c.args.bytes c.if-packing-ne1.true c.if-packing-ne2.true

pub returns-in_default : goal.returns-in_default
returns-in_default c =
    let s = c.args.sheet.now in
    let e = c.in_default.field-0 in
    not-passed c.args.packing s c.args.bytes (tested_from (Err e)) (tests _ _ (tested-is s (Err e) c.in_default.ensures)) (refusing e.refusal)

pub returns-in-Some : goal.returns-in-Some
returns-in-Some c =
    let s = c.args.sheet.now in
    let h = c.in-Ok.header in
    let p : is_packing c.args.packing ≡ true =
    elim c.else-packing-ne1.branch [
      | else-packing-ne1-via-then-packing-ne1+else-packing-ne2 w ↦ packing-2 _ w.if-packing-ne1.true w.if-packing-ne2.false
      | else-packing-ne1-via-else-packing-ne1 w ↦ packing-1 _ w.if-packing-ne1.false
    ]
    in
    by-area c.args.packing s c.args.bytes (tested_from (Ok h)) (tests _ _ (tested-is s (Ok h) c.in-Ok.ensures)) p refl c.in-Some.figures
    c.in-Some.ensures

pub returns-in-None : goal.returns-in-None
returns-in-None c =
    let s = c.args.sheet.now in
    let h = c.in-Ok.header in
    not-known c.args.packing s c.args.bytes (tested_from (Ok h)) (tests _ _ (tested-is s (Ok h) c.in-Ok.ensures)) c.in-None.ensures

-- The order of packs of 5 (document 01, refusal 13), as the two readers `starter` and `carrier` find it.
--
-- In order: one pack more in front; what each reader gives back; carriers passed one by one; a packet passed.
-- Assumes nothing.
use Prim.Native.Nat.{ℕ, ◌+◌, ◌-◌, ◌≤◌, ◌<◌}
use mathlib.Core.Path.{◌≡◌, sym, ap, ◌∙◌}
use mathlib.Core.Bool.{true, false}
use mathlib.Core.List.{List, ◌∷◌}
use native.Mathlib.Omega.{arith}
use lib.Dec.{eqb}
use lib.ListN.{get_or, take, drop}
use borrow.Author.Tests.{ne_eqb}
use Rattle.rules.specs.Base.{all_is}
use Rattle.rules.specs.Packing1.{Five, flat}
use Rattle.rules.specs.Reading.{packs_end, in_order}
use Rattle.unpacking1.specs.Open.{packs_at, Within, SameOrder}
use Rattle.unpacking1.proofs.Packs.{pack_at, packs-none, packs-flat, first-pack, behind-first}

-- ---- one pack more in front

module _ (p : Five) (ps : List Five) where
  -- a carrier, which may stand anywhere
  on-carrier : p.b0 ≡ 0xE2 → in_order false (p ∷ ps) ≡ in_order false ps
  unfolding in_order
  on-carrier e = rw e

  -- a starter, behind which a carrier has to follow
  on-starter : p.b0 ≡ 0xE1 → in_order false (p ∷ ps) ≡ in_order true ps
  unfolding in_order
  on-starter e = rw e

  -- that carrier
  after-starter : p.b0 ≡ 0xE2 → in_order true (p ∷ ps) ≡ in_order false ps
  unfolding in_order
  after-starter e = rw e

  -- neither a carrier nor a starter: all is fill from here on, or the order is wrong
  on-other : (p.b0 ≡ 0xE2 → ⊥) → (p.b0 ≡ 0xE1 → ⊥) → in_order false (p ∷ ps) ≡ all_is 0xFF (flat (p ∷ ps))
  unfolding in_order
  on-other n m = rw (ne_eqb p.b0 0xE1 m, ne_eqb p.b0 0xE2 n)

  -- no carrier behind a starter
  after-other : (p.b0 ≡ 0xE2 → ⊥) → in_order true (p ∷ ps) ≡ false
  unfolding in_order
  after-other n = rw (ne_eqb p.b0 0xE2 n)

-- ---- what each reader gives back

-- no pack is left: behind a starter one is missing
module _ (us : List ℕ) (at total : ℕ) (e : total ≤ at) where
  -- nothing is wrong
  pub order-end : in_order false (packs_at us at total) ≡ true
  unfolding in_order
  order-end = rw (packs-none us at total e)

  -- the order is wrong
  pub order-short : in_order true (packs_at us at total) ≡ false
  unfolding in_order
  order-short = rw (packs-none us at total e)

-- a pack is left
module _ {us : List ℕ} {at total : ℕ} (w : Within us at total) (h : at < total) where
  -- the packs behind it
  abbrev behind : List Five
  behind = packs_at us (at + 5) total

  -- it is a carrier
  pub order-carrier : get_or us at 0 ≡ 0xE2 → in_order false (packs_at us at total) ≡ in_order false behind
  order-carrier e = rw (first-pack w h) (on-carrier (pack_at us at) behind e)

  -- it is a starter
  pub order-starter : get_or us at 0 ≡ 0xE1 → in_order false (packs_at us at total) ≡ in_order true behind
  order-starter e = rw (first-pack w h) (on-starter (pack_at us at) behind e)

  -- behind a starter
  pub order-second : get_or us at 0 ≡ 0xE2 → in_order true (packs_at us at total) ≡ in_order false behind
  order-second e = rw (first-pack w h) (after-starter (pack_at us at) behind e)

  -- anything else behind a starter
  pub order-no-carrier : (get_or us at 0 ≡ 0xE2 → ⊥) → in_order true (packs_at us at total) ≡ false
  order-no-carrier n = rw (first-pack w h) (after-other (pack_at us at) behind n)

  -- neither: the packs left decide
  pub order-other : (get_or us at 0 ≡ 0xE2 → ⊥) → (get_or us at 0 ≡ 0xE1 → ⊥)
      → in_order false (packs_at us at total) ≡ all_is 0xFF (flat (packs_at us at total))
  order-other n o = rw (first-pack w h) (on-other (pack_at us at) behind n o)

  -- which are the bytes left
  pub order-rest : (get_or us at 0 ≡ 0xE2 → ⊥) → (get_or us at 0 ≡ 0xE1 → ⊥)
      → in_order false (packs_at us at total) ≡ all_is 0xFF (take (total - at) (drop at us))
  order-rest n o = order-other n o ∙ ap (all_is 0xFF) (packs-flat w)

  -- a starter or a carrier is no end
  pub goes-on : {b : ℕ} → get_or us at 0 ≡ b → eqb b 0xFF ≡ false → packs_end (packs_at us at total) ≡ false
  unfolding packs_end
  goes-on e n = rw (first-pack w h, e, n)

  -- anything else in order is the end
  pub order-ends : (get_or us at 0 ≡ 0xE2 → ⊥) → (get_or us at 0 ≡ 0xE1 → ⊥) → in_order false (packs_at us at total) ≡ true
      → packs_end (packs_at us at total) ≡ true
  unfolding packs_end
  order-ends n o e = sym (order-other n o) ∙ e

-- ---- carriers passed one by one

-- one more is passed
pub passed-more : {us : List ℕ} {at total end : ℕ} → SameOrder us at total end → end < total → get_or us end 0 ≡ 0xE2
    → SameOrder us at total (end + 5)
passed-more v h e =
    let a = v.reach in
    record { reach = omega arith; packs = behind-first v.packs h; same = sym (order-carrier v.packs h e) ∙ v.same }

-- ---- a packet passed

-- a starter, and a pack behind it
module _ {us : List ℕ} {at total : ℕ} (w : Within us at total) (h : at + 5 < total) (s : get_or us at 0 ≡ 0xE1) where
  -- the packs behind the starter are whole
  within-behind : Within us (at + 5) total
  within-behind = behind-first w (omega arith)

  -- which is no carrier
  pub order-alone : (get_or us (at + 5) 0 ≡ 0xE2 → ⊥) → in_order false (packs_at us at total) ≡ false
  order-alone n = order-starter w (omega arith) s ∙ order-no-carrier within-behind h n

  -- which is one: its carriers are passed as well
  pub order-packet : {f : ℕ} → get_or us (at + 5) 0 ≡ 0xE2 → SameOrder us (at + 5) total f
      → in_order false (packs_at us f total) ≡ in_order false (packs_at us at total)
  order-packet c v =
      v.same ∙ order-carrier within-behind h c ∙ sym (order-starter w (omega arith) s ∙ order-second within-behind h c)

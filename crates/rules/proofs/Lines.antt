-- The lines on which packets may stand are lines of the frame, and no line is one of them; sound packets stand on them.
-- Assumes nothing.
use Prim.Native.Nat.{ℕ, ◌≤◌}
use mathlib.Core.Path.{◌≡◌, refl}
use mathlib.Core.Bool.{Bool, true, false, ◌&&◌, ◌||◌}
use mathlib.Core.List.{List, [], ◌∷◌}
use lib.Dec.{eqb, leb-zero}
use borrow.Author.Tests.{eqb-true, leb-true}
use Rattle.rules.specs.Base.{All, none, one}
use Rattle.rules.specs.Systems.{System, stands, vanc_line, allowed}
use Rattle.rules.specs.Packet.{Packet, Sound}
use Rattle.rules.specs.Danc.{Item, Good, packets_of}
use Rattle.rules.proofs.Basics.{both}

-- "no line stay[s]"
pub allowed-none : (y : System) → allowed y 0 ≡ true
unfolding allowed
allowed-none y = refl

pub allowed-stands : (y : System) (line : ℕ) → allowed y line ≡ true → stands y line ≡ true
unfolding allowed stands
allowed-stands y line e = go (eqb line 0) refl e
  where
    go : (t : Bool) → eqb line 0 ≡ t → (t || (stands y line && vanc_line y.last line)) ≡ true → stands y line ≡ true
    go true q e = rw (eqb-true line 0 q) (leb-zero y.last)
    go false q e = (both (stands y line) (vanc_line y.last line) e).0

pub allowed-last : (y : System) (line : ℕ) → allowed y line ≡ true → line ≤ y.last
unfolding stands
allowed-last y line e = leb-true line y.last (allowed-stands y line e)

-- a packet's line is allowed
abbrev pub OnAllowed : System → Packet → Type 0
OnAllowed y p = allowed y p.line ≡ true

pub sound-lines : (y : System) (ps : List Packet) → All (Sound y) ps → All (OnAllowed y) ps
sound-lines y [] none = none
sound-lines y (p ∷ ps) (one g gs) = one g.line (sound-lines y ps gs)

pub good-lines : (y : System) (xs : List Item) → All (Good y) xs → All (OnAllowed y) (packets_of xs)
good-lines y [] none = none
good-lines y (x ∷ xs) (one g gs) = one g.sound.line (good-lines y xs gs)

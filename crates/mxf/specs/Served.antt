-- Which packets a call serves: "For 720/60p one call serves one FI value and passes over packets of the other." In a 1080 system every
-- packet is served.
--
-- In order: FI; the packets served; a packet as reading gives it back.
-- Assumes nothing.
use Rattle.std.specs.Prelude.{ℕ, ◌+◌, ◌*◌, ◌/◌, ◌%◌, Bool, cond, not, ◌||◌, List, [], ◌∷◌, map, eqb}
use Rattle.rules.specs.Packet.{Packet}
use Rattle.mxf.specs.Element.{progressive}

-- the call's FI as flags have it: "bit 0 is FI"
abbrev pub bit : Bool → ℕ
bit fi = cond fi 1 0

-- a packet with these flags
unfoldable pub serves : ℕ → Bool → ℕ → Bool
serves sys fi flags = not (progressive sys) || eqb (flags % 2) (bit fi)

abbrev pub served : ℕ → Bool → List Packet → List Packet
served sys fi [] = []
served sys fi (p ∷ ps) = cond (serves sys fi p.flags) (p ∷ served sys fi ps) (served sys fi ps)

-- "FI is the call's, 0 for 1080"
unfoldable pub fi_read : ℕ → Bool → ℕ
fi_read sys fi = cond (progressive sys) (bit fi) 0

-- "Writing then reading gives back words, line and YCF"
abbrev pub given_back : ℕ → Bool → Packet → Packet
given_back sys fi p =
    record { did = p.did; sdid = p.sdid; user = p.user; line = p.line; flags = fi_read sys fi + 2 * (p.flags / 2); mark = p.mark }

abbrev pub all_back : ℕ → Bool → List Packet → List Packet
all_back sys fi ps = map (given_back sys fi) (served sys fi ps)

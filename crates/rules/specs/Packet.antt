-- "The packet": its ten-bit words (SMPTE 291), and what is sound.
--
-- In order: a packet and its mark; the word of a byte; CS; the words of a packet; soundness; packets as found.
-- Assumes nothing.
use Rattle.std.specs.Prelude.{ℕ, ◌+◌, ◌-◌, ◌*◌, ◌/◌, ◌%◌, ◌<◌, ◌≡◌, true, List, [], ◌∷◌, ◌++◌, map, length, get_or, drop}
use Rattle.rules.specs.Base.{Bytes}
use Rattle.rules.specs.Systems.{System, allowed}

-- "The packet record gains a mark, sound or as found" (document 02, A13): as found with what each word from DID to the last user word has above
-- its low byte, and with CS
pub data Mark : Type 0 where
  sound : Mark
  found : List ℕ → ℕ → Mark

-- what a packet says, and where it belongs: DID, SDID or DBN, the user bytes; its line (0 for none) and flags ("bit 0 is FI,
-- bit 1 is YCF"); its mark
pub record Packet : Type 0 where
  pub did : ℕ
  pub sdid : ℕ
  pub user : List ℕ
  pub line : ℕ
  pub flags : ℕ
  pub mark : Mark

-- "DID; SDID or DBN; DC; DC user words", as bytes
abbrev pub body : Packet → List ℕ
body p = p.did ∷ p.sdid ∷ length p.user ∷ p.user

-- the ones in bits 7 to 0
abbrev pub ones : ℕ → ℕ
ones b = b % 2 + b / 2 % 2 + b / 4 % 2 + b / 8 % 2 + b / 16 % 2 + b / 32 % 2 + b / 64 % 2 + b / 128 % 2

-- "bit 8 makes the count of ones in bits 8 to 0 even"
unfoldable pub parity : ℕ → ℕ
parity b = ones b % 2

-- "and bit 9 is the inverse of bit 8"
unfoldable pub word : ℕ → ℕ
word b = b + 256 * parity b + 512 * (1 - parity b)

-- "the sum .. of the low nine bits"
abbrev pub sum9 : List ℕ → ℕ
sum9 [] = 0
sum9 (w ∷ ws) = w % 512 + sum9 ws

-- "CS holds in bits 8 to 0 the sum, modulo 512, .. ; its bit 9 is the inverse of its bit 8"
unfoldable pub check : List ℕ → ℕ
check ws = sum9 ws % 512 + 512 * (1 - sum9 ws % 512 / 256)

-- bytes, each with what stands above it
abbrev pub raised : List ℕ → List ℕ → List ℕ
raised us [] = []
raised us (b ∷ bs) = (b + 256 * get_or us 0 0) ∷ raised (drop 1 us) bs

-- the words of bytes, and CS of words, by the mark
abbrev pub coded_as : Mark → List ℕ → List ℕ
coded_as sound bs = map word bs
coded_as (found us cs) bs = raised us bs

abbrev pub check_as : Mark → List ℕ → ℕ
check_as sound ws = check ws
check_as (found us cs) ws = cs

-- the words "of DID through the last user word"
unfoldable pub coded : Packet → List ℕ
coded p = coded_as p.mark (body p)

unfoldable pub check_of : Packet → ℕ
check_of p = check_as p.mark (coded p)

-- "Ten-bit words: 000h, 3FFh, 3FFh; DID; SDID or DBN; DC; DC user words (0 to 255); CS."
unfoldable pub words : Packet → List ℕ
words p = 0x000 ∷ 0x3FF ∷ 0x3FF ∷ coded p ++ check_of p ∷ []

-- "A packet is sound when all this holds and its line and flags are in the sheet's ranges; a list is sound when all its packets
-- are." The words of a packet marked sound are as above by their definition; what is left is that they are bytes, and the ranges; "sound" is
-- read with the lines that are allowed (document 02, A3)
pub record Sound (y : System) (p : Packet) : Type 0 where
  pub did : p.did < 256
  pub sdid : p.sdid < 256
  pub many : length p.user < 256
  pub user : Bytes p.user
  pub line : allowed y p.line ≡ true
  pub flags : p.flags < 4
  pub mark : p.mark ≡ sound

-- the same packet, marked sound
abbrev pub as_sound : Packet → Packet
as_sound p = record { did = p.did; sdid = p.sdid; user = p.user; line = p.line; flags = p.flags; mark = sound }

-- a packet as found: ten-bit words, whatever their parity, and a CS of ten bits, whatever it sums; its low bytes, line and flags are a sound packet's
pub record Found (y : System) (p : Packet) : Type 0 where
  pub within : Sound y (as_sound p)
  pub above : List ℕ
  pub cs : ℕ
  pub mark : p.mark ≡ found above cs
  pub each : length above ≡ length (body p)
  pub two : (i : ℕ) → get_or above i 0 < 4
  pub ten : cs < 1024

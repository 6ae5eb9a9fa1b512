-- What is known of a file, in order: the kind by its number; that it has what the system answered; both of two answers. Assumes nothing.
use Rattle.std.specs.Prelude.{ℕ, ◌/◌, ◌%◌, ◌≡◌, cond, nat_eq, Bool, true, false}
use Rattle.file_status.specs.declared.Kind.{Kind}
use Rattle.file_status.specs.declared.Kind.TheVariants.{Fifo, Folder, Regular, Socket, Device}
use Rattle.file_status.specs.declared.Known as declared
use Rattle.file_status.specs.declared.Asked as answered

-- the kind that C's S_IFMT says, in 4096ths
abbrev pub kind_of : ℕ → Kind
kind_of n = cond (nat_eq n 1) Fifo (cond (nat_eq n 4) Folder (cond (nat_eq n 8) Regular (cond (nat_eq n 12) Socket Device)))

-- k has what s says
abbrev pub Tells : answered.Asked → declared.Known → Type 0
Tells s k = (k.kind ≡ kind_of (s.mode / 4096 % 16)) × (k.mode ≡ s.mode % 4096)
    × (k.owner ≡ s.owner) × (k.group ≡ s.group) × (k.device ≡ s.device) × (k.number ≡ s.number)

abbrev pub both : Bool → Bool → Bool
both true b = b
both false b = false

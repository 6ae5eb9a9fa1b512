-- Laws for the proofs of `writing`, one path of the code at a time: what is its own, beside the laws of every writer; and its contract.
--
-- In order: the tests as found; the contract.
-- Assumes nothing.
use Prim.Native.Nat.{ℕ}
use mathlib.Core.Path.{◌≡◌, refl}
use mathlib.Core.Bool.{Bool}
use mathlib.Core.List.{List}
use lib.ListN.{take}
use Rattle.rules.specs.Packet.{Packet}
use Rattle.rules.specs.Sheet.{system_in, words_in}
use Rattle.rules.specs.Numbers.{Outcome, listed, refused}
use Rattle.rules.specs.Found.{found_word_at, found_tests}
use Rattle.rules.proofs.Sheets.{Sixteen}
use Rattle.packet.specs.Tests.{told_by}
use Rattle.found.specs.Checked.{checked}
use Rattle.mxf.specs.declared.ElementWritten.{ElementWritten}
use Rattle.mxf.specs.Writer.{tested_by, Answered}
use Rattle.mxf.proofs.Writers.{unwritten, sent-written, sent-only, sent_back}
use Rattle.mxf10.specs.Writing.{writing, write, element_after}
use Rattle.mxf10.specs.Demands.{WritesTen}
use Rattle.mxf10.specs.FoundTens.{found_tens}
use Rattle.mxf10.proofs.Ours.{comes_back_lem}

-- ---- the tests as found

pub as-tested : (s : List ℕ) → checked s ≡ tested_by found_tens s (found_tests s)
unfolding checked
as-tested s = go (found_tests s)
  where
    go : (o : Outcome) → told_by found_word_at (λ (ps : List Packet). system_in s) (words_in s) o ≡ tested_by found_tens s o
    go (listed ps) = refl
    go (refused n i) = refl

-- ---- the contract

-- the contract of writing follows from its first two fields, over a sheet of sixteen-bit numbers
pub writes : (fi : Bool) (s target : List ℕ) (r : ElementWritten) (after : List ℕ) → Sixteen s → Answered found_tens fi s target r after
    → WritesTen fi s target r after
unfolding write element_after writing
writes fi s target r after hs e =
    record {
      answer = e.0;
      buffer = e.1;
      demand1 = unwritten found_tens fi s target r after e.0 e.1;
      exports =
          record {
            written = λ sys ps x.
                sent-written found_tens fi s target r after e.0 e.1 sys ps
                (record { sheet = x.sheet; lined = x.lined; room = x.room });
            only = λ n.
                let x = sent-only found_tens fi s target r after e.0 e.1 n in
                (x.0, x.1, record { sheet = x.2.sheet; lined = x.2.lined; room = x.2.room });
          };
      comes_back =
          record {
            back = λ sys ps sheet g n h.
                let x = sent_back found_tens fi s target r after e.0 e.1 sys ps g n in
                comes_back_lem fi s hs sys ps g x.0 (take r.bytes after) sheet x.1 h;
          };
    }

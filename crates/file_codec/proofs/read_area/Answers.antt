-- `file_codec::read_area` meets its contract: the sheet has room in its buffer, and its file in that for the file.
-- Assumes nothing.
use Rattle.rules.proofs.Reading.{read-within}
use Rattle.sheet_file.proofs.Laws.{encoded}
use Rattle.file_codec.proofs.read_area.Goals as goal

pub returns : goal.returns
returns c =
    let r = c.read-r in
    let e = c.encode_first in
    let within = read-within _ _ _ _ _ r.ensures in
    let w = encoded r.result.numbers e.result _ c.args.s.now r.new.sheet e.new.file within r.auto.sheet c.requires e.ensures in
    record { reads = (r.ensures, w.0); numbers_in_bounds = w.1 }

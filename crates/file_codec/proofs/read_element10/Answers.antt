-- `file_codec::read_element10` meets its contract: the sheet has room in its buffer, and its file in that for the file.
-- Assumes nothing.
use Rattle.mxf10.proofs.Accepting.{read-within}
use Rattle.sheet_file.proofs.Laws.{encoded}
use Rattle.file_codec.proofs.read_element10.Goals as goal

pub returns : goal.returns
returns c =
    let r = c.read-r in
    let e = c.encode_first in
    let within = read-within _ _ _ _ _ _ r.ensures in
    let w = encoded r.result.numbers e.result _ c.args.s.now r.new.sheet e.new.file within r.auto.sheet c.requires e.ensures in
    record { reads_ten = (r.ensures, w.0); numbers_in_bounds = w.1 }

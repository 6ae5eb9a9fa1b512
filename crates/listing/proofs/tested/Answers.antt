-- `listing::tested` meets its contract: the tests are those of the sheet in the file.
use Rattle.listing.proofs.Laws.{file-tested}
use Rattle.listing.proofs.tested.Goals as goal

pub returns : goal.returns
returns c = file-tested _ _ _ c.decode-n.ensures.1 c.test.ensures

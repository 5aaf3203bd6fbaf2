-- `page::number` meets its contract: what `say` sets down at a place with room. Assumes nothing.
use Rattle.page.proofs.Sheets.{put-says}
use Rattle.page.proofs.number.Goals as goal

pub returns : goal.returns
returns c = put-says _ _ _ _ _ _ _ c.room-a.ensures c.number.ensures

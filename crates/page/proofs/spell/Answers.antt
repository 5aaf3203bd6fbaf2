-- `page::spell` meets its contract: what `say` sets down at a place with room. Assumes nothing.
use Rattle.page.proofs.Sheets.{put-puts}
use Rattle.page.proofs.spell.Goals as goal

pub returns : goal.returns
returns c = put-puts _ _ _ _ _ _ _ c.room-a.ensures c.put_part.ensures

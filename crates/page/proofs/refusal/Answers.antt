-- `page::refusal` meets its contract: the word before, and then what `say` sets down. Assumes nothing.
use mathlib.Core.Path.{ap, ◌∙◌}
use Rattle.page.specs.Page.{REFUSAL, put}
use Rattle.page.proofs.Sheets.{put-says}
use lib.ListN.{length}
use Rattle.say.specs.Refused.{refusal_of}
use Rattle.page.proofs.refusal.Goals as goal

pub returns : goal.returns
returns c = put-says _ _ _ _ _ _ _ c.room-b.ensures c.refusal.ensures ∙ ap (put REFUSAL (length (refusal_of c.args.e)) (refusal_of c.args.e)) c.text-a.ensures

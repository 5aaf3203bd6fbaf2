-- `answers::packets::shown` meets its contract: a line, the bytes and a space. Assumes nothing.
use mathlib.Core.Path.{ap, ◌∙◌}
use Rattle.page.specs.Page.{put, spelt}
use Rattle.answers.specs.Rounds.{shown_said}
use Rattle.answers.proofs.packets.shown.Goals as goal

pub returns : goal.returns
unfolding shown_said
returns c = c.text.ensures ∙ ap (put _ _ _) (c.bytes-b.ensures ∙ ap (spelt _) c.line-a.ensures)

-- `answers::packets::named` meets its contract: the name, and a line behind it. Assumes nothing.
use mathlib.Core.Path.{ap, ◌∙◌}
use Rattle.page.specs.Page.{lined_from}
use Rattle.answers.proofs.packets.named.Goals as goal

pub returns : goal.returns
returns c = c.line.ensures ∙ ap (lined_from _ _ 0) c.text-a.ensures

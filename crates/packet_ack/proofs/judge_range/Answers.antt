-- `packet_ack::judge_range` meets its contract. Assumes nothing.
use mathlib.Core.Path.{◌∙◌}
use Rattle.packet_ack.proofs.judge_range.Goals as goal

pub returns-in-None : goal.returns-in-None
returns-in-None c = c.judge_highest.ensures ∙ simp c.in-None.is

pub returns-in-Some : goal.returns-in-Some
returns-in-Some c = c.judge_lower.ensures ∙ simp c.in-Some.is

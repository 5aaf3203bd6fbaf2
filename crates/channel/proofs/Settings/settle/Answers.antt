-- `Settings::settle` meets its contract: by the judgement. Assumes nothing.
use mathlib.Core.Path.{sym, ap, ◌∙◌}
use Rattle.channel.specs.Settings.{setup_number}
use Rattle.channel.proofs.Good.{settled-ready, settled-refused}
use Rattle.channel.proofs.Settings.settle.Goals as goal

pub returns-in-Ok : goal.returns-in-Ok
returns-in-Ok c = settled-ready _ (sym c.judge-answer.ensures ∙ ap setup_number c.in-Ok.is)

pub returns-in-Err : goal.returns-in-Err
returns-in-Err c = settled-refused _ _ (sym c.judge-answer.ensures ∙ ap setup_number c.in-Err.is)

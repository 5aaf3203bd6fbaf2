-- `SliceConstructor::new` meets its contract: by the judgement. Assumes nothing.
use mathlib.Core.Path.{sym, ap, ◌∙◌}
use Rattle.slice_constructor.specs.Collect.{begin_number}
use Rattle.slice_constructor.proofs.Valid.{begin-good, begun, not-begun}
use Rattle.slice_constructor.proofs.SliceConstructor.new.Goals as goal

pub returns-in-Ok : goal.returns-in-Ok
returns-in-Ok c = rw c.empty.ensures (begun _ _ (sym c.judge_new.ensures ∙ ap begin_number c.in-Ok.is))

pub returns-in-Err : goal.returns-in-Err
returns-in-Err c = rw c.blank.ensures.0 (not-begun _ _ _ (sym c.judge_new.ensures ∙ ap begin_number c.in-Err.is))

pub empty-requires : goal.empty-requires
empty-requires c = begin-good _ _ (sym c.judge_new.ensures ∙ ap begin_number c.in-Ok.is)

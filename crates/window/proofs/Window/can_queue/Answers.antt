-- `Window::can_queue` meets its contract: by the step. Assumes nothing.
use Rattle.std.proofs.lemmas.Result.{err_from_is_err_and}
use Rattle.window.proofs.Steps.{free, waiting}
use Rattle.window.proofs.Window.can_queue.Goals as goal

pub returns-in_err-step : goal.returns-in_err-step
returns-in_err-step c =
    let p = err_from_is_err_and c.from_residual.result c.from_residual.ensures.1 in
    rw (p.1, p.2) (waiting _ _ _ _ c.in_err-step.ensures)

pub returns : goal.returns
returns c = free _ _ _ _ _ c.in_ok-step.ensures

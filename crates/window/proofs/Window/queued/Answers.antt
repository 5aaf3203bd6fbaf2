-- `Window::queued` meets its contract: by the step. Assumes nothing.
use mathlib.Core.Path.{◌≡◌}
use native.Mathlib.Omega.{arith}
use Rattle.window.specs.Steps.{goes, spot_of}
use Rattle.window.specs.Fields.{state_of}
use Rattle.window.proofs.Valid.{count_most, lens-long}
use Rattle.window.proofs.Steps.{left, goes_on, Fits, fits}
use Rattle.window.proofs.Window.queued.Goals as goal
use Rattle.window.proofs.Window.queued.Goals.{In-Ok}

-- the step that the message takes, and that there is room for it
taken : (c : In-Ok) → (let a = c.args in goes c.in-Ok.step.gone c.in-Ok.step.load ≡ spot_of (state_of c.self.inside) a.oldest.0 a.len)
taken c = rw (← c.self.view_is) at c.in-Ok.ensures

room : (c : In-Ok) → (let a = c.args in Fits (state_of c.self.inside) a.len c.in-Ok.step.gone)
room c = fits _ c.self.invariant _ _ _ _ (taken c)

pub overflow_sub-left : goal.overflow_sub-left
overflow_sub-left c = (room (goal.at.overflow_sub-left c).In-Ok).low

pub moved_up-lens-requires : goal.moved_up-lens-requires
moved_up-lens-requires c = let v = c.self.invariant in ((room (goal.at.moved_up-lens-requires c).In-Ok).low, count_most _ v, lens-long _ v)

pub overflow_cast-lens : goal.overflow_cast-lens
overflow_cast-lens c = omega (arith, (room (goal.at.overflow_cast-lens c).In-Ok).short)

pub offset_bounds-lens-left : goal.offset_bounds-lens-left
offset_bounds-lens-left c = omega (arith, (room (goal.at.offset_bounds-lens-left c).In-Ok).row)

pub bounds-lens-left : goal.bounds-lens-left
bounds-lens-left c = omega (arith, (room (goal.at.bounds-lens-left c).In-Ok).row)

pub invariant_of-self : goal.invariant_of-self
invariant_of-self c = (goes_on _ _ _ c.self.invariant _ _ _ (taken (goal.at.invariant_of-self c).In-Ok) c.moved_up-lens.ensures).valid

pub returns-in-Err : goal.returns-in-Err
returns-in-Err c = left _ _ _ (rw c.self.view_is at c.self.invariant) _ c.in-Err.ensures

pub returns : goal.returns
returns c = rw (← c.self.view_is) (goes_on _ _ _ c.self.invariant _ _ _ (taken (goal.at.returns c).In-Ok) c.moved_up-lens.ensures)

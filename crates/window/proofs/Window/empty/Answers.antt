-- `Window::empty` meets its contract. Assumes nothing.
use mathlib.Core.Path.{refl}
use Rattle.words.specs.Lists.{total, splice}
use Rattle.window.specs.Rule.{load_of}
use Rattle.window.specs.Window.{window_of}
use Rattle.window.proofs.Valid.{valid-new}
use Rattle.window.proofs.Window.empty.Goals as goal

pub invariant_of-result : goal.invariant_of-result
unfolding window_of load_of total splice
invariant_of-result c = valid-new _ c.requires

pub returns : goal.returns
unfolding window_of load_of total splice
returns c = refl

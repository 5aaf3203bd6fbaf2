-- `Window::load_without` meets its contract. The loop's invariant: the load is that of the messages from the next one on. Assumes nothing.
use mathlib.Core.Path.{◌≡◌}
use lib.ListN.{drop}
use Rattle.window.specs.Rule.{load_of}
use Rattle.window.specs.Window.{kept}
use Rattle.window.proofs.Window.load_without.Given as goal

abbrev pub invariant-loop-len : goal.invariant-loop-len
invariant-loop-len l = l.load ≡ load_of (drop l.len-index (kept l.fn.self))

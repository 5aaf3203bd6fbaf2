-- `script::write_stretch` meets its contract. The loop's invariant: what is left to set down, from here, gives what the whole gives. Assumes nothing.
use mathlib.Core.Path.{refl}
use Rattle.script.proofs.Parts.{drawn-start, drawn-more, drawn-end}
use Rattle.script.proofs.write_stretch.Goals as goal

pub loop-i-init : goal.loop-i-init
loop-i-init c = drawn-start _ _ _ _ _

pub loop-i-preserved : goal.loop-i-preserved
loop-i-preserved c = drawn-more _ _ _ _ _ _ _ _ c.loop-i.invariant _ c.loop-i-test.true c.follow-x.ensures

pub returns : goal.returns
returns c = (refl, drawn-end _ _ _ _ _ _ _ _ c.loop-i.invariant c.loop-i-test.false)

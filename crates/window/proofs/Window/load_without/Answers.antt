-- `Window::load_without` meets its contract. The loop's invariant: the load is that of the messages from the next one on. Assumes nothing.
use mathlib.Core.Path.{◌≡◌, ◌∙◌}
use native.Mathlib.Omega.{arith}
use lib.ListN.{length, take}
use lib.Seq.{get_or-take, length-take-le}
use Rattle.window.specs.Fields.{state_of}
use Rattle.window.proofs.Loads.{plus-holds, minus_plus}
use Rattle.window.proofs.Valid.{load_is, load_step, count_most, lens-long}
use Rattle.window.proofs.Window.load_without.Goals as goal
use Rattle.window.proofs.Window.load_without.Goals.{After-self}

-- so many messages are gone over
long : (c : After-self) → length (take c.args.gone c.self.inside.lens) ≡ c.args.gone
long c = length-take-le c.args.gone c.self.inside.lens (let v = c.self.invariant in let h = rw (← c.self.view_is) at c.requires in omega (arith, h, count_most _ v, lens-long _ v))

pub loop-len-init : goal.loop-len-init
loop-len-init c = rw (← c.self.view_is) (load_is (state_of c.self.inside) c.self.invariant)

pub minus-load-requires : goal.minus-load-requires
minus-load-requires c =
    let l = c.loop-len in
    let v = c.self.invariant in
    let n = long (goal.at.minus-load-requires c).After-self in
    let h = rw (← c.self.view_is) at c.requires in
    rw (l.invariant, ← c.self.view_is, c.of.ensures, get_or-take c.args.gone c.self.inside.lens l.len-index 0 (omega arith), load_step _ v l.len-index (omega arith)) (plus-holds _ _)

pub loop-len-preserved : goal.loop-len-preserved
loop-len-preserved c =
    let l = c.loop-len in
    let v = c.self.invariant in
    let n = long (goal.at.loop-len-preserved c).After-self in
    let h = rw (← c.self.view_is) at c.requires in
    c.minus-load.ensures
    ∙ rw (l.invariant, ← c.self.view_is, c.of.ensures, get_or-take c.args.gone c.self.inside.lens l.len-index 0 (omega arith), load_step _ v l.len-index (omega arith)) (minus_plus _ _)

pub returns : goal.returns
returns c =
    let l = c.loop-len in
    let n = long (goal.at.returns c).After-self in
    let e : l.len-index ≡ c.args.gone = omega arith in
    rw (l.invariant, e)

pub shared_ref_as_front-len-items : goal.shared_ref_as_front-len-items
shared_ref_as_front-len-items c = let h = rw (← c.self.view_is) at c.requires in omega (arith, h, count_most _ c.self.invariant)

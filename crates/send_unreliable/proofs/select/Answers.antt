-- `send_unreliable::select` meets its contract. The loop's invariant: from what is chosen, the messages to come give what the whole queue
-- gives, and there is room for them. Assumes nothing.
use mathlib.Core.Path.{refl}
use native.Mathlib.Omega.{arith}
use Rattle.pack.specs.Pack.{items_in}
use Rattle.send_unreliable.proofs.Chosen.{room-one, next-room, next-turn, turn-room, all-passed}
use Rattle.send_unreliable.proofs.select.Goals as goal

pub loop-i-init : goal.loop-i-init
unfolding items_in
loop-i-init c = (refl, refl, c.requires.room)

pub choose-chosen-requires : goal.choose-chosen-requires
choose-chosen-requires c = record { good = c.requires.good; in_bounds = omega (arith, c.requires.in_bounds); room = room-one _ c.requires.good _ _ _ (next-room _ _ _ c.loop-i-test.true _ c.loop-i.invariant.2) }

pub loop-i-preserved : goal.loop-i-preserved
loop-i-preserved c =
    let h = c.loop-i-test.true in
    let e = c.choose-chosen.ensures in
    (omega arith, next-turn _ _ _ h _ _ _ e c.loop-i.invariant.1, turn-room _ _ _ h _ c.requires.good _ e c.loop-i.invariant.2)

pub returns : goal.returns
returns c = all-passed _ _ _ _ _ c.loop-i-test.false c.loop-i.invariant.1

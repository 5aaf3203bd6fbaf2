-- `pack::write_group` meets its contract. The loop's invariant: what is left, written from here, makes the bytes that the whole makes. Assumes nothing.
use native.Mathlib.Omega.{arith}
use mathlib.Core.Path.{refl}
use Rattle.pack.proofs.Wrote.{all_first, all_rest, group-next, group-wrote, group-end, group-done, room}
use Rattle.pack.proofs.write_group.Goals as goal

pub loop-i-init : goal.loop-i-init
loop-i-init c = let p = c.requires in (refl, p.all, refl, refl)

pub write_item-at-requires : goal.write_item-at-requires
write_item-at-requires c =
    let l = c.loop-i in
    let h = c.loop-i-test.true in
    record { all = all_first _ _ _ h _ l.invariant.1; in_bounds = omega (arith, room _ _ _ h _ _ _ l.invariant.2) }

pub loop-i-preserved : goal.loop-i-preserved
loop-i-preserved c =
    let l = c.loop-i in
    let h = c.loop-i-test.true in
    let w = c.write_item-at.ensures in
    (omega arith, all_rest _ _ _ h _ l.invariant.1, group-next _ _ _ h _ _ _ w.0 l.invariant.2, group-wrote _ _ _ h _ _ _ w.0 _ w.1 l.invariant.3)

pub returns : goal.returns
returns c = let l = c.loop-i in let h = c.loop-i-test.false in (group-end _ _ _ h _ _ _ l.invariant.2, group-done _ _ _ h _ _ _ _ l.invariant.3)

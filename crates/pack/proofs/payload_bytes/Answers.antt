-- `pack::payload_bytes` meets its contract. The loop's invariant: the first items are added up. Assumes nothing.
use Prim.Native.Nat.{◌≤◌}
use mathlib.Core.Path.{refl}
use native.Mathlib.Omega.{arith}
use lib.Seq.{take_all}
use Rattle.words.specs.Sizes.{SLICE_SIZE}
use Rattle.words.specs.Lists.{total}
use Rattle.pack.specs.Pack.{Item, item_at}
use Rattle.pack.proofs.Tables.{item-all, total-more}
use Rattle.pack.proofs.payload_bytes.Goals as goal
use Rattle.pack.proofs.payload_bytes.Goals.{In-loop-item}

-- an item is at most a piece long
short : (c : In-loop-item) → (item_at c.args.items.now c.loop-item.item-index).len ≤ SLICE_SIZE
short c = item-all (λ x. x.len ≤ SLICE_SIZE) _ _ c.loop-item-test.true c.requires.all

pub loop-item-init : goal.loop-item-init
unfolding total
loop-item-init c = (refl, omega arith)

pub overflow_add-sum : goal.overflow_add-sum
overflow_add-sum c = let s = short (goal.at.overflow_add-sum c).In-loop-item in omega arith

pub loop-item-preserved : goal.loop-item-preserved
loop-item-preserved c =
    let s = short (goal.at.loop-item-preserved c).In-loop-item in
    let e = total-more (λ (x : Item). x.len) c.args.items.now c.loop-item.item-index c.loop-item-test.true in
    (omega arith, omega arith)

pub returns : goal.returns
returns c = rw (take_all _ c.args.items.now c.loop-item-test.false) at c.loop-item.invariant.0

-- `pack::pack` meets its contract. The loop's invariant: the first i items are packed. Assumes nothing.
use native.Mathlib.Omega.{arith}
use Prim.Native.Nat.{◌≤◌}
use mathlib.Core.Path.{◌≡◌, refl}
use lib.ListN.{length}
use Rattle.words.specs.Sizes.{SLICE_SIZE}
use Rattle.pack.specs.Steps.{PackedTo}
use Rattle.pack.proofs.Turns.{start, end_none, end-some}
use Rattle.pack.proofs.Tables.{item-all}
use Rattle.pack.proofs.pack.Goals as goal
use Rattle.pack.proofs.pack.Goals.{After-loop-i}

-- where the loop ends, all items are packed
all-packed : (c : After-loop-i) → let a = c.args in PackedTo a.ids a.sequence.0 a.items.now (length a.items.now) c.loop-i.p c.loop-i.packs
all-packed c = let e : c.loop-i.i ≡ length c.args.items.now = omega arith in rw e at c.loop-i.invariant.1

pub loop-i-init : goal.loop-i-init
loop-i-init c = (refl, start _ _ _ _)

pub pack_item-p-requires : goal.pack_item-p-requires
pack_item-p-requires c =
    let l = c.loop-i in
    record {
      i_in_bounds = omega arith;
      i_bound = item-all (λ i. i.len ≤ SLICE_SIZE) c.args.items.now l.i (omega arith) c.requires.all;
      i_in_bounds_2 = omega arith;
      i_bound_2 = omega arith;
      sequence_bound = omega arith;
      packed_to = l.invariant.1;
    }

pub loop-i-preserved : goal.loop-i-preserved
loop-i-preserved c = (omega arith, c.pack_item-p.ensures)

pub returns-else-p-ne0 : goal.returns-else-p-ne0
returns-else-p-ne0 c = end_none _ _ _ _ _ (all-packed (goal.at.returns-else-p-ne0 c).After-loop-i) (omega arith) c.if-p-ne0.false

pub put_group-p-requires : goal.put_group-p-requires
put_group-p-requires c = let w = all-packed (goal.at.put_group-p-requires c).After-loop-i in record { packets_in_bounds = omega arith; packets_bound = omega arith; small_messages_bytes_bound = omega arith }

pub returns-then-p-ne0 : goal.returns-then-p-ne0
returns-then-p-ne0 c =
    let e = c.put_group-p.ensures in
    let w = all-packed (goal.at.returns-then-p-ne0 c).After-loop-i in
    rw (e.0, e.1) (end-some _ _ _ _ _ w (omega arith) c.requires.few c.if-p-ne0.true)

-- `send_unreliable::put_slices` meets its contract. The loop's invariant: the items so far and the pieces to come are what is asked. Assumes nothing.
use mathlib.Core.Path.{refl, ◌∙◌}
use native.Mathlib.Nat.{add-zero, sub-zero}
use native.Mathlib.Omega.{arith}
use lib.ListN.{length-set}
use Rattle.send_unreliable.proofs.Chosen.{put-turn, put_all}
use Rattle.send_unreliable.proofs.put_slices.Goals as goal

pub num_slices-num-requires : goal.num_slices-num-requires
num_slices-num-requires c = c.requires.len_bound

pub loop-i-init : goal.loop-i-init
loop-i-init c = (refl, rw (add-zero, sub-zero))

pub slice_len-requires : goal.slice_len-requires
slice_len-requires c = record { len_bound = c.requires.len_bound; i_bound = omega (arith, c.num_slices-num.ensures) }

pub loop-i-preserved : goal.loop-i-preserved
loop-i-preserved c =
    let n = c.num_slices-num.ensures in
    (simp length-set c.loop-i.invariant.0, put-turn _ _ _ _ _ _ _ _ n c.slice_len.ensures (omega arith) (omega arith) ∙ c.loop-i.invariant.1)

pub returns : goal.returns
returns c =
    let n = c.num_slices-num.ensures in
    (omega arith, put_all _ _ _ _ _ _ _ n c.loop-i.auto.i-end c.loop-i-test.false ∙ c.loop-i.invariant.1)

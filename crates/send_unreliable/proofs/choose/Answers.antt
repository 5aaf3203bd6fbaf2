-- `send_unreliable::choose` meets its contract: a turn of choosing for each of its answers. Assumes nothing.
use mathlib.Core.Path.{sym}
use native.Mathlib.Omega.{arith}
use borrow.Author.Tests.{le-leb, lt-leb}
use Rattle.channel.proofs.Good.{lane-most, lane-end}
use Rattle.send_unreliable.proofs.Chosen.{small-passed, sliced-passed, put_small, put-sliced, cell_room, lane_room}
use Rattle.send_unreliable.proofs.choose.Goals as goal

pub returns-then-left-n : goal.returns-then-left-n
returns-then-left-n c = sym (small-passed _ _ _ (le-leb _ _ c.if-n-le-SLICE_SIZE.true) c.if-left-n.true)

pub offset_bounds-items-k : goal.offset_bounds-items-k
offset_bounds-items-k c = omega (arith, (cell_room _ _ _ _ c.requires.good c.requires.room c.if-n-le-SLICE_SIZE.true).1)

pub bounds-items-k : goal.bounds-items-k
bounds-items-k c = omega (arith, (cell_room _ _ _ _ c.requires.good c.requires.room c.if-n-le-SLICE_SIZE.true).1, c.requires.in_bounds)

pub overflow_add-chosen-then-n-le-SLICE_SIZE : goal.overflow_add-chosen-then-n-le-SLICE_SIZE
overflow_add-chosen-then-n-le-SLICE_SIZE c = omega (arith, (cell_room _ _ _ _ c.requires.good c.requires.room c.if-n-le-SLICE_SIZE.true).1)

pub returns-then-n-le-SLICE_SIZE : goal.returns-then-n-le-SLICE_SIZE
returns-then-n-le-SLICE_SIZE c =
    let r = (cell_room _ _ _ _ c.requires.good c.requires.room c.if-n-le-SLICE_SIZE.true).1 in
    put_small _ _ _ _ c.if-n-le-SLICE_SIZE.true c.if-left-n.false (omega (arith, c.requires.in_bounds))

pub returns-then-left-n-2 : goal.returns-then-left-n-2
returns-then-left-n-2 c = sym (sliced-passed _ _ _ (lt-leb _ _ c.if-n-le-SLICE_SIZE.false) c.if-left-n-2.true)

pub overflow_mul-lane : goal.overflow_mul-lane
overflow_mul-lane c = record { fits = omega (arith, lane-end _ c.requires.good _ (lane_room _ _ _ _ c.requires.good c.requires.room c.if-n-le-SLICE_SIZE.false).0) }

pub put_slices-requires : goal.put_slices-requires
put_slices-requires c =
    let r = lane_room _ _ _ _ c.requires.good c.requires.room c.if-n-le-SLICE_SIZE.false in
    record {
      len_bound = omega (arith, lane-most _ c.requires.good);
      place_bound = omega (arith, lane-end c.args.settings c.requires.good _ r.0);
      len_in_bounds = omega (arith, c.requires.in_bounds);
    }

pub returns : goal.returns
returns c = put-sliced _ _ _ _ c.if-n-le-SLICE_SIZE.false c.if-left-n-2.false _ _ c.put_slices.ensures.1

-- `pack::pack_item` meets its contract: a turn of packing for each of its answers. Assumes nothing.
use borrow.Author.Tests.{eq-eqb, ne_eqb}
use Rattle.pack.specs.Pack.{packed_len}
use Rattle.pack.proofs.Turns.{piece-turn, close-turn, join-turn}
use Rattle.pack.proofs.pack_item.Goals as goal

pub returns-then-item-ne0 : goal.returns-then-item-ne0
returns-then-item-ne0 c =
    let e = c.put_piece.ensures in
    rw (e.0, e.1) (piece-turn _ _ _ _ _ _ c.requires.packed_to c.requires.i_bound c.requires.i_in_bounds_2 c.requires.i_in_bounds c.requires.i_bound_2 (ne_eqb _ 0 c.if-item-ne0.true))

pub returns-then-bytes-size-gt-SLICE_SIZE : goal.returns-then-bytes-size-gt-SLICE_SIZE
unfolding packed_len
returns-then-bytes-size-gt-SLICE_SIZE c =
    let e = c.put_group-q.ensures in
    rw (e.0, e.1) (close-turn _ _ _ _ _ _ c.requires.packed_to c.requires.i_bound c.requires.i_in_bounds_2 c.requires.i_in_bounds c.requires.i_bound_2 (eq-eqb _ 0 c.if-item-ne0.false) c.serialized_size-size.ensures.0 c.if-bytes-size-gt-SLICE_SIZE.true)

pub returns : goal.returns
unfolding packed_len
returns c = join-turn _ _ _ _ _ _ c.requires.packed_to c.requires.i_bound (eq-eqb _ 0 c.if-item-ne0.false) c.serialized_size-size.ensures.0 c.if-bytes-size-gt-SLICE_SIZE.false

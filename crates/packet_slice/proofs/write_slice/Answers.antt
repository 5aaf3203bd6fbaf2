-- `packet_slice::write_slice` meets its contract. Assumes nothing.
use native.Mathlib.Omega.{arith}
use mathlib.Core.Path.{ap}
use Rattle.octets.specs.Varint.{var_len}
use Rattle.packet_slice.specs.Slice.{slice_of}
use Rattle.packet_slice.specs.Steps.{slice_len_of}
use Rattle.packet_slice.proofs.Wrote.{length-span, length-slice, wrote-slice}
use Rattle.packet_slice.proofs.write_slice.Goals as goal

pub write_front-a-requires : goal.write_front-a-requires
unfolding slice_len_of
write_front-a-requires c = record { sequence_bound = omega arith; sequence_in_bounds = omega arith }

pub write_label-b-requires : goal.write_label-b-requires
unfolding slice_len_of
write_label-b-requires c = record { id_bound = omega arith; index_bound = omega arith; num_slices_bound = omega arith; num_slices_in_bounds = omega arith }

pub write_bytes_with_varint_length-requires : goal.write_bytes_with_varint_length-requires
unfolding slice_len_of
write_bytes_with_varint_length-requires c =
    let p = c.args.packet in
    let l = length-span p.place p.len c.args.store.now c.requires.stored in
    record { src_len_bound = omega (arith, l); src_in_bounds = rw l (omega arith) }

pub returns : goal.returns
unfolding slice_len_of
returns c =
    let p = c.args.packet in
    let store = c.args.store.now in
    let l = length-span p.place p.len store c.requires.stored in
    let n = length-slice c.args.reliable store (slice_of p) c.requires.stored in (
      omega (arith, ap var_len l),
      wrote-slice _ store (slice_of p) _ _ c.write_bytes_with_varint_length.ensures.1 c.write_label-b.ensures.0 c.write_label-b.ensures.1 c.write_front-a.ensures.0 c.write_front-a.ensures.1,
    )

-- `packet::to_bytes` meets its contract: each arm writes as its kind. Assumes nothing.
use Rattle.packet.specs.Write.{encoded, bytes_of}
use Rattle.packet.proofs.to_bytes.Goals as goal

pub returns-in-SmallReliable : goal.returns-in-SmallReliable
unfolding encoded bytes_of
returns-in-SmallReliable c = simp c.in-SmallReliable.is c.put_small.ensures

pub returns-in-SmallUnreliable : goal.returns-in-SmallUnreliable
unfolding encoded bytes_of
returns-in-SmallUnreliable c = simp c.in-SmallUnreliable.is c.put_small-in-SmallUnreliable.ensures

pub returns-in-ReliableSlice : goal.returns-in-ReliableSlice
unfolding encoded bytes_of
returns-in-ReliableSlice c = simp c.in-ReliableSlice.is c.put_slice.ensures

pub returns-in-UnreliableSlice : goal.returns-in-UnreliableSlice
unfolding encoded bytes_of
returns-in-UnreliableSlice c = simp c.in-UnreliableSlice.is c.put_slice-in-UnreliableSlice.ensures

pub returns-in-Ack : goal.returns-in-Ack
unfolding encoded bytes_of
returns-in-Ack c = simp c.in-Ack.is c.put_ack.ensures

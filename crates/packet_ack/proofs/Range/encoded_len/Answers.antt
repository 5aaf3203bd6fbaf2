-- `Range::encoded_len` meets its contract. Assumes nothing.
use Rattle.packet_ack.proofs.Range.encoded_len.Goals as goal

pub returns : goal.returns
returns c = cc

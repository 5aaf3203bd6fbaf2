-- `packet_ack::judge_lower` meets its contract. Assumes nothing.
use Rattle.packet_ack.proofs.Pass.{stepped-is}
use Rattle.packet_ack.proofs.judge_lower.Goals as goal

pub returns : goal.returns
returns c = stepped-is c.args.j c.args.r c.is_sayable.ensures c.saturating_sub-2.ensures c.encoded_len-len.ensures c.saturating_sub-gap.ensures c.saturating_sub.ensures

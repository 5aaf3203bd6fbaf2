-- `packet_ack::judge_highest` meets its contract. Assumes nothing.
use Rattle.packet_ack.specs.Steps.{begun}
use Rattle.packet_ack.proofs.judge_highest.Goals as goal

pub returns : goal.returns
unfolding begun
returns c = cc

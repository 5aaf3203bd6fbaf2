-- `SendChannelReliable::empty` meets its contract. Assumes nothing.
use Rattle.send_reliable.specs.Sender.{new_of}
use Rattle.send_reliable.proofs.Valid.{new-valid}
use Rattle.send_reliable.proofs.SendChannelReliable.empty.Goals as goal

pub invariant_of-result : goal.invariant_of-result
unfolding new_of
invariant_of-result c = let a = c.args in rw (c.blank.ensures, c.blank-2.ensures) (new-valid a.channel_id a.settings a.resend_time c.requires)

pub returns : goal.returns
unfolding new_of
returns c = simp (c.blank.ensures, c.blank-2.ensures)

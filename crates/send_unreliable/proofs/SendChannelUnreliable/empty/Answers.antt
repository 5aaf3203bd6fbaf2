-- `SendChannelUnreliable::empty` meets its contract. Assumes nothing.
use Prim.Native.Nat.{zero-le}
use mathlib.Core.Path.{refl}
use Rattle.send_unreliable.specs.Sender.{empty_of}
use Rattle.send_unreliable.proofs.Valid.{empty-valid}
use Rattle.send_unreliable.proofs.SendChannelUnreliable.empty.Goals as goal

pub invariant_of-result : goal.invariant_of-result
unfolding empty_of
invariant_of-result c = empty-valid c.args.channel_id c.args.settings 0 c.requires zero-le

pub returns : goal.returns
unfolding empty_of
returns c = refl

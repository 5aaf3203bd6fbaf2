-- `SendChannelReliable::can_send_message` meets its contract: the size fits in what is left exactly where the sum fits. Assumes nothing.
use Prim.Native.Nat.{◌+◌}
use native.Mathlib.Omega.{arith}
use Rattle.words.proofs.Tests.{leb-same}
use Rattle.send_reliable.specs.Fields.{state_of}
use Rattle.send_reliable.specs.Queue.{available_memory_of}
use Rattle.send_reliable.proofs.SendChannelReliable.can_send_message.Goals as goal

pub returns : goal.returns
returns c =
    let n = c.args.size in
    let s = state_of c.self.inside in
    let most = c.self.invariant.usage-most in
    rw (← c.self.view_is) (leb-same n (available_memory_of s) (s.memory_usage_bytes + n) s.settings.max_memory_usage_bytes (λ h. omega (arith, most)) (λ h. omega (arith, most)))

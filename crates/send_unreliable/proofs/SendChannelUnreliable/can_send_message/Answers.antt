-- `SendChannelUnreliable::can_send_message` meets its contract: nothing is added, so no size is too large. Assumes nothing.
use Prim.Native.Nat.{◌+◌, ◌-◌}
use native.Mathlib.Omega.{arith}
use Rattle.words.proofs.Tests.{leb-same}
use Rattle.send_unreliable.specs.Fields.{state_of}
use Rattle.send_unreliable.proofs.SendChannelUnreliable.can_send_message.Goals as goal

pub returns : goal.returns
returns c =
    let n = c.args.size_bytes in
    let s = state_of c.self.inside in
    let most = c.self.invariant.usage-most in
    rw (← c.self.view_is)
    (leb-same n (s.settings.max_memory_usage_bytes - s.memory_usage_bytes) (s.memory_usage_bytes + n) s.settings.max_memory_usage_bytes (λ h. omega (arith, most)) (λ h. omega (arith, most)))

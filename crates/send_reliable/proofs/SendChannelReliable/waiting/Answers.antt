-- `SendChannelReliable::waiting` meets its contract. Assumes nothing.
use mathlib.Core.Path.{sym, subst}
use Rattle.std.specs.Prelude.{Ok}
use Rattle.send_reliable.specs.Fields.{state_of}
use Rattle.send_reliable.specs.declared.SendChannelReliable.{SendChannelReliable}
use Rattle.send_reliable.specs.QueueSteps.{found_of, Waits}
use Rattle.send_reliable.proofs.Valid.{count_most}
use Rattle.send_reliable.proofs.Acking.{bad-number, waits}
use Rattle.send_reliable.proofs.SendChannelReliable.waiting.Goals as goal

pub returns-then-id-ge-LIMIT : goal.returns-then-id-ge-LIMIT
returns-then-id-ge-LIMIT c = bad-number _ _ c.if-id-ge-LIMIT.true

pub shared_ref_as_front-find : goal.shared_ref_as_front-find
shared_ref_as_front-find c = count_most _ c.self.invariant

pub returns : goal.returns
unfolding found_of
returns c =
    subst (λ (s : SendChannelReliable). Waits s c.args.id.0 (Ok c.find.result)) c.self.view_is
    (waits (state_of c.self.inside) c.self.invariant _ c.if-id-ge-LIMIT.false _ (sym c.find.ensures))

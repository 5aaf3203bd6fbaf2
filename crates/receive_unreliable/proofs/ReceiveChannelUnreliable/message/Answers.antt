-- `ReceiveChannelUnreliable::message` meets its contract: what a look shows lies within its store. Assumes nothing.
use mathlib.Core.Path.{◌≡◌, sym, ap, ◌∙◌, subst}
use lib.ListN.{length}
use Rattle.std.specs.Prelude.{Option, Ok}
use Rattle.channel.specs.declared.Store.{Store}
use Rattle.receive_unreliable.specs.Receive.{message, look_of, look_at}
use Rattle.receive_unreliable.specs.declared.Message.{Message}
use Rattle.receive_unreliable.proofs.Spots.{Within, look-within}
use Rattle.receive_unreliable.proofs.ReceiveChannelUnreliable.message.Goals as goal
use Rattle.receive_unreliable.proofs.ReceiveChannelUnreliable.message.Goals.{In-Ok-Some}

-- what the look shows
shown : (c : In-Ok-Some) → (let a = c.args in let m = c.in-Ok-Some.m in look_at a.self (length a.small.now) (length a.lanes.now) ≡ message m.store m.place m.len)
shown c = sym c.look.ensures ∙ ap look_of c.in-Ok-Some.is ∙ ap (λ (o : Option Message). look_of (Ok o)) c.in-Ok-Some.field-0-is

pub part-requires : goal.part-requires
unfolding Within
part-requires c =
    let m = c.in-Ok-Some.m in
    subst (Within _ _) (shown (goal.at.part-requires c).In-Ok-Some ∙ ap (λ (x : Store). message x m.place m.len) c.in-Small.is) (look-within _ (rw c.self.view_is at c.self.invariant) _ _)

pub part-requires-in-Lanes : goal.part-requires-in-Lanes
unfolding Within
part-requires-in-Lanes c =
    let m = c.in-Ok-Some.m in
    subst (Within _ _) (shown (goal.at.part-requires-in-Lanes c).In-Ok-Some ∙ ap (λ (x : Store). message x m.place m.len) c.in-Lanes.is) (look-within _ (rw c.self.view_is at c.self.invariant) _ _)

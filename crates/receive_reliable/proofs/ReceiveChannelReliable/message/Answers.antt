-- `ReceiveChannelReliable::message` meets its contract: what a look shows lies within its store. Assumes nothing.
use mathlib.Core.Path.{◌≡◌, sym, ap, ◌∙◌}
use lib.ListN.{length}
use Rattle.std.specs.Prelude.{Option, Ok}
use Rattle.channel.specs.declared.Store.{Store}
use Rattle.channel.specs.declared.Store.TheVariants.{Small, Lanes}
use Rattle.receive_reliable.specs.Receive.{message, look_of, look_at}
use Rattle.receive_reliable.specs.declared.Message.{Message}
use Rattle.receive_reliable.proofs.Spots.{look-within}
use Rattle.receive_reliable.proofs.ReceiveChannelReliable.message.Goals as goal
use Rattle.receive_reliable.proofs.ReceiveChannelReliable.message.Goals.{In-Ok-Some}

-- what the look shows
shown : (c : In-Ok-Some) → (let a = c.args in let m = c.in-Ok-Some.m in look_at a.self (length a.small.now) (length a.lanes.now) ≡ message m.id.0 m.store m.place m.len)
shown c = sym c.look.ensures ∙ ap look_of c.in-Ok-Some.is ∙ ap (λ (o : Option Message). look_of (Ok o)) c.in-Ok-Some.field-0-is

pub part-requires : goal.part-requires
part-requires c =
    let m = c.in-Ok-Some.m in
    look-within _ _ _ (rw c.self.view_is at c.self.invariant) m.id.0 m.place m.len Small (shown (goal.at.part-requires c).In-Ok-Some ∙ ap (λ (x : Store). message m.id.0 x m.place m.len) c.in-Small.is)

pub part-requires-in-Lanes : goal.part-requires-in-Lanes
part-requires-in-Lanes c =
    let m = c.in-Ok-Some.m in
    look-within _ _ _ (rw c.self.view_is at c.self.invariant) m.id.0 m.place m.len Lanes (shown (goal.at.part-requires-in-Lanes c).In-Ok-Some ∙ ap (λ (x : Store). message m.id.0 x m.place m.len) c.in-Lanes.is)

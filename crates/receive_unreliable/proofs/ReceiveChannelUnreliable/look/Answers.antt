-- `ReceiveChannelUnreliable::look` meets its contract: it shows the first of the queue. Assumes nothing.
use mathlib.Core.Path.{◌≡◌, sym, ap, ◌∙◌}
use Rattle.std.specs.Prelude.{Some}
use Rattle.receive_unreliable.specs.Receive.{next_place}
use Rattle.receive_unreliable.specs.Steps.{held_of}
use Rattle.receive_unreliable.specs.Fields.{state_of}
use Rattle.receive_unreliable.proofs.Gives.{look-refused, look-shows}
use Rattle.receive_unreliable.proofs.ReceiveChannelUnreliable.look.Goals as goal
use Rattle.receive_unreliable.proofs.ReceiveChannelUnreliable.look.Goals.{In-Some}

-- where the message is held
held : (c : In-Some) → held_of (Some (c.in-Some.store, c.in-Some.i)) ≡ next_place c.args.self
held c = sym (ap held_of c.in-Some.is) ∙ c.next.ensures

pub shown-requires : goal.shown-requires
shown-requires c = held (goal.at.shown-requires c).In-Some

pub returns-then-not-stores_hold : goal.returns-then-not-stores_hold
returns-then-not-stores_hold c = rw (← c.self.view_is) (look-refused (state_of c.self.inside) _ _ (sym c.stores_hold.ensures ∙ c.if-not-stores_hold.true))

pub returns-in_default : goal.returns-in_default
returns-in_default c =
    rw (← c.self.view_is)
    (look-shows (state_of c.self.inside) _ _ (sym c.stores_hold.ensures ∙ c.if-not-stores_hold.false) _ (rw (← c.self.view_is) at (sym (ap held_of c.in_default.is) ∙ c.next.ensures)))

pub returns : goal.returns
returns c =
    rw (← c.self.view_is)
    ((rw (← c.self.view_is) at c.shown.ensures)
    ∙ look-shows (state_of c.self.inside) _ _ (sym c.stores_hold.ensures ∙ c.if-not-stores_hold.false) _ (rw (← c.self.view_is) at (held (goal.at.returns c).In-Some)))

-- `ReceiveChannelReliable::look` meets its contract: it shows what is held under the oldest pending id. Assumes nothing.
use mathlib.Core.Path.{refl, sym, ◌∙◌}
use Rattle.receive_reliable.specs.Fields.{state_of}
use Rattle.receive_reliable.proofs.Spots.{at-place, waiting-nothing, waiting-shown, look-refused, look-shows}
use Rattle.receive_reliable.proofs.ReceiveChannelReliable.look.Goals as goal

pub returns-then-not-stores_hold : goal.returns-then-not-stores_hold
returns-then-not-stores_hold c = rw (← c.self.view_is) (look-refused (state_of c.self.inside) _ _ (sym c.stores_hold.ensures ∙ c.if-not-stores_hold.true))

pub returns-in_default : goal.returns-in_default
returns-in_default c =
    rw (← c.self.view_is)
    (sym (waiting-nothing (state_of c.self.inside) _ refl (rw (← c.self.view_is) at (sym c.waiting.ensures ∙ c.in_default.is)))
    ∙ look-shows (state_of c.self.inside) _ _ (sym c.stores_hold.ensures ∙ c.if-not-stores_hold.false))

pub returns : goal.returns
returns c =
    rw (← c.self.view_is)
    ((rw (← c.self.view_is) at c.shown.ensures)
    ∙ sym (waiting-shown (state_of c.self.inside) _ _ (at-place _ _ _ (rw (← c.self.view_is) at (sym c.waiting.ensures ∙ c.in-Some.is))))
    ∙ look-shows (state_of c.self.inside) _ _ (sym c.stores_hold.ensures ∙ c.if-not-stores_hold.false))

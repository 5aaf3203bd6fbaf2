-- `ReceiveChannelReliable::entry` meets its contract: each answer by the tests that led to it. Assumes nothing.
use mathlib.Core.Path.{◌≡◌, sym, ◌∙◌}
use mathlib.Core.Bool.{true, false}
use Rattle.std.specs.Prelude.{Some}
use Rattle.channel.specs.Settings.{stores_hold_of}
use Rattle.receive_reliable.specs.Steps.{held_in}
use Rattle.receive_reliable.specs.Fields.{state_of}
use Rattle.receive_reliable.specs.declared.Held.TheVariants.{At}
use Rattle.receive_reliable.proofs.Answers.{bad-store, bad-number, old_id, new-id}
use Rattle.receive_reliable.proofs.Spots.{held-ignored, absent, at-place}
use Rattle.receive_reliable.proofs.ReceiveChannelReliable.entry.Goals as goal
use Rattle.receive_reliable.proofs.ReceiveChannelReliable.entry.Goals.{Else-not-stores_hold}

-- the stores hold
fine : (c : Else-not-stores_hold) → (let a = c.args in stores_hold_of c.self.inside.settings a.small a.lane ≡ true)
fine c = sym c.stores_hold.ensures ∙ c.if-not-stores_hold.false

-- where the message is
here : (c : Else-not-stores_hold) → (let a = c.args in a.held ≡ held_in (state_of c.self.inside) a.id)
here c = rw (← c.self.view_is) at c.requires

pub returns-then-not-stores_hold : goal.returns-then-not-stores_hold
returns-then-not-stores_hold c = rw (← c.self.view_is) (bad-store (state_of c.self.inside) _ _ _ (sym c.stores_hold.ensures ∙ c.if-not-stores_hold.true))

pub returns-then-id-ge-LIMIT : goal.returns-then-id-ge-LIMIT
returns-then-id-ge-LIMIT c = rw (← c.self.view_is) (bad-number (state_of c.self.inside) _ _ _ (fine (goal.at.returns-then-id-ge-LIMIT c).Else-not-stores_hold) c.if-id-ge-LIMIT.true)

pub returns-then-id-self : goal.returns-then-id-self
returns-then-id-self c = rw (← c.self.view_is) (old_id (state_of c.self.inside) _ _ _ (fine (goal.at.returns-then-id-self c).Else-not-stores_hold) c.if-id-ge-LIMIT.false c.if-id-self.true)

pub returns-in-Some : goal.returns-in-Some
returns-in-Some c =
    let e : held_in (state_of c.self.inside) c.args.id ≡ Some (At c.in-Some.field-0.0 c.in-Some.field-0.1) = sym (here (goal.at.returns-in-Some c).Else-not-stores_hold) ∙ at-place c.args.held _ _ (sym c.whole.ensures ∙ c.in-Some.is) in
    rw (← c.self.view_is)
    (new-id (state_of c.self.inside) _ _ _ (fine (goal.at.returns-in-Some c).Else-not-stores_hold) c.if-id-ge-LIMIT.false c.if-id-self.false true (held-ignored (state_of c.self.inside) c.args.id _ _ e))

pub returns : goal.returns
returns c =
    rw (← c.self.view_is)
    (new-id (state_of c.self.inside) _ _ _ (fine (goal.at.returns c).Else-not-stores_hold) c.if-id-ge-LIMIT.false c.if-id-self.false false
    (absent (state_of c.self.inside) c.args.id c.args.held (sym (here (goal.at.returns c).Else-not-stores_hold)) (sym c.whole.ensures ∙ c.in_default.is)).1)

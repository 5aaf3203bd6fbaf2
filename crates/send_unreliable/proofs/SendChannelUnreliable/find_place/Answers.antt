-- `SendChannelUnreliable::find_place` meets its contract: each answer by the tests that led to it. Assumes nothing.
use mathlib.Core.Path.{◌≡◌, sym, ◌∙◌}
use mathlib.Core.Bool.{true}
use Rattle.channel.specs.Settings.{stores_hold_of}
use Rattle.send_unreliable.specs.Fields.{state_of}
use Rattle.send_unreliable.proofs.Spots.{no_store, too_long, no-memory, to_cell, no_cell, to-lane, no-lane}
use Rattle.send_unreliable.proofs.SendChannelUnreliable.find_place.Goals as goal
use Rattle.send_unreliable.proofs.SendChannelUnreliable.find_place.Goals.{Else-not-stores_hold}

-- the stores are long enough
held : (c : Else-not-stores_hold) → (let a = c.args in stores_hold_of c.self.inside.settings a.small a.lanes ≡ true)
held c = sym c.stores_hold.ensures ∙ c.if-not-stores_hold.false

pub returns-then-not-stores_hold : goal.returns-then-not-stores_hold
returns-then-not-stores_hold c = rw (← c.self.view_is) (no_store (state_of c.self.inside) _ _ _ (sym c.stores_hold.ensures ∙ c.if-not-stores_hold.true))

pub returns-then-settings-n : goal.returns-then-settings-n
returns-then-settings-n c = rw (← c.self.view_is) (too_long (state_of c.self.inside) _ _ _ (held (goal.at.returns-then-settings-n c).Else-not-stores_hold) c.if-settings-n.true)

pub returns-then-settings-self : goal.returns-then-settings-self
returns-then-settings-self c = rw (← c.self.view_is) (no-memory (state_of c.self.inside) _ _ _ (held (goal.at.returns-then-settings-self c).Else-not-stores_hold) c.if-settings-n.false c.if-settings-self.true)

pub returns-then-self-settings : goal.returns-then-self-settings
returns-then-self-settings c = rw (← c.self.view_is) (to_cell (state_of c.self.inside) _ _ _ (held (goal.at.returns-then-self-settings c).Else-not-stores_hold) c.if-settings-n.false c.if-settings-self.false c.if-n-le-SLICE_SIZE.true c.if-self-settings.true)

pub returns-then-n-le-SLICE_SIZE : goal.returns-then-n-le-SLICE_SIZE
returns-then-n-le-SLICE_SIZE c = rw (← c.self.view_is) (no_cell (state_of c.self.inside) _ _ _ (held (goal.at.returns-then-n-le-SLICE_SIZE c).Else-not-stores_hold) c.if-settings-n.false c.if-settings-self.false c.if-n-le-SLICE_SIZE.true c.if-self-settings.false)

pub returns-then-self-settings-2 : goal.returns-then-self-settings-2
returns-then-self-settings-2 c = rw (← c.self.view_is) (to-lane (state_of c.self.inside) _ _ _ (held (goal.at.returns-then-self-settings-2 c).Else-not-stores_hold) c.if-settings-n.false c.if-settings-self.false c.if-n-le-SLICE_SIZE.false c.if-self-settings-2.true)

pub returns : goal.returns
returns c = rw (← c.self.view_is) (no-lane (state_of c.self.inside) _ _ _ (held (goal.at.returns c).Else-not-stores_hold) c.if-settings-n.false c.if-settings-self.false c.if-n-le-SLICE_SIZE.false c.if-self-settings-2.false)

-- `ReceiveChannelUnreliable::message_answer` meets its contract: each answer by the tests that led to it. Assumes nothing.
use mathlib.Core.Path.{◌≡◌, sym, ◌∙◌}
use mathlib.Core.Bool.{true, false}
use borrow.Author.Tests.{lt-ltb, le-ltb, le-leb, lt-leb}
use Rattle.words.specs.Lists.{lowest_free_of}
use Rattle.channel.specs.Settings.{stores_hold_of}
use Rattle.receive_unreliable.specs.Receive.{message_refusal, message_spot}
use Rattle.receive_unreliable.proofs.ReceiveChannelUnreliable.message_answer.Goals as goal
use Rattle.receive_unreliable.proofs.ReceiveChannelUnreliable.message_answer.Goals.{Else-not-stores_hold}

-- the stores hold
fine : (c : Else-not-stores_hold) → (let a = c.args in stores_hold_of c.self.inside.settings a.small a.lane ≡ true)
fine c = sym c.stores_hold.ensures ∙ c.if-not-stores_hold.false

-- the lowest free cell
here : (c : Else-not-stores_hold) → c.args.free ≡ lowest_free_of c.self.inside.cells c.self.inside.settings.slots
here c = rw (← c.self.view_is) at c.requires

pub returns-then-n-gt-SLICE_SIZE : goal.returns-then-n-gt-SLICE_SIZE
unfolding message_spot message_refusal
returns-then-n-gt-SLICE_SIZE c = rw (← c.self.view_is, fine (goal.at.returns-then-n-gt-SLICE_SIZE c).Else-not-stores_hold, lt-ltb _ _ c.if-n-gt-SLICE_SIZE.true)

pub returns-then-settings-self : goal.returns-then-settings-self
unfolding message_spot message_refusal
returns-then-settings-self c = rw (← c.self.view_is, fine (goal.at.returns-then-settings-self c).Else-not-stores_hold, le-ltb _ _ c.if-n-gt-SLICE_SIZE.false, lt-ltb _ _ c.if-settings-self.true)

pub returns-then-settings-free : goal.returns-then-settings-free
unfolding message_spot message_refusal
returns-then-settings-free c = rw (← c.self.view_is, fine (goal.at.returns-then-settings-free c).Else-not-stores_hold, le-ltb _ _ c.if-n-gt-SLICE_SIZE.false, le-ltb _ _ c.if-settings-self.false, ← here (goal.at.returns-then-settings-free c).Else-not-stores_hold, le-leb _ _ c.if-settings-free.true)

pub returns : goal.returns
unfolding message_spot message_refusal
returns c = rw (← c.self.view_is, fine (goal.at.returns c).Else-not-stores_hold, le-ltb _ _ c.if-n-gt-SLICE_SIZE.false, le-ltb _ _ c.if-settings-self.false, ← here (goal.at.returns c).Else-not-stores_hold, lt-leb _ _ c.if-settings-free.false)

pub returns-then-not-stores_hold : goal.returns-then-not-stores_hold
unfolding message_spot message_refusal
returns-then-not-stores_hold c =
    let a = c.args in
    let short : stores_hold_of c.self.inside.settings a.small a.lane ≡ false = sym c.stores_hold.ensures ∙ c.if-not-stores_hold.true in
    rw (← c.self.view_is, short)

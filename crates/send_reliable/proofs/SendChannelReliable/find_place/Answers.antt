-- `SendChannelReliable::find_place` meets its contract: each answer by the tests that led to it. Assumes nothing.
use mathlib.Core.Path.{◌≡◌, sym, ◌∙◌}
use mathlib.Core.Bool.{true}
use native.Mathlib.Omega.{arith}
use borrow.Author.Tests.{lt-ltb, le-ltb, le-leb, lt-leb}
use Rattle.channel.specs.Settings.{stores_hold_of}
use Rattle.send_reliable.specs.Fields.{state_of}
use Rattle.send_reliable.specs.Queue.{free_spot}
use Rattle.send_reliable.proofs.Queueing.{bad-store, no_number, too_long, no-memory, goes}
use Rattle.send_reliable.proofs.SendChannelReliable.find_place.Goals as goal
use Rattle.send_reliable.proofs.SendChannelReliable.find_place.Goals.{Else-not-stores_hold}

-- the stores hold
fine : (c : Else-not-stores_hold) → (let a = c.args in stores_hold_of c.self.inside.settings a.small a.lanes ≡ true)
fine c = sym c.stores_hold.ensures ∙ c.if-not-stores_hold.false

pub lowest_free-cell-requires : goal.lowest_free-cell-requires
lowest_free-cell-requires c = let v = c.self.invariant in omega (arith, v.settings.slots-most, v.cells-long)

pub lowest_free-lane-requires : goal.lowest_free-lane-requires
lowest_free-lane-requires c = let v = c.self.invariant in omega (arith, v.settings.lanes-most, v.lanes-long)

pub returns-then-not-stores_hold : goal.returns-then-not-stores_hold
returns-then-not-stores_hold c = rw (← c.self.view_is) (bad-store (state_of c.self.inside) _ _ _ (sym c.stores_hold.ensures ∙ c.if-not-stores_hold.true))

pub returns-then-self-ge-LIMIT : goal.returns-then-self-ge-LIMIT
returns-then-self-ge-LIMIT c = rw (← c.self.view_is) (no_number (state_of c.self.inside) _ _ _ (fine (goal.at.returns-then-self-ge-LIMIT c).Else-not-stores_hold) c.if-self-ge-LIMIT.true)

pub returns-then-settings-n : goal.returns-then-settings-n
returns-then-settings-n c = rw (← c.self.view_is) (too_long (state_of c.self.inside) _ _ _ (fine (goal.at.returns-then-settings-n c).Else-not-stores_hold) c.if-self-ge-LIMIT.false c.if-settings-n.true)

pub returns-then-settings-self : goal.returns-then-settings-self
returns-then-settings-self c = rw (← c.self.view_is) (no-memory (state_of c.self.inside) _ _ _ (fine (goal.at.returns-then-settings-self c).Else-not-stores_hold) c.if-self-ge-LIMIT.false c.if-settings-n.false c.if-settings-self.true)

pub returns-then-cell-settings : goal.returns-then-cell-settings
unfolding free_spot
returns-then-cell-settings c =
    let a = c.args in
    let f = goes (state_of c.self.inside) a.n a.small a.lanes (fine (goal.at.returns-then-cell-settings c).Else-not-stores_hold) c.if-self-ge-LIMIT.false c.if-settings-n.false c.if-settings-self.false in
    rw (← c.self.view_is) (rw (sym c.lowest_free-cell.ensures, le-leb _ _ c.if-n-le-SLICE_SIZE.true, lt-ltb _ _ c.if-cell-settings.true) at f)

pub returns-then-n-le-SLICE_SIZE : goal.returns-then-n-le-SLICE_SIZE
unfolding free_spot
returns-then-n-le-SLICE_SIZE c =
    let a = c.args in
    let f = goes (state_of c.self.inside) a.n a.small a.lanes (fine (goal.at.returns-then-n-le-SLICE_SIZE c).Else-not-stores_hold) c.if-self-ge-LIMIT.false c.if-settings-n.false c.if-settings-self.false in
    rw (← c.self.view_is) (rw (sym c.lowest_free-cell.ensures, le-leb _ _ c.if-n-le-SLICE_SIZE.true, le-ltb _ _ c.if-cell-settings.false) at f)

pub returns-then-lane-settings : goal.returns-then-lane-settings
unfolding free_spot
returns-then-lane-settings c =
    let a = c.args in
    let f = goes (state_of c.self.inside) a.n a.small a.lanes (fine (goal.at.returns-then-lane-settings c).Else-not-stores_hold) c.if-self-ge-LIMIT.false c.if-settings-n.false c.if-settings-self.false in
    rw (← c.self.view_is) (rw (sym c.lowest_free-lane.ensures, lt-leb _ _ c.if-n-le-SLICE_SIZE.false, lt-ltb _ _ c.if-lane-settings.true) at f)

pub returns : goal.returns
unfolding free_spot
returns c =
    let a = c.args in
    let f = goes (state_of c.self.inside) a.n a.small a.lanes (fine (goal.at.returns c).Else-not-stores_hold) c.if-self-ge-LIMIT.false c.if-settings-n.false c.if-settings-self.false in
    rw (← c.self.view_is) (rw (sym c.lowest_free-lane.ensures, lt-leb _ _ c.if-n-le-SLICE_SIZE.false, le-ltb _ _ c.if-lane-settings.false) at f)

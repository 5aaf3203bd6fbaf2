-- `ReceiveChannelReliable::receive_message` meets its contract: what is held is shown and its place freed. Assumes nothing.
use Prim.Native.Nat.{◌<◌}
use mathlib.Core.Path.{◌≡◌, refl, sym, ap, ◌∙◌}
use native.Mathlib.Omega.{arith}
use Rattle.std.specs.Prelude.{Ok, Some}
use Rattle.words.specs.Sizes.{SLOTS, LANES}
use Rattle.channel.specs.declared.Store.{Store}
use Rattle.channel.specs.declared.Store.TheVariants.{Small, Lanes}
use Rattle.receive_reliable.specs.Receive.{look_of, without_cell, without_lane}
use Rattle.receive_reliable.specs.Steps.{held_in, shown_at}
use Rattle.receive_reliable.specs.Fields.{state_of}
use Rattle.receive_reliable.specs.declared.Held.TheVariants.{At}
use Rattle.receive_reliable.proofs.Valid.{without-cell-valid, without-lane-valid}
use Rattle.receive_reliable.proofs.Spots.{small-held, lane-held, at-place}
use Rattle.receive_reliable.proofs.Gives.{shown-len, shown-used, took-nothing, took-small, took-lanes}
use Rattle.receive_reliable.proofs.ReceiveChannelReliable.receive_message.Goals as goal
use Rattle.receive_reliable.proofs.ReceiveChannelReliable.receive_message.Goals.{After-shown-message, in-Small, in-Lanes}

-- where the message is held
located : (c : After-shown-message) → (store : Store) → c.in-Some.store ≡ store → (let s = state_of c.self.inside in held_in s s.oldest_pending_message_id ≡ Some (At store c.in-Some.i))
located c store e = at-place _ _ _ (rw (← c.self.view_is) at (sym c.waiting.ensures ∙ c.in-Some.is)) ∙ ap (λ (x : Store). Some (At x c.in-Some.i)) e

-- what is shown of it
shown : (c : After-shown-message) → (store : Store) → c.in-Some.store ≡ store → look_of (Ok (Some c.shown-message.result)) ≡ shown_at (state_of c.self.inside) store c.in-Some.i
shown c store e = (rw (← c.self.view_is) at c.shown-message.ensures) ∙ ap (λ (x : Store). shown_at (state_of c.self.inside) x c.in-Some.i) e

cell-low : (c : After-shown-message) → c.in-Some.store ≡ Small → c.in-Some.i < SLOTS
cell-low c e = let v = c.self.invariant in omega (arith, (small-held _ _ v _ (located c Small e)).0, v.settings.slots-most)

lane_low : (c : After-shown-message) → c.in-Some.store ≡ Lanes → c.in-Some.i < LANES
lane_low c e = let v = c.self.invariant in omega (arith, (lane-held _ _ v _ (located c Lanes e)).0, v.settings.lanes-most)

pub returns-in_default : goal.returns-in_default
returns-in_default c = took-nothing _ (rw c.self.view_is at c.self.invariant) _ refl (sym c.waiting.ensures ∙ c.in_default.is)

pub overflow_sub-self : goal.overflow_sub-self
overflow_sub-self c =
    let i = (goal.at.overflow_sub-self c).After-shown-message in
    shown-used _ c.self.invariant _ _ _ (located i _ refl) (shown i _ refl)

pub bounds-self-inside-i : goal.bounds-self-inside-i
bounds-self-inside-i c = cell-low (goal.at.bounds-self-inside-i c).After-shown-message c.in-Small.is

pub bounds-self-inside-i-in-Small : goal.bounds-self-inside-i-in-Small
bounds-self-inside-i-in-Small c = cell-low (goal.at.bounds-self-inside-i-in-Small c).After-shown-message c.in-Small.is

pub bounds-self-inside-i-in-Small-2 : goal.bounds-self-inside-i-in-Small-2
bounds-self-inside-i-in-Small-2 c = cell-low (goal.at.bounds-self-inside-i-in-Small-2 c).After-shown-message c.in-Small.is

pub invariant_of-self : goal.invariant_of-self
unfolding without_cell
invariant_of-self c =
    let i = (goal.at.invariant_of-self c).After-shown-message in
    rw (shown-len (state_of c.self.inside) _ Small _ (shown i Small c.in-Small.is))
    (without-cell-valid _ c.self.invariant _ (cell-low i c.in-Small.is) (small-held _ _ c.self.invariant _ (located i Small c.in-Small.is)).1)

pub bounds-self-inside-i-in-Lanes : goal.bounds-self-inside-i-in-Lanes
bounds-self-inside-i-in-Lanes c = lane_low (goal.at.bounds-self-inside-i-in-Lanes c).After-shown-message c.in-Lanes.is

pub bounds-self-inside-i-in-Lanes-2 : goal.bounds-self-inside-i-in-Lanes-2
bounds-self-inside-i-in-Lanes-2 c = lane_low (goal.at.bounds-self-inside-i-in-Lanes-2 c).After-shown-message c.in-Lanes.is

pub bounds-self-inside-i-in-Lanes-3 : goal.bounds-self-inside-i-in-Lanes-3
bounds-self-inside-i-in-Lanes-3 c = lane_low (goal.at.bounds-self-inside-i-in-Lanes-3 c).After-shown-message c.in-Lanes.is

pub bounds-self-inside-i-in-Lanes-4 : goal.bounds-self-inside-i-in-Lanes-4
bounds-self-inside-i-in-Lanes-4 c = lane_low (goal.at.bounds-self-inside-i-in-Lanes-4 c).After-shown-message c.in-Lanes.is

pub invariant_of-self-in-Lanes : goal.invariant_of-self-in-Lanes
unfolding without_lane
invariant_of-self-in-Lanes c =
    let i = (goal.at.invariant_of-self-in-Lanes c).After-shown-message in
    let h = lane-held _ _ c.self.invariant _ (located i Lanes c.in-Lanes.is) in
    rw (shown-len (state_of c.self.inside) _ Lanes _ (shown i Lanes c.in-Lanes.is)) (without-lane-valid _ c.self.invariant _ (lane_low i c.in-Lanes.is) h.2 h.1)

pub returns : goal.returns
unfolding without_cell without_lane
returns c =
    let i = (goal.at.returns c).After-shown-message in
    let s = state_of c.self.inside in
    elim c.match-store.branch [
      | in-Small w ↦
          rw (w.self-is, ← c.self.view_is)
          (took-small s c.self.invariant _ _ _ (located i Small w.in-Small.is) (shown i Small w.in-Small.is) (rw (shown-len s _ Small _ (shown i Small w.in-Small.is))))
      | in-Lanes w ↦
          rw (w.self-is, ← c.self.view_is)
          (took-lanes s c.self.invariant _ _ _ (located i Lanes w.in-Lanes.is) (shown i Lanes w.in-Lanes.is) (rw (shown-len s _ Lanes _ (shown i Lanes w.in-Lanes.is))))
    ]

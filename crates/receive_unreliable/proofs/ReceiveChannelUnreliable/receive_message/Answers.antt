-- `ReceiveChannelUnreliable::receive_message` meets its contract: the first of the queue is shown and its place freed. Assumes nothing.
use Prim.Native.Nat.{◌<◌}
use mathlib.Core.Path.{◌≡◌, refl, sym, ap, ◌∙◌}
use native.Mathlib.Omega.{arith}
use Rattle.std.specs.Prelude.{Ok, Some}
use Rattle.words.specs.Sizes.{SLOTS, LANES}
use Rattle.channel.specs.declared.Store.{Store}
use Rattle.channel.specs.declared.Store.TheVariants.{Small, Lanes}
use Rattle.receive_unreliable.specs.Receive.{at-cell, at-lane, next_place, shown_at, look_of, without_cell, without_lane}
use Rattle.receive_unreliable.specs.Steps.{held_of}
use Rattle.receive_unreliable.specs.Fields.{state_of}
use Rattle.receive_unreliable.proofs.Spots.{Lies, cell_lies, lane_lies}
use Rattle.receive_unreliable.proofs.Valid.{count_most, without-cell-valid, without-lane-valid}
use Rattle.receive_unreliable.proofs.Gives.{some-waits, shown-len, shown-used, took-nothing, took-small, took-lanes}
use Rattle.receive_unreliable.proofs.ReceiveChannelUnreliable.receive_message.Goals as goal
use Rattle.receive_unreliable.proofs.ReceiveChannelUnreliable.receive_message.Goals.{After-shown-message, in-Small, in-Lanes}

-- where the message is held
held : (c : After-shown-message) → (store : Store) → c.in-Some.store ≡ store → held_of (Some (store, c.in-Some.i)) ≡ next_place (state_of c.self.inside)
held c store e = ap (λ (x : Store). held_of (Some (x, c.in-Some.i))) (sym e) ∙ (rw (← c.self.view_is) at (sym (ap held_of c.in-Some.is) ∙ c.next.ensures))

-- what is shown of it
shown : (c : After-shown-message) → (store : Store) → c.in-Some.store ≡ store → look_of (Ok (Some c.shown-message.result)) ≡ shown_at (state_of c.self.inside) (held_of (Some (store, c.in-Some.i)))
shown c store e = (rw (← c.self.view_is) at c.shown-message.ensures) ∙ ap (λ (x : Store). shown_at (state_of c.self.inside) (held_of (Some (x, c.in-Some.i)))) e

-- something waits
some : (c : After-shown-message) → 0 < c.self.inside.count
some c = some-waits (state_of c.self.inside) c.self.invariant c.in-Some.store c.in-Some.i (held c _ refl)

cell-low : (c : After-shown-message) → c.in-Some.store ≡ Small → c.in-Some.i < SLOTS
unfolding Lies
cell-low c e = let v = c.self.invariant in omega (arith, (cell_lies _ v _ (held c Small e)).2, v.settings.slots-most)

lane_low : (c : After-shown-message) → c.in-Some.store ≡ Lanes → c.in-Some.i < LANES
unfolding Lies
lane_low c e = let v = c.self.invariant in omega (arith, (lane_lies _ v _ (held c Lanes e)).2, v.settings.lanes-most)

pub returns-in_default : goal.returns-in_default
returns-in_default c = took-nothing _ (rw c.self.view_is at c.self.invariant) (sym (ap held_of c.in_default.is) ∙ c.next.ensures)

pub close_up-requires : goal.close_up-requires
close_up-requires c = let v = c.self.invariant in (some (goal.at.close_up-requires c).After-shown-message, count_most _ v, v.queue.long, v.queue.past)

pub overflow_sub-self : goal.overflow_sub-self
overflow_sub-self c = some (goal.at.overflow_sub-self c).After-shown-message

pub overflow_sub-self-2 : goal.overflow_sub-self-2
overflow_sub-self-2 c =
    let i = (goal.at.overflow_sub-self-2 c).After-shown-message in
    shown-used (state_of c.self.inside) c.self.invariant _ _ _ (held i _ refl) (shown i _ refl)

pub bounds-self-inside-i : goal.bounds-self-inside-i
bounds-self-inside-i c = cell-low (goal.at.bounds-self-inside-i c).After-shown-message c.in-Small.is

pub bounds-self-inside-i-in-Small : goal.bounds-self-inside-i-in-Small
bounds-self-inside-i-in-Small c = cell-low (goal.at.bounds-self-inside-i-in-Small c).After-shown-message c.in-Small.is

pub invariant_of-self : goal.invariant_of-self
unfolding without_cell Lies
invariant_of-self c =
    let i = (goal.at.invariant_of-self c).After-shown-message in
    let s = state_of c.self.inside in
    let h = cell_lies s c.self.invariant _ (held i Small c.in-Small.is) in
    rw (shown-len s _ (at-cell c.in-Some.i) (shown i Small c.in-Small.is), c.close_up.ensures)
    (without-cell-valid s c.self.invariant _ (cell-low i c.in-Small.is) h.0 h.1 h.3)

pub bounds-self-inside-i-in-Lanes : goal.bounds-self-inside-i-in-Lanes
bounds-self-inside-i-in-Lanes c = lane_low (goal.at.bounds-self-inside-i-in-Lanes c).After-shown-message c.in-Lanes.is

pub bounds-self-inside-i-in-Lanes-2 : goal.bounds-self-inside-i-in-Lanes-2
bounds-self-inside-i-in-Lanes-2 c = lane_low (goal.at.bounds-self-inside-i-in-Lanes-2 c).After-shown-message c.in-Lanes.is

pub invariant_of-self-in-Lanes : goal.invariant_of-self-in-Lanes
unfolding without_lane Lies
invariant_of-self-in-Lanes c =
    let i = (goal.at.invariant_of-self-in-Lanes c).After-shown-message in
    let s = state_of c.self.inside in
    let h = lane_lies s c.self.invariant _ (held i Lanes c.in-Lanes.is) in
    rw (shown-len s _ (at-lane c.in-Some.i) (shown i Lanes c.in-Lanes.is), c.close_up.ensures)
    (without-lane-valid s c.self.invariant _ (lane_low i c.in-Lanes.is) h.0 h.1 h.3 h.4)

pub returns : goal.returns
unfolding without_cell without_lane
returns c =
    let i = (goal.at.returns c).After-shown-message in
    let s = state_of c.self.inside in
    elim c.match-store.branch [
      | in-Small w ↦
          rw (w.self-is, ← c.self.view_is)
          (took-small s c.self.invariant _ _ _ (held i Small w.in-Small.is) (shown i Small w.in-Small.is) (rw (shown-len s _ (at-cell c.in-Some.i) (shown i Small w.in-Small.is), c.close_up.ensures)))
      | in-Lanes w ↦
          rw (w.self-is, ← c.self.view_is)
          (took-lanes s c.self.invariant _ _ _ (held i Lanes w.in-Lanes.is) (shown i Lanes w.in-Lanes.is) (rw (shown-len s _ (at-lane c.in-Some.i) (shown i Lanes w.in-Lanes.is), c.close_up.ensures)))
    ]

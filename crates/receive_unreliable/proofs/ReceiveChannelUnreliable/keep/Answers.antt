-- `ReceiveChannelUnreliable::keep` meets its contract: what is taken off is part of the usage, and a whole one has a row of the queue. Assumes nothing.
use Prim.Native.Nat.{◌<◌}
use mathlib.Core.Path.{◌≡◌, sym, ap, ◌∙◌}
use mathlib.Core.Bool.{true, false}
use native.Mathlib.Omega.{arith}
use Rattle.words.specs.Sizes.{LANES}
use Rattle.slice_constructor.specs.declared.Kept.{Kept}
use Rattle.slice_constructor.specs.Collect.{is_whole}
use Rattle.slice_constructor.proofs.Part.{charge-most}
use Rattle.receive_unreliable.specs.Receive.{ROWS, with_open, with_whole, with_piece}
use Rattle.receive_unreliable.specs.Steps.{Fits}
use Rattle.receive_unreliable.specs.Fields.{state_of}
use Rattle.receive_unreliable.proofs.Valid.{lane-used, lane_low, row-free, open-valid, whole-valid}
use Rattle.receive_unreliable.proofs.ReceiveChannelUnreliable.keep.Goals as goal
use Rattle.receive_unreliable.proofs.ReceiveChannelUnreliable.keep.Goals.{After-self, Then-kept, Else-kept}

-- the constructor may go on in the lane
fine : (c : After-self) → (let a = c.args in Fits (state_of c.self.inside) a.l a.constructor a.current_time)
fine c = rw (← c.self.view_is) at c.requires

low : (c : After-self) → c.args.l < LANES
low c = lane_low _ c.self.invariant _ _ _ (fine c)

row : (c : After-self) → c.self.inside.count < ROWS
row c = row-free _ c.self.invariant _ (low c) (fine c).not-whole

-- whether it is whole
whole : (c : Then-kept) → is_whole c.args.constructor ≡ true
whole c = sym (ap (λ (k : Kept). k.whole) c.keep-kept.ensures) ∙ c.if-kept.true

more : (c : Else-kept) → is_whole c.args.constructor ≡ false
more c = sym (ap (λ (k : Kept). k.whole) c.keep-kept.ensures) ∙ c.if-kept.false

pub offset_bounds-self-inside-l : goal.offset_bounds-self-inside-l
offset_bounds-self-inside-l c = let h = low (goal.at.offset_bounds-self-inside-l c).After-self in omega arith

pub overflow_sub-self : goal.overflow_sub-self
overflow_sub-self c = lane-used _ c.self.invariant _ (low (goal.at.overflow_sub-self c).After-self)

pub overflow_add-self : goal.overflow_add-self
overflow_add-self c = let f = fine (goal.at.overflow_add-self c).After-self in rw c.keep-kept.ensures (omega (arith, f.room, charge-most _ f.valid f.some, c.self.invariant.settings.max-most))

pub bounds-self-inside-last : goal.bounds-self-inside-last
bounds-self-inside-last c = row (goal.at.bounds-self-inside-last c).After-self

pub overflow_add-self-then-kept-2 : goal.overflow_add-self-then-kept-2
overflow_add-self-then-kept-2 c = let h = row (goal.at.overflow_add-self-then-kept-2 c).After-self in omega arith

pub invariant_of-self : goal.invariant_of-self
unfolding with_whole
invariant_of-self c =
    rw (c.keep-kept.ensures, whole (goal.at.invariant_of-self c).Then-kept)
    (whole-valid _ c.self.invariant _ _ _ (fine (goal.at.invariant_of-self c).After-self))

pub invariant_of-self-else-kept : goal.invariant_of-self-else-kept
unfolding with_open
invariant_of-self-else-kept c =
    let e = more (goal.at.invariant_of-self-else-kept c).Else-kept in
    rw (c.keep-kept.ensures, e, c.message_id.ensures)
    (open-valid _ c.self.invariant _ _ _ (fine (goal.at.invariant_of-self-else-kept c).After-self) e)

pub returns-then-kept : goal.returns-then-kept
unfolding with_piece with_whole
returns-then-kept c = rw (c.keep-kept.ensures, whole (goal.at.returns-then-kept c).Then-kept, ← c.self.view_is)

pub returns-else-kept : goal.returns-else-kept
unfolding with_piece with_open
returns-else-kept c = rw (c.keep-kept.ensures, more (goal.at.returns-else-kept c).Else-kept, c.message_id.ensures, ← c.self.view_is)

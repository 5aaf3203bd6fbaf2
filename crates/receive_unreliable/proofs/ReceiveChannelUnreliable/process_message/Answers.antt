-- `ReceiveChannelUnreliable::process_message` meets its contract: the cell has room for the message. Assumes nothing.
use Rattle.std.specs.Prelude.{Ok}
use Rattle.receive_unreliable.specs.declared.Arrival.{Arrival}
use Prim.Native.Nat.{◌<◌}
use mathlib.Core.Path.{◌≡◌, refl, ap, ◌∙◌}
use native.Mathlib.Omega.{arith}
use lib.ListN.{length}
use Rattle.words.specs.Sizes.{SLOTS}
use Rattle.receive_unreliable.specs.Receive.{ROWS, message_spot, cell, with_message_of}
use Rattle.receive_unreliable.specs.Fields.{state_of}
use Rattle.receive_unreliable.proofs.Valid.{cell_row, message-valid}
use Rattle.receive_unreliable.proofs.Spots.{spot-cell}
use Rattle.receive_unreliable.proofs.Gives.{cell-told, message-taken}
use Rattle.receive_unreliable.proofs.ReceiveChannelUnreliable.process_message.Goals as goal
use Rattle.receive_unreliable.proofs.ReceiveChannelUnreliable.process_message.Goals.{In-Ok-Taken}

-- the cell that the message goes to
in_cell : (c : In-Ok-Taken) → (let a = c.args in
    message_spot (state_of c.self.inside) (length a.message.now) (length a.small.now) (length a.lanes.now) ≡ cell c.lowest_free-free.result)
in_cell c = cell-told _ c.message_answer-answer.result _ (rw (← c.self.view_is) at c.message_answer-answer.ensures) (c.in-Ok-Taken.is ∙ ap (λ (x : Arrival). Ok x) (rw c.in-Ok-Taken.is at c.in-Ok-Taken.field-0-is))

cell-low : (c : In-Ok-Taken) → c.lowest_free-free.result < SLOTS
cell-low c = let v = c.self.invariant in omega (arith, (spot-cell _ v _ _ _ _ (in_cell c)).1.low, v.settings.slots-most)

row : (c : In-Ok-Taken) → c.self.inside.count < ROWS
row c = let v = c.self.invariant in cell_row _ v _ _ (spot-cell _ v _ _ _ _ (in_cell c)).1

pub overflow_mul-free : goal.overflow_mul-free
overflow_mul-free c = let low = cell-low (goal.at.overflow_mul-free c).In-Ok-Taken in omega arith

pub write_bytes-requires : goal.write_bytes-requires
write_bytes-requires c = let p = spot-cell _ c.self.invariant _ _ _ _ (in_cell (goal.at.write_bytes-requires c).In-Ok-Taken) in omega (arith, p.0, p.1.low, p.1.short)

pub overflow_add-self : goal.overflow_add-self
overflow_add-self c = let v = c.self.invariant in omega (arith, (spot-cell _ v _ _ _ _ (in_cell (goal.at.overflow_add-self c).In-Ok-Taken)).1.memory, v.settings.max-most)

pub bounds-self-inside-free : goal.bounds-self-inside-free
bounds-self-inside-free c = cell-low (goal.at.bounds-self-inside-free c).In-Ok-Taken

pub overflow_cast-self : goal.overflow_cast-self
overflow_cast-self c = omega (arith, (spot-cell _ c.self.invariant _ _ _ _ (in_cell (goal.at.overflow_cast-self c).In-Ok-Taken)).1.short)

pub offset_bounds-self-inside-free : goal.offset_bounds-self-inside-free
offset_bounds-self-inside-free c = let low = cell-low (goal.at.offset_bounds-self-inside-free c).In-Ok-Taken in omega arith

pub bounds-self-inside-free-2 : goal.bounds-self-inside-free-2
bounds-self-inside-free-2 c = cell-low (goal.at.bounds-self-inside-free-2 c).In-Ok-Taken

pub overflow_cast-self-2 : goal.overflow_cast-self-2
overflow_cast-self-2 c = let low = cell-low (goal.at.overflow_cast-self-2 c).In-Ok-Taken in omega arith

pub bounds-self-inside-last : goal.bounds-self-inside-last
bounds-self-inside-last c = row (goal.at.bounds-self-inside-last c).In-Ok-Taken

pub overflow_add-self-2 : goal.overflow_add-self-2
overflow_add-self-2 c = let h = row (goal.at.overflow_add-self-2 c).In-Ok-Taken in omega arith

pub invariant_of-self : goal.invariant_of-self
unfolding with_message_of
invariant_of-self c = message-valid _ c.self.invariant _ _ (spot-cell _ c.self.invariant _ _ _ _ (in_cell (goal.at.invariant_of-self c).In-Ok-Taken)).1

pub returns : goal.returns
unfolding with_message_of
returns c = rw (← c.self.view_is) (message-taken _ c.self.invariant _ _ _ _ _ _ (in_cell (goal.at.returns c).In-Ok-Taken) c.write_bytes.ensures.1 refl)

pub message_answer-answer-requires : goal.message_answer-answer-requires
message_answer-answer-requires c = rw (← c.self.view_is) c.lowest_free-free.ensures

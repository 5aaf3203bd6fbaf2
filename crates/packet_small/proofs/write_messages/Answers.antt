-- `packet_small::write_messages` meets its contract. The loop's invariant: what is left, written from here, makes the buffer that the whole makes.
-- Assumes nothing.
use native.Mathlib.Omega.{arith}
use Prim.Native.Nat.{◌-◌}
use native.Mathlib.Nat.{sub-zero}
use mathlib.Core.Path.{◌≡◌, refl}
use Rattle.words.specs.Lists.{total}
use Rattle.packet_small.specs.Write.{listed}
use Rattle.packet_small.specs.Steps.{size, record_of}
use Rattle.packet_small.proofs.Wrote.{Turn, turn, turn-wrote, wrote_none, sizes-none}
use Rattle.packet_small.proofs.write_messages.Goals as goal
use Rattle.packet_small.proofs.write_messages.Goals.{After-loop-i, After-message_at-e}

-- what is known of the message of a turn
known : (c : After-message_at-e)
    → let a = c.args in let e = c.message_at-e.result in Turn a.ids a.store.now a.table.now a.count c.loop-i.i (record_of e.id.0 e.place e.len)
known c =
    let l = c.loop-i.invariant in
    turn _ _ _ _ _ _ c.message_at-e.ensures c.loop-i-test.true l.1 l.2

none_left : (c : After-loop-i) → let a = c.args in total (size a.ids) (listed a.table.now c.loop-i.i (a.count - c.loop-i.i)) ≡ 0
none_left c = search sizes-none

pub loop-i-init : goal.loop-i-init
loop-i-init c =
    let p = c.requires in
    (refl, rw sub-zero p.count_value, rw sub-zero p.count_value_2, rw sub-zero refl, rw sub-zero refl)

pub overflow_add-end : goal.overflow_add-end
overflow_add-end c = let k = known (goal.at.overflow_add-end c).After-message_at-e in omega arith

pub slice_bounds-write_message-end : goal.slice_bounds-write_message-end
slice_bounds-write_message-end c = let k = known (goal.at.slice_bounds-write_message-end c).After-message_at-e in omega arith

pub write_message-at-requires : goal.write_message-at-requires
write_message-at-requires c = let k = known (goal.at.write_message-at-requires c).After-message_at-e in record { id_bound = k.id; bytes_len_bound = omega arith; bytes_in_bounds = omega arith }

pub loop-i-preserved : goal.loop-i-preserved
loop-i-preserved c =
    let w = c.write_message-at.ensures in
    let k = known (goal.at.loop-i-preserved c).After-message_at-e in
    (omega arith, k.all-stored, k.all-sayable, omega arith, turn-wrote _ _ _ _ _ _ _ _ c.message_at-e.ensures c.loop-i-test.true w.1 w.0 c.loop-i.invariant.4)

pub returns : goal.returns
returns c = let z = none_left (goal.at.returns c).After-loop-i in (omega arith, search wrote_none)

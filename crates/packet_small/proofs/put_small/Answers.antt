-- `packet_small::put_small` meets its contract: the tests that led to each `return` say which case of `put_small_of` holds. Assumes nothing.
use native.Mathlib.Omega.{arith}
use Prim.Native.Nat.{◌+◌, ◌<◌}
use mathlib.Core.Path.{refl, sym}
use borrow.Author.Tests.{leb-true, leb-false}
use lib.ListN.{length}
use Rattle.words.specs.Lists.{total}
use Rattle.packet_small.specs.Write.{listed}
use Rattle.packet_small.specs.Steps.{head_len, size}
use Rattle.packet_small.proofs.Encode.{Accepted, bad-table, bad-store, bad-sequence, bad-number, too_long, no_room, accepted, in-room, packet-wrote}
use Rattle.packet_small.proofs.put_small.Goals as goal
use Rattle.packet_small.proofs.put_small.Goals.{then-table-count-via-then-table-count, then-table-count-via-else-table-count+then-not-all_stored, then-sequence-ge-LIMIT-via-then-sequence-ge-LIMIT, then-sequence-ge-LIMIT-via-else-sequence-ge-LIMIT+then-not-all_sayable, then-room-head-via-then-room-head, then-room-head-via-else-room-head+then-not-all_fit, Else-not-all_fit}

judged : (c : Else-not-all_fit)
    → let a = c.args in Accepted a.ids a.packet.sequence.0 a.table.now a.packet.count a.store.now a.at (length a.out.now)
judged c =
    let f = leb-true _ _ (sym c.if-not-all_fit.ensures) in
    accepted _ _ 0 _ _ _ _ _ c.if-table-count.false c.if-not-all_stored.ensures c.if-sequence-ge-LIMIT.false c.if-not-all_sayable.ensures c.if-count-gt-MAX_MESSAGES.false (omega arith)

pub returns-then-table-count : goal.returns-then-table-count
returns-then-table-count c =
    elim c.then-table-count.branch [
      | then-table-count-via-then-table-count w ↦ (bad-table _ _ _ _ _ _ _ _ w.if-table-count.true, refl)
      | then-table-count-via-else-table-count+then-not-all_stored w ↦ (bad-store _ _ _ _ _ _ _ _ w.if-table-count.false w.if-not-all_stored.ensures, refl)
    ]

pub returns-then-sequence-ge-LIMIT : goal.returns-then-sequence-ge-LIMIT
returns-then-sequence-ge-LIMIT c =
    let s = c.if-not-all_stored.ensures in
    elim c.then-sequence-ge-LIMIT.branch [
      | then-sequence-ge-LIMIT-via-then-sequence-ge-LIMIT w ↦ (bad-sequence _ _ _ _ _ _ _ _ c.if-table-count.false s w.if-sequence-ge-LIMIT.true, refl)
      | then-sequence-ge-LIMIT-via-else-sequence-ge-LIMIT+then-not-all_sayable w ↦ (bad-number _ _ _ _ _ _ _ _ c.if-table-count.false s w.if-sequence-ge-LIMIT.false w.if-not-all_sayable.ensures, refl)
    ]

pub returns-then-count-gt-MAX_MESSAGES : goal.returns-then-count-gt-MAX_MESSAGES
returns-then-count-gt-MAX_MESSAGES c =
    (too_long _ _ _ _ _ _ _ _ c.if-table-count.false c.if-not-all_stored.ensures c.if-sequence-ge-LIMIT.false c.if-not-all_sayable.ensures c.if-count-gt-MAX_MESSAGES.true, refl)

pub returns-then-room-head : goal.returns-then-room-head
returns-then-room-head c =
    let a = c.args in
    let n : length a.out.now < a.at + head_len a.packet.sequence.0 + total (size a.ids) (listed a.table.now 0 a.packet.count) =
    elim c.then-room-head.branch [
      | then-room-head-via-then-room-head w ↦ omega arith
      | then-room-head-via-else-room-head+then-not-all_fit w ↦ let f = leb-false _ _ (sym w.if-not-all_fit.ensures) in omega arith
    ] in
    (no_room _ _ _ _ _ _ _ _ c.if-table-count.false c.if-not-all_stored.ensures c.if-sequence-ge-LIMIT.false c.if-not-all_sayable.ensures c.if-count-gt-MAX_MESSAGES.false n, refl)

pub returns : goal.returns
returns c =
    let k = judged (goal.at.returns c).Else-not-all_fit in
    let h = c.write_head-a.ensures in
    let w = c.write_messages.ensures in
    (in-room _ _ _ _ _ _ _ _ k h.0 w.0, packet-wrote _ _ _ _ _ _ _ _ w.1 h.0 h.1)

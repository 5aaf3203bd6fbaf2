-- `packet_slice::put_slice` meets its contract: the tests that led to each `return` say which case of `put_slice_of` holds.
-- Assumes nothing.
use native.Mathlib.Omega.{arith}
use Prim.Native.Nat.{◌+◌, ◌<◌}
use mathlib.Core.Path.{◌≡◌, refl}
use mathlib.Core.Bool.{true, false}
use mathlib.Core.Logic.{⊎_elim}
use lib.ListN.{length}
use Rattle.packet_slice.specs.Slice.{slice_of}
use Rattle.packet_slice.specs.Steps.{too_large_of, slice_len_of}
use Rattle.packet_slice.proofs.Judge.{large-here, large-later, all_small, not-stored, number-bad, no_room, may_write, put-to}
use Rattle.packet_slice.proofs.put_slice.Goals as goal
use Rattle.packet_slice.proofs.put_slice.Goals.{then-store-place-via-then-store-place, then-store-place-via-else-store-place+then-store-place-2, Else-packet-ge-LIMIT-5}

-- past the tests, no number is too large
small : (c : Else-packet-ge-LIMIT-5) → too_large_of (slice_of c.args.packet) ≡ false
small c = all_small (slice_of c.args.packet) c.if-packet-ge-LIMIT.false c.if-packet-ge-LIMIT-2.false c.if-packet-ge-LIMIT-3.false c.if-packet-ge-LIMIT-4.false c.if-packet-ge-LIMIT-5.false

pub returns-then-store-place : goal.returns-then-store-place
returns-then-store-place c =
    let n : length c.args.store.now < c.args.packet.place + c.args.packet.len =
    elim c.then-store-place.branch [
      | then-store-place-via-then-store-place w ↦ omega arith
      | then-store-place-via-else-store-place+then-store-place-2 w ↦ omega arith
    ] in
    (not-stored _ _ _ _ _ n, refl)

pub returns-then-packet-ge-LIMIT : goal.returns-then-packet-ge-LIMIT
returns-then-packet-ge-LIMIT c =
    let e : too_large_of (slice_of c.args.packet) ≡ true =
    ⊎_elim (large-here _ _) (λ r. large-later _ _
    (⊎_elim (λ h. large-here _ _ h.1) (λ r. large-later _ _
    (⊎_elim (λ h. large-here _ _ h.2) (λ r. large-later _ _
    (⊎_elim (λ h. large-here _ _ h.3) (λ h. large-later _ _ (large-here _ _ h.4)) r)) r)) r)) c.then-packet-ge-LIMIT.either in
    (number-bad _ _ _ _ _ (omega arith) e, refl)

pub returns-then-saturating_sub-slice_len : goal.returns-then-saturating_sub-slice_len
unfolding slice_len_of
returns-then-saturating_sub-slice_len c =
    (no_room _ _ _ _ _ (omega arith) (small (goal.at.returns-then-saturating_sub-slice_len c).Else-packet-ge-LIMIT-5) (omega arith), refl)

pub write_slice-requires : goal.write_slice-requires
unfolding slice_len_of
write_slice-requires c =
    may_write _ (small (goal.at.write_slice-requires c).Else-packet-ge-LIMIT-5) _ _ _ (omega arith) (omega arith)

pub returns : goal.returns
unfolding slice_len_of
returns c =
    let w = c.write_slice.ensures in
    (put-to _ _ _ _ _ (omega arith) (small (goal.at.returns c).Else-packet-ge-LIMIT-5) (omega arith) w.0, w.1)

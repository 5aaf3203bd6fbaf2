-- `send_reliable::write_row` meets its contract. Assumes nothing.
use Prim.Native.Nat.{◌*◌, ◌≤◌}
use mathlib.Core.Path.{◌≡◌, sym, ap, ◌∙◌}
use native.Mathlib.Omega.{arith}
use lib.ListN.{length}
use Rattle.words.specs.Sizes.{SLICE_SIZE, PIECES}
use Rattle.words.specs.Pieces.{pieces_of}
use Rattle.send_reliable.specs.Sender.{kind_of}
use Rattle.send_reliable.specs.Select.{row_visits}
use Rattle.send_reliable.proofs.Visits.{length-up_from, length-row, row-round}
use Rattle.send_reliable.proofs.write_row.Goals as goal
use Rattle.send_reliable.proofs.write_row.Goals.{In-Sliced}

-- a sliced message's pieces and cursor, and how many visits it has
sliced : (c : In-Sliced) → (let a = c.args in
    (a.row.len ≤ PIECES * SLICE_SIZE) × (c.in-Sliced.next ≤ pieces_of a.row.len) × (length (row_visits a.k a.row.len (kind_of a.row)) ≡ pieces_of a.row.len))
sliced c =
    let e = sym c.kind-kind.ensures ∙ c.in-Sliced.is in
    let g = rw e at c.requires.ranged in
    (g.0, g.1, rw e (rw e at (length-row c.args.k c.args.row.len (kind_of c.args.row) c.requires.ranged)))

pub write_range-requires : goal.write_range-requires
write_range-requires c =
    let a = c.args in
    let e = ap (λ kind. length (row_visits a.k a.row.len kind)) (sym c.kind-kind.ensures ∙ c.in-Small.is) ∙ length-up_from a.k 0 1 in
    record { from_le_to = omega arith; from_in_bounds = omega arith }

pub num_slices-requires : goal.num_slices-requires
num_slices-requires c = (sliced (goal.at.num_slices-requires c).In-Sliced).0

pub write_range-m-requires : goal.write_range-m-requires
write_range-m-requires c = let g = sliced (goal.at.write_range-m-requires c).In-Sliced in record { from_le_to = omega arith; from_in_bounds = omega arith }

pub write_range-requires-in-Sliced : goal.write_range-requires-in-Sliced
write_range-requires-in-Sliced c = let g = sliced (goal.at.write_range-requires-in-Sliced c).In-Sliced in record { from_le_to = omega arith; from_in_bounds = omega arith }

pub returns-in-Small : goal.returns-in-Small
returns-in-Small c =
    let a = c.args in
    rw (sym c.kind-kind.ensures ∙ c.in-Small.is, length-up_from a.k 0 1) c.write_range.ensures

pub returns-in-Sliced : goal.returns-in-Sliced
returns-in-Sliced c =
    let a = c.args in
    let first = c.write_range-m in
    let second = c.write_range-in-Sliced in
    let num = c.num_slices in
    let g = sliced (goal.at.returns-in-Sliced c).In-Sliced in (
      omega arith,
      rw (sym c.kind-kind.ensures ∙ c.in-Sliced.is) (row-round a.visits.now first.new.visits second.new.visits a.n first.result second.result a.k c.in-Sliced.next num.result a.row.len num.ensures first.ensures.1 second.ensures.1),
    )

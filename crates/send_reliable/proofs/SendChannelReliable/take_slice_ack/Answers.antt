-- `SendChannelReliable::take_slice_ack` meets its contract: by what was found, by its kind, and by the tests of the piece. Assumes nothing.
use Prim.Native.Nat.{◌<◌}
use mathlib.Core.Path.{◌≡◌, sym, ◌∙◌}
use mathlib.Core.Bool.{false}
use native.Mathlib.Omega.{arith}
use lib.ListN.{set}
use lib.Seq.{length-take-le}
use Rattle.std.proofs.lemmas.Result.{err_from_is_err_and}
use Rattle.std.specs.Prelude.{Ok, Some}
use Rattle.words.specs.Pieces.{pieces_of}
use Rattle.send_reliable.specs.declared.Kind.TheVariants.{Sliced}
use Rattle.send_reliable.specs.Fields.{state_of}
use Rattle.send_reliable.specs.Sender.{kind_of}
use Rattle.send_reliable.specs.QueueSteps.{Waits}
use Rattle.send_reliable.proofs.Valid.{count_most, rows-room, row-used, sliced-placed, lane_low, len-most, piece-in, without-sliced-valid}
use Rattle.send_reliable.proofs.Acking.{taken, with-ack-valid, piece-refused, piece-unknown, piece-wrong, piece-past, piece-done, piece-again, piece-last, piece-more}
use Rattle.send_reliable.proofs.SendChannelReliable.take_slice_ack.Goals as goal
use Rattle.send_reliable.proofs.SendChannelReliable.take_slice_ack.Goals.{In-Some, In-Sliced, Else-num-index}

-- the message of that id, its kind, and that the piece is one of its pieces
found : (c : In-Some) → Waits c.args.self.now c.args.id.0 (Ok (Some (c.in-Some.k, c.in-Some.row)))
found c = rw c.in-Some.is at c.in_ok-found.ensures

sliced : (c : In-Sliced) → kind_of c.in-Some.row ≡ Sliced c.in-Sliced.lane c.in-Sliced.acked c.in-Sliced.next
sliced c = sym c.kind-kind.ensures ∙ c.in-Sliced.is

index-low : (c : Else-num-index) → c.args.index.0 < pieces_of c.in-Some.row.len
index-low c = omega (arith, c.num_slices-num.ensures, c.if-num-index.false)

-- by the fields
here : (c : In-Some) → Waits (state_of c.self.inside) c.args.id.0 (Ok (Some (c.in-Some.k, c.in-Some.row)))
here c = rw (← c.self.view_is) at (found c)

pub returns-in_err-found : goal.returns-in_err-found
returns-in_err-found c = let p = err_from_is_err_and c.from_residual.result c.from_residual.ensures.1 in rw (p.1, p.2) (piece-refused _ (rw c.self.view_is at c.self.invariant) _ _ _ c.in_err-found.ensures)

pub returns-in_default : goal.returns-in_default
returns-in_default c = piece-unknown _ (rw c.self.view_is at c.self.invariant) _ _ (rw c.in_default.is at c.in_ok-found.ensures)

pub returns-in_default-kind : goal.returns-in_default-kind
returns-in_default-kind c = piece-wrong _ (rw c.self.view_is at c.self.invariant) _ _ _ (found (goal.at.returns-in_default-kind c).In-Some) _ _ _ (sym c.kind-kind.ensures ∙ c.in_default-kind.is)

pub num_slices-num-requires : goal.num_slices-num-requires
num_slices-num-requires c =
    let w = found (goal.at.num_slices-num-requires c).In-Some in
    len-most _ (rw c.self.view_is at c.self.invariant) _ _ w.0 _ _ _ (sliced (goal.at.num_slices-num-requires c).In-Sliced)

pub returns-then-num-index : goal.returns-then-num-index
returns-then-num-index c =
    let w = found (goal.at.returns-then-num-index c).In-Some in
    piece-past _ (rw c.self.view_is at c.self.invariant) _ _ _ w _ _ _ _ (sliced (goal.at.returns-then-num-index c).In-Sliced) (omega (arith, c.num_slices-num.ensures, c.if-num-index.true))

pub bounds-self-inside-at : goal.bounds-self-inside-at
bounds-self-inside-at c =
    let v = c.self.invariant in
    let w = here (goal.at.bounds-self-inside-at c).In-Some in
    omega (arith, piece-in _ v _ _ w.0 _ _ _ (sliced (goal.at.bounds-self-inside-at c).In-Sliced) _ (index-low (goal.at.bounds-self-inside-at c).Else-num-index), v.pieces-long)

pub returns-then-self-at : goal.returns-then-self-at
returns-then-self-at c =
    let v = c.self.invariant in
    let w = here (goal.at.returns-then-self-at c).In-Some in
    let e = sliced (goal.at.returns-then-self-at c).In-Sliced in
    rw (← c.self.view_is) (piece-done (state_of c.self.inside) v _ _ _ w _ _ _ _ e (index-low (goal.at.returns-then-self-at c).Else-num-index) _ (piece-again _ v _ _ w.0 _ _ _ e _ c.if-self-at.true))

pub bounds-self-inside-lane : goal.bounds-self-inside-lane
bounds-self-inside-lane c =
    let w = here (goal.at.bounds-self-inside-lane c).In-Some in
    omega (arith, lane_low _ c.self.invariant _ _ w.0 _ _ _ (sliced (goal.at.bounds-self-inside-lane c).In-Sliced))

pub overflow_sub-self : goal.overflow_sub-self
overflow_sub-self c = row-used _ c.self.invariant _ _ (here (goal.at.overflow_sub-self c).In-Some).0

pub slice_bounds-close-end : goal.slice_bounds-close-end
slice_bounds-close-end c = count_most _ c.self.invariant

pub close-self-inside-requires : goal.close-self-inside-requires
close-self-inside-requires c =
    let w = here (goal.at.close-self-inside-requires c).In-Some in
    let s = state_of c.self.inside in
    omega (arith, w.0.low, length-take-le s.count s.rows (rows-room s c.self.invariant))

pub invariant_of-self : goal.invariant_of-self
invariant_of-self c =
    let w = here (goal.at.invariant_of-self c).In-Some in
    let v = c.self.invariant in
    let s = state_of c.self.inside in
    let e = c.close-self-inside.ensures in
    rw (taken s v _ _ w.0 s.cells (set s.lanes c.in-Sliced.lane false) _ _ e.0 e.1) (without-sliced-valid s v _ _ w.0 _ _ _ (sliced (goal.at.invariant_of-self c).In-Sliced))

pub returns-then-acked-num : goal.returns-then-acked-num
returns-then-acked-num c =
    let v = c.self.invariant in
    let w = here (goal.at.returns-then-acked-num c).In-Some in
    let e = sliced (goal.at.returns-then-acked-num c).In-Sliced in
    let s = state_of c.self.inside in
    let f = c.close-self-inside.ensures in
    rw (← c.self.view_is) (piece-done s v _ _ _ w _ _ _ _ e (index-low (goal.at.returns-then-acked-num c).Else-num-index) _
    (taken s v _ _ w.0 s.cells (set s.lanes c.in-Sliced.lane false) _ _ f.0 f.1 ∙ piece-last s v _ _ w.0 _ _ _ e _ c.if-self-at.false (c.if-acked-num.true ∙ c.num_slices-num.ensures)))

pub bounds-self-inside-at-2 : goal.bounds-self-inside-at-2
bounds-self-inside-at-2 c =
    let v = c.self.invariant in
    let w = here (goal.at.bounds-self-inside-at-2 c).In-Some in
    omega (arith, piece-in _ v _ _ w.0 _ _ _ (sliced (goal.at.bounds-self-inside-at-2 c).In-Sliced) _ (index-low (goal.at.bounds-self-inside-at-2 c).Else-num-index), v.pieces-long)

pub new-requires : goal.new-requires
new-requires c =
    let v = c.self.invariant in
    let w = here (goal.at.new-requires c).In-Some in
    let e = sliced (goal.at.new-requires c).In-Sliced in
    let p = sliced-placed _ v _ _ w.0 _ _ _ e in
    let n = len-most _ v _ _ w.0 _ _ _ e in
    (n, lane_low _ v _ _ w.0 _ _ _ e, omega (arith, p.5, n), omega (arith, p.6, n))

pub invariant_of-self-2 : goal.invariant_of-self-2
invariant_of-self-2 c =
    let v = c.self.invariant in
    let w = here (goal.at.invariant_of-self-2 c).In-Some in
    let e = sliced (goal.at.invariant_of-self-2 c).In-Sliced in
    rw (c.new.ensures, piece-more (state_of c.self.inside) v _ _ w.0 _ _ _ e _ c.if-self-at.false (λ z. c.if-acked-num.false (z ∙ sym c.num_slices-num.ensures)))
    (with-ack-valid _ v _ _ w.0 _ _ _ e _ (index-low (goal.at.invariant_of-self-2 c).Else-num-index))

pub returns : goal.returns
returns c =
    let v = c.self.invariant in
    let w = here (goal.at.returns c).In-Some in
    let e = sliced (goal.at.returns c).In-Sliced in
    rw (← c.self.view_is) (piece-done (state_of c.self.inside) v _ _ _ w _ _ _ _ e (index-low (goal.at.returns c).Else-num-index) _
    (rw c.new.ensures (piece-more _ v _ _ w.0 _ _ _ e _ c.if-self-at.false (λ z. c.if-acked-num.false (z ∙ sym c.num_slices-num.ensures)))))

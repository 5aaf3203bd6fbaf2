-- `SendChannelReliable::visit` meets its contract: what is there goes, or it does not. Assumes nothing.
use mathlib.Core.Path.{◌≡◌, sym, ◌∙◌}
use native.Mathlib.Omega.{arith}
use borrow.Author.Tests.{not-true, not-false}
use lib.ListN.{get_or}
use Rattle.pack.proofs.Pieces.{pieces-needed}
use Rattle.send_reliable.specs.declared.Kind.TheVariants.{Small, Sliced}
use Rattle.send_reliable.specs.Fields.{state_of}
use Rattle.send_reliable.specs.Sender.{kind_of, no_row}
use Rattle.send_reliable.specs.RoundSteps.{Visitable, chosen_by}
use Rattle.send_reliable.proofs.Select.{SmallHere, PieceHere}
use Rattle.send_reliable.proofs.Rounds.{row_low, at_small, small-covered, small-passed, small-chosen, at_piece, piece-covered, piece-acked, piece-stays, piece-chosen, visited-valid}
use Rattle.send_reliable.proofs.SendChannelReliable.visit.Goals as goal
use Rattle.send_reliable.proofs.SendChannelReliable.visit.Goals.{After-self, In-Sliced, In-Small, else-not-piece-via-then-not-piece+else-goes-2, else-not-piece-via-else-not-piece}

-- the visit is to a piece of a waiting message, and the sender is valid
here : (c : After-self) → Visitable (state_of c.self.inside) c.self.inside.latest c.args.visit
here c = record { valid = c.self.invariant; within = rw (← c.self.view_is) at c.requires.here }

-- the small message that is visited, or the piece
small-kind : (c : In-Small) → (let s = state_of c.self.inside in kind_of (get_or s.rows c.args.visit.row no_row) ≡ Small c.in-Small.cell c.in-Small.last)
small-kind c = sym c.kind-kind.ensures ∙ c.in-Small.is

small : (c : In-Small) → (let a = c.args in SmallHere (state_of c.self.inside) c.self.inside.latest (get_or (state_of c.self.inside).rows a.visit.row no_row) c.in-Small.cell c.in-Small.last)
small c = let a = c.args in at_small (state_of c.self.inside) c.self.inside.latest a.visit (here (goal.at.In-Small c).After-self) a.chosen a.items.now _ _ (small-kind c)

piece_kind : (c : In-Sliced) → (let s = state_of c.self.inside in kind_of (get_or s.rows c.args.visit.row no_row) ≡ Sliced c.in-Sliced.lane c.in-Sliced.num_acked c.in-Sliced.field-2)
piece_kind c = sym c.kind-kind.ensures ∙ c.in-Sliced.is

piece : (c : In-Sliced) → (let a = c.args in PieceHere (state_of c.self.inside) c.self.inside.latest (chosen_by a.chosen a.items.now (state_of c.self.inside)) (get_or (state_of c.self.inside).rows a.visit.row no_row) c.in-Sliced.lane c.in-Sliced.num_acked a.visit.piece)
piece c = let a = c.args in at_piece (state_of c.self.inside) c.self.inside.latest a.visit (here (goal.at.In-Sliced c).After-self) a.chosen a.items.now _ _ _ (piece_kind c)

pub offset_bounds-self-inside-k : goal.offset_bounds-self-inside-k
offset_bounds-self-inside-k c = let k = row_low _ _ _ (here (goal.at.offset_bounds-self-inside-k c).After-self) c.args.chosen c.args.items.now in omega arith

pub bounds-self-inside-k : goal.bounds-self-inside-k
bounds-self-inside-k c = let k = row_low _ _ _ (here (goal.at.bounds-self-inside-k c).After-self) c.args.chosen c.args.items.now in omega arith

pub goes-requires : goal.goes-requires
goes-requires c = (small (goal.at.goes-requires c).In-Small).sent

pub new-requires : goal.new-requires
new-requires c =
    let h = small (goal.at.new-requires c).In-Small in
    (h.short, omega (arith, h.low, c.self.invariant.settings.slots-most))

pub offset_bounds-self-inside-k-then-goes : goal.offset_bounds-self-inside-k-then-goes
offset_bounds-self-inside-k-then-goes c = let k = row_low _ _ _ (here (goal.at.offset_bounds-self-inside-k-then-goes c).After-self) c.args.chosen c.args.items.now in omega arith

pub bounds-self-inside-k-then-goes : goal.bounds-self-inside-k-then-goes
bounds-self-inside-k-then-goes c = let k = row_low _ _ _ (here (goal.at.bounds-self-inside-k-then-goes c).After-self) c.args.chosen c.args.items.now in omega arith

pub overflow_sub-chosen : goal.overflow_sub-chosen
overflow_sub-chosen c =
    let a = c.args in
    small-covered (state_of c.self.inside) c.self.inside.latest a.visit (here (goal.at.overflow_sub-chosen c).After-self) a.chosen a.items.now _ _ (small-kind (goal.at.overflow_sub-chosen c).In-Small) _ c.goes.ensures c.if-goes.true

pub invariant_of-self : goal.invariant_of-self
invariant_of-self c =
    let a = c.args in
    let k = here (goal.at.invariant_of-self c).After-self in
    visited-valid (state_of c.self.inside) a.visit k a.chosen a.items.now _ _ _
    (small-chosen (state_of c.self.inside) c.self.inside.latest a.visit (here (goal.at.invariant_of-self c).After-self) a.chosen a.items.now _ _ (small-kind (goal.at.invariant_of-self c).In-Small) _ c.goes.ensures c.if-goes.true c.requires.in_bounds _ c.new.ensures)

pub returns-then-goes : goal.returns-then-goes
returns-then-goes c =
    let a = c.args in
    rw (← c.self.view_is) (small-chosen (state_of c.self.inside) c.self.inside.latest a.visit (here (goal.at.returns-then-goes c).After-self) a.chosen a.items.now _ _ (small-kind (goal.at.returns-then-goes c).In-Small) _ c.goes.ensures c.if-goes.true c.requires.in_bounds _ c.new.ensures)

pub returns-else-goes : goal.returns-else-goes
returns-else-goes c =
    let a = c.args in
    rw (← c.self.view_is) (small-passed (state_of c.self.inside) c.self.inside.latest a.visit (here (goal.at.returns-else-goes c).After-self) a.chosen a.items.now _ _ (small-kind (goal.at.returns-else-goes c).In-Small) _ c.goes.ensures c.if-goes.false)

pub bounds-self-inside-j : goal.bounds-self-inside-j
bounds-self-inside-j c = let h = (piece (goal.at.bounds-self-inside-j c).In-Sliced).entry in omega arith

pub slice_len-size-requires : goal.slice_len-size-requires
slice_len-size-requires c =
    let h = piece (goal.at.slice_len-size-requires c).In-Sliced in
    record { len_bound = omega (arith, h.fits, c.self.invariant.settings.pieces-most); i_bound = omega (arith, pieces-needed _ _ h.piece) }

pub goes-requires-then-not-piece : goal.goes-requires-then-not-piece
goes-requires-then-not-piece c = (piece (goal.at.goes-requires-then-not-piece c).In-Sliced).sent

pub new-requires-then-goes-2 : goal.new-requires-then-goes-2
new-requires-then-goes-2 c =
    let h = piece (goal.at.new-requires-then-goes-2 c).In-Sliced in
    let g = c.self.invariant.settings in
    (omega (arith, h.fits, g.pieces-most), omega (arith, h.low, g.lanes-most), omega (arith, h.fewer, h.most), omega (arith, h.piece, h.most))

pub bounds-self-inside-j-then-goes-2 : goal.bounds-self-inside-j-then-goes-2
bounds-self-inside-j-then-goes-2 c = let h = (piece (goal.at.bounds-self-inside-j-then-goes-2 c).In-Sliced).entry in omega arith

pub num_slices-requires : goal.num_slices-requires
num_slices-requires c = let h = (piece (goal.at.num_slices-requires c).In-Sliced).fits in let g = c.self.invariant.settings in omega arith

pub overflow_sub-chosen-then-goes-2 : goal.overflow_sub-chosen-then-goes-2
overflow_sub-chosen-then-goes-2 c =
    let a = c.args in
    let covered = piece-covered (state_of c.self.inside) c.self.inside.latest a.visit (here (goal.at.overflow_sub-chosen-then-goes-2 c).After-self) a.chosen a.items.now _ _ _ (piece_kind (goal.at.overflow_sub-chosen-then-goes-2 c).In-Sliced) (not-true _ c.if-not-piece.true) _ c.goes-then-not-piece.ensures c.if-goes-2.true in
    omega (arith, c.slice_len-size.ensures)

pub invariant_of-self-then-goes-2 : goal.invariant_of-self-then-goes-2
invariant_of-self-then-goes-2 c =
    let a = c.args in
    let k = here (goal.at.invariant_of-self-then-goes-2 c).After-self in
    visited-valid (state_of c.self.inside) a.visit k a.chosen a.items.now _ _ _
    (piece-chosen (state_of c.self.inside) c.self.inside.latest a.visit (here (goal.at.invariant_of-self-then-goes-2 c).After-self) a.chosen a.items.now _ _ _ (piece_kind (goal.at.invariant_of-self-then-goes-2 c).In-Sliced) (not-true _ c.if-not-piece.true) _ c.goes-then-not-piece.ensures c.if-goes-2.true
    c.requires.in_bounds _ c.new-then-goes-2.ensures _ _ c.num_slices.ensures c.slice_len-size.ensures)

pub returns-then-goes-2 : goal.returns-then-goes-2
returns-then-goes-2 c =
    let a = c.args in
    rw (← c.self.view_is) (piece-chosen (state_of c.self.inside) c.self.inside.latest a.visit (here (goal.at.returns-then-goes-2 c).After-self) a.chosen a.items.now _ _ _ (piece_kind (goal.at.returns-then-goes-2 c).In-Sliced) (not-true _ c.if-not-piece.true) _ c.goes-then-not-piece.ensures c.if-goes-2.true
    c.requires.in_bounds _ c.new-then-goes-2.ensures _ _ c.num_slices.ensures c.slice_len-size.ensures)

pub returns-else-not-piece : goal.returns-else-not-piece
returns-else-not-piece c =
    let a = c.args in
    let e = piece_kind (goal.at.returns-else-not-piece c).In-Sliced in
    rw (← c.self.view_is) (elim c.else-not-piece.branch [
      | else-not-piece-via-then-not-piece+else-goes-2 w ↦ piece-stays (state_of c.self.inside) c.self.inside.latest a.visit (here (goal.at.returns-else-not-piece c).After-self) a.chosen a.items.now _ _ _ e (not-true _ w.if-not-piece.true) _ w.goes-then-not-piece.ensures w.if-goes-2.false
      | else-not-piece-via-else-not-piece w ↦ piece-acked (state_of c.self.inside) c.self.inside.latest a.visit (here (goal.at.returns-else-not-piece c).After-self) a.chosen a.items.now _ _ _ e (not-false _ w.if-not-piece.false)
    ])

-- `SendChannelReliable::take_message_ack` meets its contract: by what was found, and by its kind. Assumes nothing.
use mathlib.Core.Path.{◌≡◌, sym, ◌∙◌}
use mathlib.Core.Bool.{false}
use native.Mathlib.Omega.{arith}
use lib.ListN.{set}
use lib.Seq.{length-take-le}
use Rattle.std.proofs.lemmas.Result.{err_from_is_err_and}
use Rattle.std.specs.Prelude.{Ok, Some}
use Rattle.send_reliable.specs.declared.Kind.TheVariants.{Small}
use Rattle.send_reliable.specs.Fields.{state_of}
use Rattle.send_reliable.specs.Sender.{kind_of}
use Rattle.send_reliable.specs.QueueSteps.{Waits}
use Rattle.send_reliable.proofs.Valid.{count_most, rows-room, row-used, cell-low, without-small-valid}
use Rattle.send_reliable.proofs.Acking.{taken, small-refused, small-unknown, small-wrong, small-done}
use Rattle.send_reliable.proofs.SendChannelReliable.take_message_ack.Goals as goal
use Rattle.send_reliable.proofs.SendChannelReliable.take_message_ack.Goals.{In-Some, In-Small}

-- the message of that id, and its kind
found : (c : In-Some) → Waits c.args.self.now c.args.id.0 (Ok (Some (c.in-Some.k, c.in-Some.row)))
found c = rw c.in-Some.is at c.in_ok-found.ensures

small : (c : In-Small) → kind_of c.in-Some.row ≡ Small c.in-Small.cell c.in-Small.field-1
small c = sym c.kind-kind.ensures ∙ c.in-Small.is

-- by the fields
here : (c : In-Some) → Waits (state_of c.self.inside) c.args.id.0 (Ok (Some (c.in-Some.k, c.in-Some.row)))
here c = rw (← c.self.view_is) at (found c)

pub returns-in_err-found : goal.returns-in_err-found
returns-in_err-found c =
    let p = err_from_is_err_and c.from_residual.result c.from_residual.ensures.1 in
    rw (p.1, p.2) (small-refused _ (rw c.self.view_is at c.self.invariant) _ _ c.in_err-found.ensures)

pub returns-in_default : goal.returns-in_default
returns-in_default c = small-unknown _ (rw c.self.view_is at c.self.invariant) _ (rw c.in_default.is at c.in_ok-found.ensures)

pub returns-in_default-kind : goal.returns-in_default-kind
returns-in_default-kind c = small-wrong _ (rw c.self.view_is at c.self.invariant) _ _ _ (found (goal.at.returns-in_default-kind c).In-Some) _ _ _ (sym c.kind-kind.ensures ∙ c.in_default-kind.is)

pub bounds-self-inside-cell : goal.bounds-self-inside-cell
bounds-self-inside-cell c =
    let w = here (goal.at.bounds-self-inside-cell c).In-Some in
    omega (arith, cell-low _ c.self.invariant _ _ w.0 _ _ (small (goal.at.bounds-self-inside-cell c).In-Small))

pub overflow_sub-self : goal.overflow_sub-self
overflow_sub-self c = row-used _ c.self.invariant _ _ (here (goal.at.overflow_sub-self c).In-Some).0

pub slice_bounds-close-end : goal.slice_bounds-close-end
slice_bounds-close-end c = count_most _ c.self.invariant

pub close-self-inside-requires : goal.close-self-inside-requires
close-self-inside-requires c =
    let w = here (goal.at.close-self-inside-requires c).In-Some in
    let s = state_of c.self.inside in
    omega (arith, w.0.low, length-take-le s.count s.rows (rows-room s c.self.invariant))

pub invariant_of-self : goal.invariant_of-self
invariant_of-self c =
    let w = here (goal.at.invariant_of-self c).In-Some in
    let v = c.self.invariant in
    let s = state_of c.self.inside in
    let e = c.close-self-inside.ensures in
    rw (taken s v _ _ w.0 (set s.cells c.in-Small.cell false) s.lanes _ _ e.0 e.1) (without-small-valid s v _ _ w.0 _ _ (small (goal.at.invariant_of-self c).In-Small))

pub returns : goal.returns
returns c =
    let w = here (goal.at.returns c).In-Some in
    let v = c.self.invariant in
    let s = state_of c.self.inside in
    let e = c.close-self-inside.ensures in
    rw (← c.self.view_is) (small-done s v _ _ _ w _ _ (small (goal.at.returns c).In-Small) _ (taken s v _ _ w.0 (set s.cells c.in-Small.cell false) s.lanes _ _ e.0 e.1))

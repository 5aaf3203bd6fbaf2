-- `ReceiveChannelReliable::slice_answer` meets its contract: each answer by the tests that led to it. Assumes nothing.
use Prim.Native.Nat.{◌*◌}
use mathlib.Core.Path.{◌≡◌, sym, ap, ◌∙◌}
use mathlib.Core.Bool.{true}
use Rattle.std.specs.Prelude.{Ok, Err, None}
use Rattle.std.proofs.lemmas.Result.{err_from_is_err_and}
use Rattle.words.specs.Sizes.{SLICE_SIZE}
use Rattle.words.proofs.Tables.{clash}
use Rattle.receive_reliable.specs.Receive.{lane_of, in_lane_of, taken, arrival_of, SliceSpot, opened, constructor_at}
use Rattle.receive_reliable.specs.Steps.{entry_of, held_in, open_of, lane_for_of, slice_to}
use Rattle.receive_reliable.specs.declared.Arrival.{Arrival}
use Rattle.receive_reliable.specs.declared.Arrival.TheVariants.{Ignored}
use Rattle.receive_reliable.specs.Fields.{state_of}
use Rattle.receive_reliable.proofs.Spots.{no-lane-here, open-held}
use Rattle.receive_reliable.proofs.Answers.{not-held, slice-stops, no_pieces, too_many, same_count, other-count, is_open, is-open, is-fresh, not-open}
use Rattle.receive_reliable.proofs.ReceiveChannelReliable.slice_answer.Goals as goal
use Rattle.receive_reliable.proofs.ReceiveChannelReliable.slice_answer.Goals.{In_default, In-Some}

-- what arrives may be taken
goes : (c : In_default) → (let a = c.args in taken ≡ entry_of a.self.now a.id a.small a.lane)
goes c = sym (ap (λ (x : Arrival). arrival_of (Ok x)) c.in_default.is) ∙ c.in_ok-entry.ensures

pub returns-in_err-entry : goal.returns-in_err-entry
returns-in_err-entry c =
    let p = err_from_is_err_and c.from_residual.result c.from_residual.ensures.1 in
    rw (p.1, p.2) (slice-stops _ _ _ _ _ (lane_for_of c.args.held c.args.free) (Err _) c.in_err-entry.ensures (λ x. clash (cc)))

pub returns-in-Ignored : goal.returns-in-Ignored
returns-in-Ignored c = slice-stops _ _ _ _ _ (lane_for_of c.args.held c.args.free) (Ok Ignored) (sym (ap (λ (x : Arrival). arrival_of (Ok x)) c.in-Ignored.is) ∙ c.in_ok-entry.ensures) (λ x. clash (cc))

pub returns-then-num_slices-eq0 : goal.returns-then-num_slices-eq0
returns-then-num_slices-eq0 c = no_pieces _ _ _ _ _ (goes (goal.at.returns-then-num_slices-eq0 c).In_default) c.if-num_slices-eq0.true

pub returns-then-self-num_slices : goal.returns-then-self-num_slices
returns-then-self-num_slices c =
    rw (← c.self.view_is)
    (too_many (state_of c.self.inside) _ _ _ _ (rw (← c.self.view_is) at (goes (goal.at.returns-then-self-num_slices c).In_default)) c.if-num_slices-eq0.false c.if-self-num_slices.true)

-- an open lane
opens : (c : In-Some) → (let a = c.args in let s = state_of c.self.inside in let o = c.in-Some.o in
    (lane_of s a.id ≡ o.lane) × (in_lane_of s a.id ≡ true)
    × (o.charge ≡ SLICE_SIZE * (constructor_at s o.lane).num_slices) × (lane_for_of a.held a.free ≡ opened o.lane))
opens c =
    let o = is-open c.args.held c.args.free c.in-Some.o (sym c.open_lane.ensures ∙ c.in-Some.is) in
    let h = open-held (state_of c.self.inside) _ c.self.invariant _ _ (sym (rw (← c.self.view_is) at c.requires.0) ∙ o.0) in
    (h.1, h.0, h.2, o.1)

pub returns-then-o-num : goal.returns-then-o-num
returns-then-o-num c =
    let o = opens (goal.at.returns-then-o-num c).In-Some in
    rw (← c.self.view_is)
    (is_open (state_of c.self.inside) _ _ _ _ (rw (← c.self.view_is) at (goes (goal.at.returns-then-o-num c).In_default)) c.if-num_slices-eq0.false c.if-self-num_slices.false _ _ o.0 o.1 (other-count _ _ _ _ o.2 c.if-o-num.true))

pub returns-in-Some : goal.returns-in-Some
returns-in-Some c =
    let o = opens (goal.at.returns-in-Some c).In-Some in
    rw (← c.self.view_is)
    (o.3
    ∙ is_open (state_of c.self.inside) _ _ _ _ (rw (← c.self.view_is) at (goes (goal.at.returns-in-Some c).In_default)) c.if-num_slices-eq0.false c.if-self-num_slices.false _ _ o.0 o.1 (same_count _ _ _ _ o.2 c.if-o-num.false))

pub fresh-requires : goal.fresh-requires
fresh-requires c = (c.requires.1, rw (← c.self.view_is) c.if-self-num_slices.false)

pub returns : goal.returns
returns c =
    let s = state_of c.self.inside in
    let none : open_of c.args.held ≡ None = sym c.open_lane.ensures ∙ c.in_default-open_lane.is in
    let here : c.args.held ≡ held_in s c.args.id = rw (← c.self.view_is) at c.requires.0 in
    let go : taken ≡ entry_of s c.args.id c.args.small c.args.lane = rw (← c.self.view_is) at (goes (goal.at.returns c).In_default) in
    rw (← c.self.view_is)
    (ap (λ (x : SliceSpot). slice_to x c.fresh.result) (not-open c.args.held c.args.free none)
    ∙ is-fresh s _ _ _ _ go c.if-num_slices-eq0.false c.if-self-num_slices.false _ (no-lane-here s c.args.id (not-held s _ _ _ go) _ (sym here) none) (rw (← c.self.view_is) at c.fresh.ensures))

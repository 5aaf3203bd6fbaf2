-- `ReceiveChannelReliable::message_answer` meets its contract: each answer by the tests that led to it. Assumes nothing.
use mathlib.Core.Path.{◌≡◌, sym, ap, ◌∙◌}
use mathlib.Core.Bool.{false}
use Rattle.std.specs.Prelude.{Ok, Err}
use Rattle.std.proofs.lemmas.Result.{err_from_is_err_and}
use Rattle.words.proofs.Tables.{clash}
use Rattle.receive_reliable.specs.Receive.{taken, arrival_of, in_lane_of}
use Rattle.receive_reliable.specs.Steps.{entry_of}
use Rattle.receive_reliable.specs.declared.Arrival.{Arrival}
use Rattle.receive_reliable.specs.declared.Arrival.TheVariants.{Ignored}
use Rattle.receive_reliable.specs.Fields.{state_of}
use Rattle.receive_reliable.proofs.Spots.{in-open, no-lane-here}
use Rattle.receive_reliable.proofs.Answers.{not-held, message-stops, is-open, too_long, wrong-kind, no-memory, no-cell-free, cell_free}
use Rattle.receive_reliable.proofs.ReceiveChannelReliable.message_answer.Goals as goal
use Rattle.receive_reliable.proofs.ReceiveChannelReliable.message_answer.Goals.{In_default, In_default-open_lane}

-- what arrives may be taken
goes : (c : In_default) → (let a = c.args in taken ≡ entry_of a.self.now a.id a.small a.lane)
goes c = sym (ap (λ (x : Arrival). arrival_of (Ok x)) c.in_default.is) ∙ c.in_ok-entry.ensures

-- and has no lane
no-lane : (c : In_default-open_lane) → (let a = c.args in in_lane_of a.self.now a.id ≡ false)
no-lane c =
    let a = c.args in
    no-lane-here a.self.now a.id (not-held _ _ _ _ (sym (ap (λ (x : Arrival). arrival_of (Ok x)) c.in_default.is) ∙ c.in_ok-entry.ensures)) _ (sym c.locate-held.ensures) (sym c.open_lane.ensures ∙ c.in_default-open_lane.is)

pub returns-in_err-entry : goal.returns-in_err-entry
returns-in_err-entry c =
    let p = err_from_is_err_and c.from_residual.result c.from_residual.ensures.1 in
    rw (p.1, p.2) (message-stops _ _ _ _ _ c.args.free (Err _) c.in_err-entry.ensures (λ x. clash (cc)))

pub returns-in-Ignored : goal.returns-in-Ignored
returns-in-Ignored c = message-stops _ _ _ _ _ c.args.free (Ok Ignored) (sym (ap (λ (x : Arrival). arrival_of (Ok x)) c.in-Ignored.is) ∙ c.in_ok-entry.ensures) (λ x. clash (cc))

pub returns-then-n-gt-SLICE_SIZE : goal.returns-then-n-gt-SLICE_SIZE
returns-then-n-gt-SLICE_SIZE c = too_long _ _ _ _ _ (goes (goal.at.returns-then-n-gt-SLICE_SIZE c).In_default) c.if-n-gt-SLICE_SIZE.true

pub returns-in-Some : goal.returns-in-Some
returns-in-Some c =
    let o = is-open c.locate-held.result c.args.free c.in-Some.field-0 (sym c.open_lane.ensures ∙ c.in-Some.is) in
    wrong-kind _ _ _ _ _ (goes (goal.at.returns-in-Some c).In_default) c.if-n-gt-SLICE_SIZE.false (in-open c.args.self.now _ _ _ (sym c.locate-held.ensures ∙ o.0)).1

pub returns-then-self-n : goal.returns-then-self-n
returns-then-self-n c =
    rw (← c.self.view_is)
    (no-memory (state_of c.self.inside) _ _ _ _ (rw (← c.self.view_is) at (goes (goal.at.returns-then-self-n c).In_default)) c.if-n-gt-SLICE_SIZE.false (rw (← c.self.view_is) at (no-lane (goal.at.returns-then-self-n c).In_default-open_lane)) c.if-self-n.true)

pub returns-then-self-free : goal.returns-then-self-free
returns-then-self-free c =
    rw (← c.self.view_is)
    (no-cell-free (state_of c.self.inside) _ _ _ _ (rw (← c.self.view_is) at (goes (goal.at.returns-then-self-free c).In_default)) c.if-n-gt-SLICE_SIZE.false (rw (← c.self.view_is) at (no-lane (goal.at.returns-then-self-free c).In_default-open_lane)) c.if-self-n.false _ (rw (← c.self.view_is) at c.requires) c.if-self-free.true)

pub returns : goal.returns
returns c =
    rw (← c.self.view_is)
    (cell_free (state_of c.self.inside) _ _ _ _ (rw (← c.self.view_is) at (goes (goal.at.returns c).In_default)) c.if-n-gt-SLICE_SIZE.false (rw (← c.self.view_is) at (no-lane (goal.at.returns c).In_default-open_lane)) c.if-self-n.false _ (rw (← c.self.view_is) at c.requires) c.if-self-free.false)

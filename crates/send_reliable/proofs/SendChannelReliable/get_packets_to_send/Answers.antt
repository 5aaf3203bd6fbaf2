-- `SendChannelReliable::get_packets_to_send` meets its contract: each answer by what judged it. Assumes nothing.
use mathlib.Core.Path.{◌≡◌, sym, ap, ◌∙◌}
use native.Mathlib.Omega.{arith}
use Rattle.std.proofs.lemmas.List.{length-take}
use Rattle.pack.specs.Rows.{verdict_of}
use Rattle.send_reliable.specs.Sender.{Valid}
use Rattle.send_reliable.specs.declared.SendChannelReliable.{SendChannelReliable}
use Rattle.send_reliable.specs.Round.{Given, entry_refusal}
use Rattle.send_reliable.proofs.Rounds.{round-refused, entry-tests, items-go, round-sent, round-stopped}
use Rattle.send_reliable.proofs.SendChannelReliable.get_packets_to_send.Goals as goal
use Rattle.send_reliable.proofs.SendChannelReliable.get_packets_to_send.Goals.{In_default, After-self, Start}

-- what the round is given
abbrev given : Start → Given
given c =
    let a = c.args in
    record { seq = a.sequence.0; now = a.current_time; allowance = a.allowance; small = a.small.now; lanes = a.lanes.now }

-- what is always true of a sender, and its channel
valid : (c : After-self) → Valid c.args.self
valid c = rw c.self.view_is at c.self.invariant

channel : (c : After-self) → c.self.inside.channel_id ≡ c.args.self.channel_id
channel c = ap (λ (s : SendChannelReliable). s.channel_id) c.self.view_is

-- nothing was judged against it
entered : (c : In_default) → (0 ≡ entry_refusal c.args.self (given (goal.at.In_default c).Start))
unfolding entry_refusal
entered c = ap verdict_of (sym c.in_default.is) ∙ c.judge_round-verdict.ensures

pub returns-in-Err : goal.returns-in-Err
unfolding entry_refusal
returns-in-Err c = round-refused c.args.self (valid (goal.at.returns-in-Err c).After-self) (given (goal.at.returns-in-Err c).Start) c.args.out.now c.args.table.now c.in-Err.e (ap verdict_of (sym c.in-Err.is) ∙ c.judge_round-verdict.ensures)

pub write_visits-n-requires : goal.write_visits-n-requires
write_visits-n-requires c = omega arith

pub select-m-requires : goal.select-m-requires
select-m-requires c =
    let t = entry-tests c.args.self (valid (goal.at.select-m-requires c).After-self) (given (goal.at.select-m-requires c).Start) c.args.out.now c.args.table.now (entered (goal.at.select-m-requires c).In_default) in
    record { latest_le_current_time = t.2; visits_value = c.write_visits-n.ensures.1; in_bounds = omega (arith, c.write_visits-n.ensures.0, length-take c.write_visits-n.result c.write_visits-n.new.visits) }

pub send-answer-requires : goal.send-answer-requires
send-answer-requires c =
    let r = c.select-m in
    let e = entered (goal.at.send-answer-requires c).In_default in
    let t = entry-tests c.args.self (valid (goal.at.send-answer-requires c).After-self) (given (goal.at.send-answer-requires c).Start) c.args.out.now c.args.table.now e in
    record { few = omega (arith, r.ensures.few, c.write_visits-n.ensures.0, length-take r.result r.new.items, length-take c.write_visits-n.result c.write_visits-n.new.visits); all = rw (channel (goal.at.send-answer-requires c).After-self) (items-go c.args.self (valid (goal.at.send-answer-requires c).After-self) (given (goal.at.send-answer-requires c).Start) c.args.out.now c.args.table.now e _ r.new.items r.result _ r.ensures); sequence_bound = t.1 }

pub returns-in-Err-answer : goal.returns-in-Err-answer
returns-in-Err-answer c =
    let r = c.select-m in
    let a = c.send-answer in
    round-stopped c.args.self (valid (goal.at.returns-in-Err-answer c).After-self) (given (goal.at.returns-in-Err-answer c).Start) c.args.out.now c.args.table.now (entered (goal.at.returns-in-Err-answer c).In_default) _ r.new.items r.result _ r.ensures a.new.out a.new.table a.result (rw (channel (goal.at.returns-in-Err-answer c).After-self) at a.ensures) c.in-Err-answer.field-0 c.in-Err-answer.is

pub returns-in-Ok : goal.returns-in-Ok
returns-in-Ok c =
    let r = c.select-m in
    let a = c.send-answer in
    round-sent c.args.self (valid (goal.at.returns-in-Ok c).After-self) (given (goal.at.returns-in-Ok c).Start) c.args.out.now c.args.table.now (entered (goal.at.returns-in-Ok c).In_default) _ r.new.items r.result _ r.ensures a.new.out a.new.table a.result (rw (channel (goal.at.returns-in-Ok c).After-self) at a.ensures) c.in-Ok.field-0 c.in-Ok.is

-- What the steps of the tour promise, by the definitions that the library's own promises cite. Assumes nothing.
use Rattle.std.specs.Prelude.{ℕ, ◌≡◌}
use Rattle.send_reliable.specs.Queue.{spot_of, state_at}
use Rattle.send_reliable.specs.Ack.{After, ack_small, ack_piece}
use Rattle.send_reliable.specs.declared.SendChannelReliable.{SendChannelReliable}
use Rattle.receive_reliable.specs.Receive as r
use Rattle.receive_reliable.specs.declared.ReceiveChannelReliable.{ReceiveChannelReliable}
use Rattle.tour.specs.declared.Ends.{Ends}

-- a message of n bytes is queued, with stores of these lengths lent; the receiver knows nothing of it
pub record Queues (e : Ends) (n small lanes : ℕ) (e' : Ends) : Type 0 where
  pub sender : e'.sender ≡ state_at e.sender n (spot_of e.sender n small lanes)
  pub receiver : e'.receiver ≡ e.receiver

-- the sender hears of what arrived only if the receiver took it: what the theorems of delivery suppose of a program
abbrev pub heard : r.Outcome → After → SendChannelReliable → SendChannelReliable
heard r.taken acked sender = acked.state
heard r.ignored acked sender = sender
heard (r.refused e) acked sender = sender

-- something arrives with this outcome, which leaves this receiver; `acked` is what the sender makes of its acknowledgement
pub record Arrives (e : Ends) (o : r.Outcome) (after : ReceiveChannelReliable) (acked : After) (e' : Ends) : Type 0 where
  pub sender : e'.sender ≡ heard o acked e.sender
  pub receiver : e'.receiver ≡ after

-- a small message of n bytes, and the piece i of num, with stores of these lengths lent
abbrev pub MessageArrives : Ends → (id n small lanes : ℕ) → Ends → Type 0
MessageArrives e id n small lanes e' =
    Arrives e (r.message_answer_of (r.message_spot e.receiver id n small lanes))
    (r.message_state e.receiver id n (r.message_spot e.receiver id n small lanes))
    (ack_small e.sender id) e'

abbrev pub PieceArrives : Ends → (id num i n small lanes : ℕ) → Ends → Type 0
PieceArrives e id num i n small lanes e' =
    Arrives e (r.slice_answer_of (r.slice_spot e.receiver id num i n small lanes))
    (r.slice_state e.receiver id num i n (r.slice_spot e.receiver id num i n small lanes))
    (ack_piece e.sender id i) e'

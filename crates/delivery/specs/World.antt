-- The world of demand 3: a reliable sender, an ordered receiver, the stores that each lends at every call, and the network between them. What
-- each call does is what its public promise says, by the promise's own definitions. Assumes nothing.
use Rattle.std.specs.Prelude.{ℕ, zero, suc, ◌+◌, ◌*◌, ◌<◌, ◌≡◌, List, [], ◌∷◌, ◌++◌, map, Bool, length, get_or, take, drop, eqb, None, Some}
use Rattle.std.specs.Prelude as prelude
use Rattle.std.proofs.Math.Option.{Option, none, some}
use Rattle.std.proofs.Math.ListN.{get_elem?}
use Rattle.words.specs.Choice.{pick}
use Rattle.words.specs.Lists.{reached}
use Rattle.octets.specs.Reader.{Res, ok, fault}
use Rattle.packet_small.specs.Small as small
use Rattle.packet_small.specs.Write.{listed}
use Rattle.packet.specs.Packet as reader
use Rattle.packet.specs.Packet.{small_reliable, small_unreliable, reliable_slice, unreliable_slice, ack}
use Rattle.pack.specs.Encode.{ENTRY, out_after, table_after}
use Rattle.channel.specs.Settings.{settings_refusal}
use Rattle.channel.specs.declared.Settings.{Settings}
use Rattle.receive_reliable.specs.Receive as r
use Rattle.receive_reliable.specs.declared.ReceiveChannelReliable.{ReceiveChannelReliable}
use Rattle.send_reliable.specs.Sender as s
use Rattle.send_reliable.specs.Queue as q
use Rattle.send_reliable.specs.Ack.{ack_small, ack_piece}
use Rattle.send_reliable.specs.Round.{Given, packs, lent, refusal_of, state_after}
use Rattle.send_reliable.specs.declared.SendChannelReliable.{SendChannelReliable}

abbrev pub Bytes : Type 0
Bytes = List ℕ

-- when something was last sent, if ever
abbrev pub Sent : Type 0
Sent = prelude.Option ℕ

-- a piece, by its message's id and its index; a small message is one piece
pub data Part : Type 0 where
  whole : ℕ → Part
  piece : ℕ → ℕ → Part

-- ---- the two ends, each with its own two stores

pub record Sending : Type 0 where
  pub state : SendChannelReliable
  pub small : Bytes
  pub lanes : Bytes

-- the pieces that the receiver took and ignored, and the numbers with which arrivals were refused
pub record Receiving : Type 0 where
  pub state : ReceiveChannelReliable
  pub small : Bytes
  pub lanes : Bytes
  pub took : List Part
  pub ignored : List Part
  pub refused : List ℕ

-- with what was queued, when the last accepted round was, the packets that accepted rounds wrote, and what was handed out
pub record World : Type 0 where
  pub sender : Sending
  pub receiver : Receiving
  pub queued : List Bytes
  pub last : Sent
  pub wire : List Bytes
  pub out : List Bytes

-- ---- a new sender and a new ordered receiver

pub record Setup : Type 0 where
  pub channel : ℕ
  pub sending : Settings
  pub resend : ℕ
  pub receiving : Settings
  pub sender-small : Bytes
  pub sender-lanes : Bytes
  pub receiver-small : Bytes
  pub receiver-lanes : Bytes

-- settings that are accepted; a channel is a byte. The stores may hold any bytes and have any size: with stores too short each call is refused
pub record Accepted (u : Setup) : Type 0 where
  pub sending : settings_refusal u.sending ≡ 0
  pub receiving : settings_refusal u.receiving ≡ 0
  pub channel : u.channel < 256

unfoldable pub new : Setup → World
new u =
    record {
      sender = record { state = s.new_of u.channel u.sending u.resend; small = u.sender-small; lanes = u.sender-lanes };
      receiver = record { state = r.new_of u.receiving; small = u.receiver-small; lanes = u.receiver-lanes; took = []; ignored = []; refused = [] };
      queued = [];
      last = None;
      wire = [];
      out = [];
    }

-- ---- what may happen. Memory that is lent beside the stores comes with the call

pub data Event : Type 0 where
  -- the sender is given a message
  queues : Bytes → Event
  -- the sender's round: its first sequence, the time, the allowance, and the bytes and the packet table that are lent
  rounds : ℕ → ℕ → ℕ → Bytes → List ℕ → Event
  -- packet k of all that accepted rounds ever wrote arrives, and is read with these tables lent for messages and ranges
  arrives : ℕ → List ℕ → List ℕ → Event
  -- the receiver is looked at
  looks : Event
  -- the receiver is asked for the next message
  takes : Event
  -- the sender hears of piece k of all that the receiver ever took
  hears : ℕ → Event

-- ---- queueing

abbrev pub spot_now : Bytes → Sending → q.Spot
spot_now msg e = q.spot_of e.state (length msg) (length e.small) (length e.lanes)

abbrev pub queued_at : q.Spot → Bytes → List Bytes → List Bytes
queued_at (q.cell i) msg ms = ms ++ (msg ∷ [])
queued_at (q.lane l) msg ms = ms ++ (msg ∷ [])
queued_at (q.refused e) msg ms = ms

unfoldable pub queueing : Bytes → World → World
queueing msg w =
    record {
      sender = record {
        state = q.state_at w.sender.state (length msg) (spot_now msg w.sender);
        small = q.small_at_of (spot_now msg w.sender) msg w.sender.small;
        lanes = q.lanes_at w.sender.state (spot_now msg w.sender) msg w.sender.lanes;
      };
      receiver = w.receiver;
      queued = queued_at (spot_now msg w.sender) msg w.queued;
      last = w.last;
      wire = w.wire;
      out = w.out;
    }

-- ---- a round

abbrev pub given_now : ℕ → ℕ → ℕ → Sending → Given
given_now seq now allowance e = record { seq = seq; now = now; allowance = allowance; small = e.small; lanes = e.lanes }

-- k packets, where a round's table says that they lie in its bytes: start and length of each
unfoldable pub cut : Bytes → List ℕ → ℕ → ℕ → List Bytes
cut out table j zero = []
cut out table j (suc k) = take (get_or table (ENTRY * j + 1) 0) (drop (get_or table (ENTRY * j) 0) out) ∷ cut out table (j + 1) k

-- the packets that an accepted round writes
unfoldable pub written : SendChannelReliable → Given → Bytes → List ℕ → List Bytes
written s g out table =
    cut (out_after (lent s g) g.seq (packs s g) out) (table_after (lent s g) g.seq (packs s g) table) 0 (length (packs s g))

-- whether it is accepted
abbrev pub goes : SendChannelReliable → Given → Bytes → List ℕ → Bool
goes s g out table = eqb (refusal_of s g (length out) (length table)) 0

unfoldable pub sending : Given → Bytes → List ℕ → World → World
sending g out table w =
    pick (goes w.sender.state g out table)
    (record {
      sender = record { state = state_after w.sender.state g; small = w.sender.small; lanes = w.sender.lanes };
      receiver = w.receiver;
      queued = w.queued;
      last = Some g.now;
      wire = w.wire ++ written w.sender.state g out table;
      out = w.out;
    })
    w

-- ---- an arrival: the packet is read, and each message or piece that it holds is handed to the receiver

pub data Handed : Type 0 where
  message : ℕ → Bytes → Handed
  -- id, num_slices, index
  slice : ℕ → ℕ → ℕ → Bytes → Handed

abbrev pub message_in : Bytes → small.Message → Handed
message_in bs m = message m.id (take m.len (drop m.place bs))

-- what the reader's answer and its table of messages tell of a packet
abbrev pub handed_by : Bytes → Res reader.Told → List ℕ → List Handed
handed_by bs (ok (small_reliable p) used) table = map (message_in bs) (listed table 0 p.count)
handed_by bs (ok (small_unreliable p) used) table = []
handed_by bs (ok (reliable_slice p) used) table = slice p.id p.num-slices p.index (take p.len (drop p.place bs)) ∷ []
handed_by bs (ok (unreliable_slice p) used) table = []
handed_by bs (ok (ack p) used) table = []
handed_by bs (fault e) table = []

abbrev pub read_with : Bytes → List ℕ → List ℕ → Res reader.Packet
read_with bs ms rs = reader.judged (reader.packet bs 0) (length ms) (length rs)

unfoldable pub handed : Bytes → List ℕ → List ℕ → List Handed
handed bs ms rs = handed_by bs (reader.told (read_with bs ms rs)) (reader.leaves reader.messages_of (read_with bs ms rs) ms)

-- the receiver's answers
abbrev pub took_now : r.Outcome → Part → List Part → List Part
took_now r.taken p ps = ps ++ (p ∷ [])
took_now r.ignored p ps = ps
took_now (r.refused e) p ps = ps

abbrev pub ignored_now : r.Outcome → Part → List Part → List Part
ignored_now r.taken p ps = ps
ignored_now r.ignored p ps = ps ++ (p ∷ [])
ignored_now (r.refused e) p ps = ps

abbrev pub refused_now : r.Outcome → List ℕ → List ℕ
refused_now r.taken es = es
refused_now r.ignored es = es
refused_now (r.refused e) es = es ++ (e ∷ [])

abbrev pub message_spot_now : Receiving → ℕ → Bytes → r.MessageSpot
message_spot_now e id bs = r.message_spot e.state id (length bs) (length e.small) (length e.lanes)

abbrev pub slice_spot_now : Receiving → ℕ → ℕ → ℕ → Bytes → r.SliceSpot
slice_spot_now e id num i bs = r.slice_spot e.state id num i (length bs) (length e.small) (length e.lanes)

unfoldable pub receives : Receiving → Handed → Receiving
receives e (message id bs) =
    record {
      state = r.message_state e.state id (length bs) (message_spot_now e id bs);
      small = r.message_bytes (message_spot_now e id bs) bs e.small;
      lanes = e.lanes;
      took = took_now (r.message_answer_of (message_spot_now e id bs)) (whole id) e.took;
      ignored = ignored_now (r.message_answer_of (message_spot_now e id bs)) (whole id) e.ignored;
      refused = refused_now (r.message_answer_of (message_spot_now e id bs)) e.refused;
    }
receives e (slice id num i bs) =
    record {
      state = r.slice_state e.state id num i (length bs) (slice_spot_now e id num i bs);
      small = e.small;
      lanes = r.slice_bytes e.state i bs (slice_spot_now e id num i bs) e.lanes;
      took = took_now (r.slice_answer_of (slice_spot_now e id num i bs)) (piece id i) e.took;
      ignored = ignored_now (r.slice_answer_of (slice_spot_now e id num i bs)) (piece id i) e.ignored;
      refused = refused_now (r.slice_answer_of (slice_spot_now e id num i bs)) e.refused;
    }

-- the reader's own refusal
abbrev pub fault_of : Res reader.Packet → List ℕ
fault_of (ok p used) = []
fault_of (fault e) = e ∷ []

abbrev pub noting : List ℕ → Receiving → Receiving
noting es e = record { state = e.state; small = e.small; lanes = e.lanes; took = e.took; ignored = e.ignored; refused = e.refused ++ es }

unfoldable pub arriving : Option Bytes → List ℕ → List ℕ → World → World
arriving none ms rs w = w
arriving (some bs) ms rs w =
    record {
      sender = w.sender;
      receiver = reached receives (noting (fault_of (read_with bs ms rs)) w.receiver) (handed bs ms rs);
      queued = w.queued;
      last = w.last;
      wire = w.wire;
      out = w.out;
    }

-- ---- a take: what it hands out is the part of the store that a look at that moment gives

abbrev pub part_now : Receiving → Bytes
part_now e = r.part_at (r.look_at e.state (length e.small) (length e.lanes)) e.small e.lanes

abbrev pub out_at : r.Waiting → Bytes → List Bytes → List Bytes
out_at (r.message id store place len) part out = out ++ (part ∷ [])
out_at r.none-waiting part out = out
out_at (r.refusing e) part out = out

abbrev pub took_one : Receiving → Receiving
took_one e = record { state = r.after_take e.state; small = e.small; lanes = e.lanes; took = e.took; ignored = e.ignored; refused = e.refused }

unfoldable pub taking : World → World
taking w =
    record {
      sender = w.sender;
      receiver = took_one w.receiver;
      queued = w.queued;
      last = w.last;
      wire = w.wire;
      out = out_at (r.waiting w.receiver.state) (part_now w.receiver) w.out;
    }

-- ---- an acknowledgement

abbrev pub ack_of : Option Part → SendChannelReliable → SendChannelReliable
ack_of none s = s
ack_of (some (whole id)) s = (ack_small s id).state
ack_of (some (piece id i)) s = (ack_piece s id i).state

unfoldable pub hearing : Option Part → World → World
hearing p w =
    record {
      sender = record { state = ack_of p w.sender.state; small = w.sender.small; lanes = w.sender.lanes };
      receiver = w.receiver;
      queued = w.queued;
      last = w.last;
      wire = w.wire;
      out = w.out;
    }

-- ---- one event, and any number of them

unfoldable pub step : Event → World → World
step (queues msg) w = queueing msg w
step (rounds seq now allowance out table) w = sending (given_now seq now allowance w.sender) out table w
step (arrives k ms rs) w = arriving (get_elem? w.wire k) ms rs w
step looks w = w
step takes w = taking w
step (hears k) w = hearing (get_elem? w.receiver.took k) w

unfoldable pub run : List Event → World → World
run [] w = w
run (ev ∷ evs) w = run evs (step ev w)

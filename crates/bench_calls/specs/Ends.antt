-- What is done with the four ends: each step is a call of the library, by that call's own promise. Assumes nothing.
use Rattle.std.specs.Prelude.{ℕ, ◌≡◌, List}
use Rattle.words.specs.Sizes.{SLOTS, LANES, PIECES, MAX_MEMORY}
use Rattle.channel.specs.declared.Settings.{Settings}
use Rattle.pack.specs.Round.{Outcome, sent, refused, went_of}
use Rattle.send_reliable.specs.Sender as sr
use Rattle.send_reliable.specs.Queue as sr_queue
use Rattle.send_reliable.specs.Ack as sr_ack
use Rattle.send_reliable.specs.Round as sr_round
use Rattle.send_reliable.specs.declared.SendChannelReliable.{SendChannelReliable}
use Rattle.send_unreliable.specs.Sender as su
use Rattle.send_unreliable.specs.Round as su_round
use Rattle.send_unreliable.specs.declared.SendChannelUnreliable.{SendChannelUnreliable}
use Rattle.receive_reliable.specs.Receive as rr
use Rattle.receive_reliable.specs.declared.ReceiveChannelReliable.{ReceiveChannelReliable}
use Rattle.receive_unreliable.specs.Receive as ru
use Rattle.receive_unreliable.specs.declared.ReceiveChannelUnreliable.{ReceiveChannelUnreliable}
use Rattle.bench_calls.specs.Times.{Times, Left, Held, Filled, UsageLeft}

abbrev pub largest : Settings
largest = record { slots = SLOTS; lanes = LANES; pieces = PIECES; max_memory_usage_bytes = MAX_MEMORY }

-- enough for everything that waits
abbrev pub ALLOWANCE : ℕ
ALLOWANCE = 1000000

-- how many packets a round had, 0 for a refusal
abbrev pub packets_said : Outcome → ℕ
packets_said (sent w) = w.packets
packets_said (refused e) = 0

-- ---- the reliable sender

abbrev pub SrNew : SendChannelReliable → Type 0
SrNew s = Left (sr.MadeGives 0 largest 0) (λ (r : sr.Made). r.state) s

-- the message is queued
abbrev pub SrQueues : List ℕ → ℕ → Held SendChannelReliable → Held SendChannelReliable → Type 0
SrQueues msg k a b =
    Left (sr_queue.QueueGives a.state msg a.small a.lanes b.small b.lanes) (λ (r : sr_queue.Queued). r.state) b.state

-- message k is acknowledged
abbrev pub SrAcks : ℕ → SendChannelReliable → SendChannelReliable → Type 0
SrAcks k a b = Left (sr_ack.AckGives (sr_ack.ack_small a k)) (λ (r : sr_ack.Acked). r.state) b

-- piece k of message 0 is acknowledged
abbrev pub SrAcksPiece : ℕ → SendChannelReliable → SendChannelReliable → Type 0
SrAcksPiece k a b = Left (sr_ack.AckGives (sr_ack.ack_piece a 0 k)) (λ (r : sr_ack.Acked). r.state) b

abbrev pub sr_usage : SendChannelReliable → ℕ
sr_usage s = s.memory_usage_bytes

-- queued n times, and the first m messages acknowledged: the usage that is left
abbrev pub SrMessages : ℕ → ℕ → List ℕ → List ℕ → List ℕ → List ℕ → List ℕ → ℕ → Type 0
SrMessages n m msg = UsageLeft SrNew (SrQueues msg) n SrAcks m sr_usage

-- queued once, and its first m pieces acknowledged
abbrev pub SrPieces : ℕ → List ℕ → List ℕ → List ℕ → List ℕ → List ℕ → ℕ → Type 0
SrPieces m msg = UsageLeft SrNew (SrQueues msg) 1 SrAcksPiece m sr_usage

-- a sender with the bytes and the table that its rounds write to, and how many packets the last round had
pub record Sending : Type 0 where
  pub state : SendChannelReliable
  pub out : List ℕ
  pub table : List ℕ
  pub packets : ℕ

abbrev pub sending : SendChannelReliable → List ℕ → List ℕ → ℕ → Sending
sending s out table packets = record { state = s; out = out; table = table; packets = packets }

-- all that waits is sent; with no resend time and at the same time every round sends all of it
pub record SrSends (small lanes : List ℕ) (k : ℕ) (a b : Sending) : Type 0 where
  pub round : sr_round.Round
  pub gives : sr_round.RoundGives a.state (record { seq = 0; now = 0; allowance = ALLOWANCE; small = small; lanes = lanes })
      a.out a.table b.out b.table round
  pub state : b.state ≡ round.state
  pub packets : b.packets ≡ packets_said (went_of round.answer)

-- so many rounds: the last of them had r packets, 0 where there was none
pub record SrSent (small lanes : List ℕ) (rounds : ℕ) (s : SendChannelReliable) (out table out' table' : List ℕ) (r : ℕ) : Type 0 where
  pub rest : SendChannelReliable
  pub rounds-sent : Times (SrSends small lanes) rounds (sending s out table 0) (sending rest out' table' r)

-- so many of a sender that a message was queued in n times
pub record SrRounds (n rounds : ℕ) (msg small lanes out table small' lanes' out' table' : List ℕ) (r : ℕ) : Type 0 where
  pub full : SendChannelReliable
  pub filled : Filled SrNew (SrQueues msg) n small lanes small' lanes' full
  pub sends : SrSent small' lanes' rounds full out table out' table' r

-- ---- the unreliable sender

abbrev pub SuNew : SendChannelUnreliable → Type 0
SuNew s = Left (su.MadeGives 0 largest) (λ (r : su.Made). r.state) s

abbrev pub SuQueues : List ℕ → ℕ → Held SendChannelUnreliable → Held SendChannelUnreliable → Type 0
SuQueues msg k a b = Left (su.QueueGives a.state msg a.small a.lanes b.small b.lanes) (λ (r : su.Queued). r.state) b.state

-- the usage of a sender that a message was queued in n times
pub record SuUsage (n : ℕ) (msg small lanes small' lanes' : List ℕ) (r : ℕ) : Type 0 where
  pub full : SendChannelUnreliable
  pub filled : Filled SuNew (SuQueues msg) n small lanes small' lanes' full
  pub answer : r ≡ full.memory_usage_bytes

-- the round of such a sender
pub record SuRound (n : ℕ) (msg small lanes out table small' lanes' out' table' : List ℕ) (r : ℕ) : Type 0 where
  pub full : SendChannelUnreliable
  pub filled : Filled SuNew (SuQueues msg) n small lanes small' lanes' full
  pub round : su_round.Round
  pub gives : su_round.RoundGives full (record { seq = 0; allowance = ALLOWANCE; small = small'; lanes = lanes' }) out table out' table' round
  pub answer : r ≡ packets_said (went_of round.answer)

-- ---- the reliable receiver

abbrev pub RrNew : ReceiveChannelReliable → Type 0
RrNew s = Left (rr.MadeGives largest) (λ (r : rr.Made). r.state) s

-- small message k arrives
abbrev pub RrHears : List ℕ → ℕ → Held ReceiveChannelReliable → Held ReceiveChannelReliable → Type 0
RrHears msg k a b =
    Left (rr.MessageGives a.state k msg a.small a.lanes b.small) (λ (r : rr.Arrived). r.state) b.state × (b.lanes ≡ a.lanes)

-- piece k of message 0 arrives, which has n pieces
abbrev pub RrCollects : ℕ → List ℕ → ℕ → Held ReceiveChannelReliable → Held ReceiveChannelReliable → Type 0
RrCollects n piece k a b =
    Left (rr.SliceGives a.state 0 n k piece a.small a.lanes b.lanes) (λ (r : rr.Arrived). r.state) b.state × (b.small ≡ a.small)

-- the next message is taken out
abbrev pub RrTakes : ℕ → ReceiveChannelReliable → ReceiveChannelReliable → Type 0
RrTakes k a b = Left (rr.TakeGives a) (λ (r : rr.Received). r.state) b

abbrev pub rr_usage : ReceiveChannelReliable → ℕ
rr_usage s = s.memory_usage_bytes

-- n messages arrive, and m are taken: the usage that is left
abbrev pub RrMessages : ℕ → ℕ → List ℕ → List ℕ → List ℕ → List ℕ → List ℕ → ℕ → Type 0
RrMessages n m msg = UsageLeft RrNew (RrHears msg) n RrTakes m rr_usage

-- the n pieces of a message arrive, and m messages are taken
abbrev pub RrPieces : ℕ → ℕ → List ℕ → List ℕ → List ℕ → List ℕ → List ℕ → ℕ → Type 0
RrPieces n m piece = UsageLeft RrNew (RrCollects n piece) n RrTakes m rr_usage

-- ---- the unreliable receiver

abbrev pub RuNew : ReceiveChannelUnreliable → Type 0
RuNew s = Left (ru.MadeGives largest) (λ (r : ru.Made). r.state) s

-- a small message arrives
abbrev pub RuHears : List ℕ → ℕ → Held ReceiveChannelUnreliable → Held ReceiveChannelUnreliable → Type 0
RuHears msg k a b =
    Left (ru.MessageGives a.state msg a.small a.lanes b.small) (λ (r : ru.Arrived). r.state) b.state × (b.lanes ≡ a.lanes)

-- piece k of message 0 arrives at time 0, which has n pieces
abbrev pub RuCollects : ℕ → List ℕ → ℕ → Held ReceiveChannelUnreliable → Held ReceiveChannelUnreliable → Type 0
RuCollects n piece k a b =
    Left (ru.SliceGives a.state 0 n k piece 0 a.small a.lanes b.lanes) (λ (r : ru.Arrived). r.state) b.state × (b.small ≡ a.small)

-- the next message is taken out
abbrev pub RuTakes : ℕ → ReceiveChannelUnreliable → ReceiveChannelUnreliable → Type 0
RuTakes k a b = Left (ru.TakeGives a) (λ (r : ru.Received). r.state) b

abbrev pub ru_usage : ReceiveChannelUnreliable → ℕ
ru_usage s = s.memory_usage_bytes

-- n messages arrive, and m are taken: the usage that is left
abbrev pub RuMessages : ℕ → ℕ → List ℕ → List ℕ → List ℕ → List ℕ → List ℕ → ℕ → Type 0
RuMessages n m msg = UsageLeft RuNew (RuHears msg) n RuTakes m ru_usage

-- the n pieces of a message arrive, and m messages are taken
abbrev pub RuPieces : ℕ → ℕ → List ℕ → List ℕ → List ℕ → List ℕ → List ℕ → ℕ → Type 0
RuPieces n m piece = UsageLeft RuNew (RuCollects n piece) n RuTakes m ru_usage

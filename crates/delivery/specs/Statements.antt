-- Demand 3, sentence by sentence, of a new sender and a new ordered receiver (`new`), after any events (`run`). Assumes nothing.
use Rattle.std.specs.Prelude.{ℕ, ◌*◌, ◌≤◌, ◌<◌, ◌≡◌, Bool, true, List, [], ◌∷◌, ◌++◌, ◌⊎◌, length, get_or, take, leb}
use Rattle.std.proofs.Math.Option.{some}
use Rattle.std.proofs.Math.ListN.{get_elem?}
use Rattle.words.specs.Sizes.{SLICE_SIZE}
use Rattle.words.specs.Choice.{pick}
use Rattle.words.specs.Pieces.{pieces_of}
use Rattle.words.specs.Lists.{total}
use Rattle.octets.specs.Reader.{ok}
use Rattle.packet.specs.Packet as reader
use Rattle.channel.specs.Settings.{stores_hold_of}
use Rattle.send_reliable.specs.Sender.{live}
use Rattle.send_reliable.specs.declared.Row.{Row}
use Rattle.delivery.specs.World.{Bytes, Part, World, Setup, Accepted, new, Event, queues, rounds, arrives, looks, takes, hears, step, run}
use Rattle.delivery.specs.Window.{In, unacknowledged, parts_said, sent_in, acked_in, rounds_in, Steady}

-- a new pair, after these events
abbrev pub after : Setup → List Event → World
after c evs = run evs (new c)

-- ---- "what is handed out is always a beginning of what was queued, byte for byte, each message once"

abbrev pub Prefix : Type 0
Prefix = (c : Setup) → Accepted c → (evs : List Event) → (after c evs).out ≡ take (length (after c evs).out) (after c evs).queued

-- ---- "the oldest unacknowledged message, with u pieces unacknowledged, can't be starved: within the next u accepted rounds, each allowed 1,200
-- bytes or more and each at least the resend time after the round before, every such piece is sent or acknowledged, whatever else is queued"

-- r is the oldest unacknowledged message: the first of those that wait, whose ids rise
abbrev pub Oldest : World → Row → Type 0
Oldest w r = (rs : List Row) × (live w.sender.state ≡ r ∷ rs)

-- a window that is steady, with as many accepted rounds as r has pieces unacknowledged
pub record Enough (w : World) (r : Row) (window : List Event) : Type 0 where
  pub steady : Steady window w
  pub rounds : length (unacknowledged w.sender.state r) ≤ rounds_in window w

abbrev pub NoStarvation : Type 0
NoStarvation =
    (c : Setup) → Accepted c → (past window : List Event) (r : Row) → Oldest (after c past) r → Enough (after c past) r window
    → (p : Part) → In p (unacknowledged (after c past).sender.state r)
    → In p (sent_in window (after c past)) ⊎ In p (acked_in window (after c past))

-- ---- "if all pieces sent in those rounds arrive and none is refused, the receiver has handed that message out, or can once those before it are
-- taken"

-- the receiver took them, or ignored them as old or held
abbrev pub Arrived : List Part → World → Type 0
Arrived ps w = (p : Part) → In p ps → In p w.receiver.took ⊎ In p w.receiver.ignored

-- so it is where a packet that a round wrote arrives and nothing is refused, neither by the reader nor by the receiver
abbrev pub Landing : Type 0
Landing =
    (c : Setup) → Accepted c → (past : List Event) (k : ℕ) (ms rs : List ℕ) (bs : Bytes) → get_elem? (after c past).wire k ≡ some bs
    → (step (arrives k ms rs) (after c past)).receiver.refused ≡ (after c past).receiver.refused
    → Arrived (parts_said (reader.packet bs 0)) (step (arrives k ms rs) (after c past))

-- message n was queued, and it is handed out, or after any events by which exactly those before it are, the next take hands it out
pub record Delivered (n : ℕ) (w : World) : Type 0 where
  pub queued : n < length w.queued
  pub comes : ((n < length w.out) × (get_or w.out n [] ≡ get_or w.queued n []))
      ⊎ ((evs : List Event) → length (run evs w).out ≡ n → (step takes (run evs w)).out ≡ (run evs w).out ++ (get_or w.queued n [] ∷ []))

abbrev pub Arrival : Type 0
Arrival =
    (c : Setup) → Accepted c → (past window later : List Event) (r : Row) → Oldest (after c past) r → Enough (after c past) r window
    → Arrived (sent_in window (after c past)) (run later (run window (after c past)))
    → Delivered r.id.0 (run later (run window (after c past)))

-- ---- the premise is met: document 01, "How far a promise reaches"

abbrev pub is_small : Bytes → Bool
is_small m = leb (length m) SLICE_SIZE

-- at most as many small and sliced messages as the receiver has slots and lanes; the same piece limit; small lengths plus 1,200 per piece fit the
-- receiver's maximum; the stores are lent whole
pub record Fits (c : Setup) (queued : List Bytes) : Type 0 where
  pub small : total (λ (m : Bytes). pick (is_small m) 1 0) queued ≤ c.receiving.slots
  pub sliced : total (λ (m : Bytes). pick (is_small m) 0 1) queued ≤ c.receiving.lanes
  pub pieces : c.sending.pieces ≡ c.receiving.pieces
  pub memory : total (λ (m : Bytes). pick (is_small m) (length m) (SLICE_SIZE * pieces_of (length m))) queued ≤ c.receiving.max_memory_usage_bytes
  pub stores : stores_hold_of c.receiving (length c.receiver-small) (length c.receiver-lanes) ≡ true

-- and the reader's table holds every message of a packet
abbrev pub TabledNow : Event → World → Type 0
TabledNow (queues msg) w = Unit
TabledNow (rounds seq now allowance out table) w = Unit
TabledNow (arrives k ms rs) w =
    (bs : Bytes) (p : reader.Packet) (used : ℕ) → get_elem? w.wire k ≡ some bs → reader.packet bs 0 ≡ ok p used
    → reader.holds p (length ms) (length rs) ≡ true
TabledNow looks w = Unit
TabledNow takes w = Unit
TabledNow (hears k) w = Unit

unfoldable pub Tabled : List Event → World → Type 0
Tabled [] w = Unit
Tabled (ev ∷ evs) w = TabledNow ev w × Tabled evs (step ev w)

-- then no arrival is refused, by the reader or by the receiver
abbrev pub PremiseHolds : Type 0
PremiseHolds = (c : Setup) → Accepted c → (evs : List Event) → Fits c (after c evs).queued → Tabled evs (new c) → (after c evs).receiver.refused ≡ []

-- ---- all together: a receiver with room for all, and a line on which the packets of those rounds come through

-- each of the packets from one on, up to another, arrives, whenever and however often
abbrev pub AllArrive : ℕ → ℕ → List Event → Type 0
AllArrive from to evs = (k : ℕ) → from ≤ k → k < to → (ms : List ℕ) × (rs : List ℕ) × In (arrives k ms rs) evs

-- so the message is delivered, whatever else happens then
abbrev pub Delivery : Type 0
Delivery =
    (c : Setup) → Accepted c → (past window later : List Event) (r : Row) → Oldest (after c past) r → Enough (after c past) r window
    → AllArrive (length (after c past).wire) (length (run window (after c past)).wire) later
    → Fits c (run later (run window (after c past))).queued → Tabled later (run window (after c past))
    → Delivered r.id.0 (run later (run window (after c past)))

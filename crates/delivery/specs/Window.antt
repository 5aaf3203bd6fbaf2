-- What happens in a window of events: which pieces are sent, which are acknowledged, how many rounds are accepted and how they are spaced.
-- Assumes nothing.
use Rattle.std.specs.Prelude.{ℕ, zero, suc, ◌+◌, ◌≤◌, ◌≡◌, Bool, true, List, [], ◌∷◌, ◌++◌, map, None, Some}
use Rattle.std.proofs.Math.Option.{Option, none, some}
use Rattle.std.proofs.Math.ListN.{get_elem?}
use Rattle.words.specs.Sizes.{SLICE_SIZE}
use Rattle.words.specs.Choice.{pick}
use Rattle.words.specs.Pieces.{pieces_of}
use Rattle.octets.specs.Reader.{Res, ok, fault}
use Rattle.packet_small.specs.Small as small
use Rattle.packet.specs.Packet as reader
use Rattle.packet.specs.Packet.{small_reliable, small_unreliable, reliable_slice, unreliable_slice, ack}
use Rattle.send_reliable.specs.Sender.{kind_of, piece_at}
use Rattle.send_reliable.specs.declared.Kind.{Kind}
use Rattle.send_reliable.specs.declared.Kind.TheVariants.{Small, Sliced}
use Rattle.send_reliable.specs.declared.Row.{Row}
use Rattle.send_reliable.specs.declared.SendChannelReliable.{SendChannelReliable}
use Rattle.delivery.specs.World.{Bytes, Sent, Part, whole, piece, World, Event, queues, rounds, arrives, looks, takes, hears, given_now, goes, written, step}

-- an element of a list
pub data In {A : Type 0} (x : A) : List A → Type 0 where
  here : {y : A} {ys : List A} → x ≡ y → In x (y ∷ ys)
  there : {y : A} {ys : List A} → In x ys → In x (y ∷ ys)

-- ---- the pieces of a waiting message that are not acknowledged

-- of the n indices from i on, those that are not acknowledged
unfoldable pub open_from : (ℕ → Bool) → ℕ → ℕ → List ℕ
open_from acked i zero = []
open_from acked i (suc n) = pick (acked i) (open_from acked (i + 1) n) (i ∷ open_from acked (i + 1) n)

abbrev pub acked_at : SendChannelReliable → ℕ → ℕ → Bool
acked_at s l i = (piece_at s l i).acked

abbrev pub open_of : SendChannelReliable → Row → Kind → List Part
open_of s r (Small i t) = whole r.id.0 ∷ []
open_of s r (Sliced l a next) = map (piece r.id.0) (open_from (acked_at s l) 0 (pieces_of r.len))

abbrev pub unacknowledged : SendChannelReliable → Row → List Part
unacknowledged s r = open_of s r (kind_of r)

-- ---- the pieces that are sent: those that the bytes of an accepted round's packets say, read by the reader

abbrev pub parts_said : Res reader.Packet → List Part
parts_said (ok (small_reliable p) used) = map (λ (m : small.Message). whole m.id) p.messages
parts_said (ok (small_unreliable p) used) = []
parts_said (ok (reliable_slice p) used) = piece p.id p.index ∷ []
parts_said (ok (unreliable_slice p) used) = []
parts_said (ok (ack p) used) = []
parts_said (fault e) = []

unfoldable pub sent_by : List Bytes → List Part
sent_by [] = []
sent_by (bs ∷ packets) = parts_said (reader.packet bs 0) ++ sent_by packets

abbrev pub sent_now : Event → World → List Part
sent_now (queues msg) w = []
sent_now (rounds seq now allowance out table) w =
    pick (goes w.sender.state (given_now seq now allowance w.sender) out table) (sent_by (written w.sender.state (given_now seq now allowance w.sender) out table)) []
sent_now (arrives k ms rs) w = []
sent_now looks w = []
sent_now takes w = []
sent_now (hears k) w = []

unfoldable pub sent_in : List Event → World → List Part
sent_in [] w = []
sent_in (ev ∷ evs) w = sent_now ev w ++ sent_in evs (step ev w)

-- ---- the pieces that are acknowledged: those that the sender hears of

abbrev pub optional : Option Part → List Part
optional none = []
optional (some p) = p ∷ []

abbrev pub acked_now : Event → World → List Part
acked_now (queues msg) w = []
acked_now (rounds seq now allowance out table) w = []
acked_now (arrives k ms rs) w = []
acked_now looks w = []
acked_now takes w = []
acked_now (hears k) w = optional (get_elem? w.receiver.took k)

unfoldable pub acked_in : List Event → World → List Part
acked_in [] w = []
acked_in (ev ∷ evs) w = acked_now ev w ++ acked_in evs (step ev w)

-- ---- the accepted rounds

abbrev pub round_now : Event → World → ℕ
round_now (queues msg) w = 0
round_now (rounds seq now allowance out table) w = pick (goes w.sender.state (given_now seq now allowance w.sender) out table) 1 0
round_now (arrives k ms rs) w = 0
round_now looks w = 0
round_now takes w = 0
round_now (hears k) w = 0

unfoldable pub rounds_in : List Event → World → ℕ
rounds_in [] w = 0
rounds_in (ev ∷ evs) w = round_now ev w + rounds_in evs (step ev w)

-- at least the resend time after the round before, if there was one
abbrev pub Spaced : ℕ → Sent → ℕ → Type 0
Spaced resend None now = Unit
Spaced resend (Some t) now = t + resend ≤ now

abbrev pub SteadyNow : Event → World → Type 0
SteadyNow (queues msg) w = Unit
SteadyNow (rounds seq now allowance out table) w =
    goes w.sender.state (given_now seq now allowance w.sender) out table ≡ true
    → (SLICE_SIZE ≤ allowance) × Spaced w.sender.state.resend_time w.last now
SteadyNow (arrives k ms rs) w = Unit
SteadyNow looks w = Unit
SteadyNow takes w = Unit
SteadyNow (hears k) w = Unit

-- each accepted round is allowed 1,200 bytes or more, and is at least the resend time after the round before
unfoldable pub Steady : List Event → World → Type 0
Steady [] w = Unit
Steady (ev ∷ evs) w = SteadyNow ev w × Steady evs (step ev w)

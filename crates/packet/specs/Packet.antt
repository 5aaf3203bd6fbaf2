-- The five kinds of packets, read. Document 01, "Packet layouts" and "Numbers a caller may see". Assumes nothing.
use Rattle.std.specs.Prelude.{ℕ, ◌*◌, ◌≡◌, Bool, true, false, List, length, eqb, leb, Result, Ok, Err}
use Rattle.words.specs.Choice.{pick}
use Rattle.words.specs.Lists.{splice}
use Rattle.words.specs.Refusal.{number_of}
use Rattle.words.specs.declared.Refusal.{Refusal}
use Rattle.octets.specs.Reader.{Res, ok, fault, Reader, ◌>>=◌, byte}
use Rattle.packet_small.specs.Small as s
use Rattle.packet_slice.specs.Slice as l
use Rattle.packet_ack.specs.Ack as a
use Rattle.packet_ack.specs.declared.Range.{Range}
use Rattle.packet.specs.declared.Packet as code
use Rattle.packet.specs.declared.Packet.TheVariants as kind

-- one of the five kinds, over what a packet of small messages, of a piece and of acknowledgements says
pub data Kinds (S L A : Type 0) : Type 0 where
  small_reliable : S → Kinds S L A
  small_unreliable : S → Kinds S L A
  reliable_slice : L → Kinds S L A
  unreliable_slice : L → Kinds S L A
  ack : A → Kinds S L A

abbrev pub Packet : Type 0
Packet = Kinds s.Small l.Slice a.Ack

-- ---- the layout

-- the same result, as one of a kind
abbrev pub mapped : {A B : Type 0} → (A → B) → Res A → Res B
mapped f (ok v next) = ok (f v) next
mapped f (fault e) = fault e

abbrev pub kindly : {A B : Type 0} → (A → B) → Reader A → Reader B
kindly f m bs at = mapped f (m bs at)

-- what follows a type byte; one above 4 is refused: 6
unfoldable pub body : ℕ → Reader Packet
body t =
    pick (eqb t 0) (kindly small_reliable (s.small true))
    (pick (eqb t 1) (kindly small_unreliable (s.small false))
    (pick (eqb t 2) (kindly reliable_slice (l.slice true))
    (pick (eqb t 3) (kindly unreliable_slice (l.slice false))
    (pick (eqb t 4) (kindly ack a.ack)
    (λ bs at. fault 6)))))

-- type byte, then
unfoldable pub packet : Reader Packet
packet = do
  t ← byte
  body t

-- ---- what the reader answers, and what it leaves of the lent tables

-- whether tables of m words for messages and of n records for ranges hold its entries
abbrev pub holds : Packet → ℕ → ℕ → Bool
holds (small_reliable p) m n = leb (s.RECORD * length p.messages) m
holds (small_unreliable p) m n = leb (s.RECORD * length p.messages) m
holds (reliable_slice p) m n = true
holds (unreliable_slice p) m n = true
holds (ack p) m n = leb (length p.ranges) n

-- a good packet with more entries than its lent table: 11, after 1 to 6
unfoldable pub judged : Res Packet → ℕ → ℕ → Res Packet
judged (ok p next) m n = pick (holds p m n) (ok p next) (fault 11)
judged (fault e) m n = fault e

-- the lent table of messages afterwards
abbrev pub messages_of : Packet → List ℕ → List ℕ
messages_of (small_reliable p) t = splice 0 (s.words p.messages) t
messages_of (small_unreliable p) t = splice 0 (s.words p.messages) t
messages_of (reliable_slice p) t = t
messages_of (unreliable_slice p) t = t
messages_of (ack p) t = t

-- the lent table of ranges afterwards
abbrev pub ranges_of : Packet → List Range → List Range
ranges_of (small_reliable p) t = t
ranges_of (small_unreliable p) t = t
ranges_of (reliable_slice p) t = t
ranges_of (unreliable_slice p) t = t
ranges_of (ack p) t = splice 0 p.ranges t

-- a refusal changes no entry of any table
abbrev pub leaves : {A : Type 0} → (Packet → List A → List A) → Res Packet → List A → List A
leaves f (ok p next) t = f p t
leaves f (fault e) t = t

-- what is told beside the tables: the kind, its numbers, how many entries there are
abbrev pub Told : Type 0
Told = Kinds s.Told l.Slice a.Told

abbrev pub told_of : Packet → Told
told_of (small_reliable p) = small_reliable (record { sequence = p.sequence; channel = p.channel; count = length p.messages })
told_of (small_unreliable p) = small_unreliable (record { sequence = p.sequence; channel = p.channel; count = length p.messages })
told_of (reliable_slice p) = reliable_slice p
told_of (unreliable_slice p) = unreliable_slice p
told_of (ack p) = ack (record { sequence = p.sequence; count = length p.ranges })

abbrev pub told : Res Packet → Res Told
told (ok p next) = ok (told_of p) next
told (fault e) = fault e

-- ---- what the code's values say

abbrev pub packet_of : code.Packet → Told
packet_of (kind.SmallReliable p) = small_reliable (record { sequence = p.sequence.0; channel = p.channel_id; count = p.count })
packet_of (kind.SmallUnreliable p) = small_unreliable (record { sequence = p.sequence.0; channel = p.channel_id; count = p.count })
packet_of (kind.ReliableSlice p) = reliable_slice (l.slice_of p)
packet_of (kind.UnreliableSlice p) = unreliable_slice (l.slice_of p)
packet_of (kind.Ack p) = ack (record { sequence = p.sequence.0; count = p.count })

-- the packet and the bytes used, or the number of the refusal
abbrev pub decoded_of : Result (code.Packet × ℕ) Refusal → Res Told
decoded_of (Ok (p, used)) = ok (packet_of p) used
decoded_of (Err e) = fault (number_of e)

-- the same of the answers of each layout's reader
abbrev pub decoded_small_of : Bool → Res s.Told → Res Told
decoded_small_of true r = mapped small_reliable r
decoded_small_of false r = mapped small_unreliable r

abbrev pub decoded_slice_of : Bool → Res l.Slice → Res Told
decoded_slice_of true r = mapped reliable_slice r
decoded_slice_of false r = mapped unreliable_slice r

abbrev pub decoded_ack_of : Res a.Told → Res Told
decoded_ack_of r = mapped ack r

-- ---- what reading gives, all of it

-- with the tables ms and rs lent for messages and ranges: the answer, and what is in them afterwards
pub record DecodeGives (bs ms : List ℕ) (rs : List Range) (ms' : List ℕ) (rs' : List Range) (d : Result (code.Packet × ℕ) Refusal) : Type 0 where
  pub answer : decoded_of d ≡ told (judged (packet bs 0) (length ms) (length rs))
  pub messages : ms' ≡ leaves messages_of (judged (packet bs 0) (length ms) (length rs)) ms
  pub ranges : rs' ≡ leaves ranges_of (judged (packet bs 0) (length ms) (length rs)) rs

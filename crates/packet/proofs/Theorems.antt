-- The five kinds together: the reader accepts exactly the spellings of document 01's layouts and says what they say; what is written is read
-- back; and each promise admits one outcome. Assumes nothing.
use Prim.Native.Nat.{ℕ, ◌+◌, ◌≤◌, ◌<◌}
use mathlib.Core.Path.{◌≡◌, refl, sym, ap, ◌∙◌, subst}
use mathlib.Core.Bool.{Bool, true, false, not}
use mathlib.Core.List.{List, [], ◌∷◌, ◌++◌, map}
use native.Mathlib.Omega.{arith}
use borrow.Author.Tests.{ltb-true, leb-false, eqb-true, not-false}
use lib.Dec.{ltb, leb, eqb}
use lib.ListN.{length, get_or, take}
use Rattle.words.specs.Sizes.{LIMIT}
use Rattle.words.specs.Choice.{pick, refusal}
use Rattle.words.specs.Lists.{All, all}
use Rattle.words.proofs.Lists.{numbered, none-refused}
use Rattle.words.proofs.Unique.{told-apart, refusal_of, refusal-undone}
use Rattle.octets.specs.Reader.{Res, ok, fault, byte}
use Rattle.octets.specs.Writer.{done, refused, outcome, put_of, left}
use Rattle.octets.specs.Spelling.{Bytes}
use Rattle.octets.proofs.Read.{byte-there}
use Rattle.octets.proofs.Theorems as octets
use Rattle.packet_small.specs.Small as s
use Rattle.packet_small.specs.Write as sw
use Rattle.packet_small.specs.Layout.{SmallSpelt, small_said}
use Rattle.packet_small.proofs.Theorems as small
use Rattle.packet_small.proofs.Written.{accepts}
use Rattle.packet_slice.specs.Slice as l
use Rattle.packet_slice.specs.Write as lw
use Rattle.packet_slice.specs.Layout.{SliceSpelt}
use Rattle.packet_slice.specs.Layout as layout
use Rattle.packet_slice.proofs.Judge.{accepted}
use Rattle.packet_slice.proofs.Written.{sayable}
use Rattle.packet_slice.proofs.Theorems as slice
use Rattle.packet_ack.specs.Ack as a
use Rattle.packet_ack.specs.declared.Range.{Range}
use Rattle.packet_ack.specs.Write as aw
use Rattle.packet_ack.specs.Layout.{AckSpelt}
use Rattle.packet_ack.specs.Layout as alayout
use Rattle.packet_ack.proofs.Theorems as acks
use Rattle.packet.specs.Packet.{Packet, small_reliable, small_unreliable, reliable_slice, unreliable_slice, ack, mapped, body, packet, Told, packet_of, decoded_of, DecodeGives}
use Rattle.packet.specs.declared.Packet as code
use Rattle.packet.specs.Steps.{ReadGives}
use Rattle.packet.specs.declared.DecodedTable.{DecodedTable}
use Rattle.std.specs.Prelude.{Result, Ok, Err}
use Rattle.words.specs.declared.Refusal.{Refusal}
use Rattle.packet.specs.declared.Packet.TheVariants as kind
use Rattle.packet.specs.Write.{encoded, bytes_of}
use Rattle.packet.specs.Layout.{Said, Spelt, said_in, said_by, AllowedSlice, Allowed, ByteChannel}
use Rattle.packet.proofs.Read.{small_kind, slice_kind, packet-is}

-- ---- the reader accepts exactly the spellings

from-mapped : {A : Type 0} (f : A → Packet) (r : Res A) {p : Packet} {next : ℕ} → mapped f r ≡ ok p next → (v : A) × (r ≡ ok v next) × (f v ≡ p)
from-mapped f (ok v n) e = (v, cc, cc)
from-mapped f (fault x) e = let z : ◌≡◌ {A = ℕ} 0 1 = cc in absurd (omega arith)

no-packet : {x : ℕ} {p : Packet} {next : ℕ} → ◌≡◌ {A = Res Packet} (fault x) (ok p next) → ⊥
no-packet e = let z : ◌≡◌ {A = ℕ} 0 1 = cc in omega arith

-- a packet that was read is spelt by the bytes that it used, and says what they say
abbrev pub Sound : List ℕ → ℕ → Packet → Type 0
Sound bs used p = Spelt (said_in bs p) (take used bs) × (used ≤ length bs)

module _ (bs : List ℕ) (w : Bytes bs) (h : 1 ≤ length bs) {p : Packet} {used : ℕ} where
  small-sound : (ids : Bool) → ((v : s.Small) → SmallSpelt ids (small_said bs v) (take used bs) × (used ≤ length bs) → Sound bs used (small_kind ids v))
      → get_or bs 0 0 ≡ sw.type_byte_of ids → mapped (small_kind ids) (s.small ids bs 1) ≡ ok p used → Sound bs used p
  small-sound ids f t e =
      let m = from-mapped (small_kind ids) (s.small ids bs 1) e in
      subst (Sound bs used) m.2 (f m.0 (small.sound w (record { packet-read = m.0; type-is = sym (byte-there bs 0 h (sym t)); rest-is = m.1; says = refl })))

  slice-sound : (reliable : Bool) → ((v : l.Slice) → SliceSpelt reliable (lw.slice_said bs v) (take used bs) × (used ≤ length bs) → Sound bs used (slice_kind reliable v))
      → get_or bs 0 0 ≡ lw.type_byte_of reliable → mapped (slice_kind reliable) (l.slice reliable bs 1) ≡ ok p used → Sound bs used p
  slice-sound reliable f t e =
      let m = from-mapped (slice_kind reliable) (l.slice reliable bs 1) e in
      subst (Sound bs used) m.2 (f m.0 (slice.sound reliable bs w t m.1))

  ack-sound : get_or bs 0 0 ≡ aw.type_byte_of → mapped ack (a.ack bs 1) ≡ ok p used → Sound bs used p
  ack-sound t e =
      let m = from-mapped ack (a.ack bs 1) e in
      subst (Sound bs used) m.2 (flip (first bs t w m.1))
    where
      flip : {P Q : Type 0} → P × Q → Q × P
      flip x = (x.1, x.0)

      first : (bs : List ℕ) → get_or bs 0 0 ≡ aw.type_byte_of → Bytes bs → {v : a.Ack} → a.ack bs 1 ≡ ok v used → (used ≤ length bs) × AckSpelt v (take used bs)
      first [] t w e = absurd (omega arith)
      first (b ∷ q) t w e = rw t (acks.accepts q (rw t at w) (rw t at e))

  -- by the type byte
  by-type : (a b c d k : Bool) → eqb (get_or bs 0 0) 0 ≡ a → eqb (get_or bs 0 0) 1 ≡ b → eqb (get_or bs 0 0) 2 ≡ c → eqb (get_or bs 0 0) 3 ≡ d → eqb (get_or bs 0 0) 4 ≡ k
      → body (get_or bs 0 0) bs 1 ≡ ok p used → Sound bs used p
  unfolding body
  by-type true b c d k ea eb ec ed ek e = small-sound true (λ v x. x) (eqb-true _ _ ea) (simp ea at e)
  by-type false true c d k ea eb ec ed ek e = small-sound false (λ v x. x) (eqb-true _ _ eb) (simp (ea, eb) at e)
  by-type false false true d k ea eb ec ed ek e = slice-sound true (λ v x. x) (eqb-true _ _ ec) (simp (ea, eb, ec) at e)
  by-type false false false true k ea eb ec ed ek e = slice-sound false (λ v x. x) (eqb-true _ _ ed) (simp (ea, eb, ec, ed) at e)
  by-type false false false false true ea eb ec ed ek e = ack-sound (eqb-true _ _ ek) (simp (ea, eb, ec, ed, ek) at e)
  by-type false false false false false ea eb ec ed ek e = absurd (no-packet (simp (ea, eb, ec, ed, ek) at e))

-- what the reader accepts is a spelling of what it says, within the input
pub sound : (bs : List ℕ) → Bytes bs → {p : Packet} {used : ℕ} → packet bs 0 ≡ ok p used → Sound bs used p
unfolding packet byte
sound bs w {p} {used} e = by_length (ltb 0 (length bs)) refl
  where
    by_length : (b : Bool) → ltb 0 (length bs) ≡ b → Sound bs used p
    by_length true t =
        let h : 1 ≤ length bs = omega (arith, ltb-true 0 (length bs) t) in
        by-type bs w h (eqb (get_or bs 0 0) 0) (eqb (get_or bs 0 0) 1) (eqb (get_or bs 0 0) 2) (eqb (get_or bs 0 0) 3) (eqb (get_or bs 0 0) 4) refl refl refl refl refl (sym (packet-is bs h) ∙ e)
    by_length false t = absurd (no-packet (simp t at e))

-- and every spelling it accepts, with anything after it, and says what it says
pub record Accepted (w : Said) (bs q : List ℕ) : Type 0 where
  pub packet-read : Packet
  pub reads : packet (bs ++ q) 0 ≡ ok packet-read (length bs)
  pub says : said_in (bs ++ q) packet-read ≡ w

slice-type : {reliable : Bool} {w : lw.SliceSaid} {bs : List ℕ} → SliceSpelt reliable w bs → (q : List ℕ) → byte (bs ++ q) 0 ≡ ok (lw.type_byte_of reliable) 1
slice-type (layout.packet v c i x n some few r y) q = sym (byte-there _ 0 (omega arith) refl)

ack-type : {w : a.Ack} {bs : List ℕ} → AckSpelt w bs → (q : List ℕ) → byte (bs ++ q) 0 ≡ ok aw.type_byte_of 1
ack-type (alayout.packet v z l s k r) q = sym (byte-there _ 0 (omega arith) refl)

pub complete : (w : Said) (bs q : List ℕ) → Spelt w bs → Accepted w bs q
unfolding packet body
complete (small_reliable w) bs q x = let r = small.complete x q in record { packet-read = small_reliable r.packet-read; reads = simp (r.type-is, r.rest-is); says = ap small_reliable r.says }
complete (small_unreliable w) bs q x = let r = small.complete x q in record { packet-read = small_unreliable r.packet-read; reads = simp (r.type-is, r.rest-is); says = ap small_unreliable r.says }
complete (reliable_slice w) bs q x = let r = slice.complete x q in record { packet-read = reliable_slice r.packet; reads = simp (slice-type x q, r.read); says = ap reliable_slice r.says }
complete (unreliable_slice w) bs q x = let r = slice.complete x q in record { packet-read = unreliable_slice r.packet; reads = simp (slice-type x q, r.read); says = ap unreliable_slice r.says }
complete (ack w) bs q x = record { packet-read = ack w; reads = simp (ack-type x q, acks.accepted x q); says = refl }

-- ---- what is written is read back

-- an outcome that is no refusal
none-refused-of : (l : List (Bool × ℕ)) → numbered l ≡ true → (k : ℕ) {next : ℕ} → outcome (refusal l) k ≡ done next → All (λ p. p.0 ≡ false) l × (next ≡ k)
none-refused-of l c k {next} h = go (eqb (refusal l) 0) refl h
  where
    go : (t : Bool) → eqb (refusal l) 0 ≡ t → pick t (done k) (refused (refusal l)) ≡ done next → All (λ p. p.0 ≡ false) l × (next ≡ k)
    go true q h = (none-refused l c (eqb-true (refusal l) 0 q), cc)
    go false q h = let z : ◌≡◌ {A = ℕ} 0 1 = cc in absurd (omega arith)

-- a packet that the writer takes is spelt by what it writes, as long as it answers
abbrev pub Written : code.Packet → List ℕ → List Range → List ℕ → ℕ → Type 0
Written p ms rs src len = Spelt (said_by p ms rs src) (bytes_of p ms rs src) × (len ≡ length (bytes_of p ms rs src))

module _ (ms : List ℕ) (rs : List Range) (src : List ℕ) (n : ℕ) {len : ℕ} where
  ack-written : (seq k : ℕ) → aw.put_ack seq rs k 0 n ≡ done len
      → AckSpelt (record { sequence = seq; ranges = aw.listed rs 0 k }) (aw.ack_bytes seq (aw.listed rs 0 k)) × (len ≡ length (aw.ack_bytes seq (aw.listed rs 0 k)))
  unfolding aw.put_ack aw.ack_refusal All
  ack-written seq k e =
      let r = none-refused-of (
      (ltb (length rs) k, 10) ∷
      (leb LIMIT seq, 13) ∷
      (not (all aw.sayable (aw.listed rs 0 k)), 13) ∷
      (not (aw.rising (aw.listed rs 0 k)), 5) ∷
      (ltb n (0 + length (aw.ack_bytes seq (aw.listed rs 0 k))), 1) ∷ []
      ) refl (0 + length (aw.ack_bytes seq (aw.listed rs 0 k))) e in
      (acks.written seq (aw.listed rs 0 k) (leb-false LIMIT seq r.0.1.0) (not-false _ r.0.1.1.0) (not-false _ r.0.1.1.1.0), omega (arith, r.1))

  small-written : (ids : Bool) (seq channel k : ℕ) → channel < 256 → sw.put_small_of ids seq channel ms k src 0 n ≡ done len
      → SmallSpelt ids (record { sequence = seq; channel = channel; messages = map (sw.said_of ids src) (sw.listed ms 0 k) }) (sw.small_of ids seq channel ms k src)
      × (len ≡ length (sw.small_of ids seq channel ms k src))
  small-written ids seq channel k c e =
      let x = accepts ids seq channel ms k src 0 n e in
      (small.written-spelt ids seq channel _ x.sequence c x.count x.messages, omega (arith, x.end))

  slice_written : (reliable : Bool) (p : l.Slice) → p.channel < 256 → AllowedSlice reliable (lw.slice_said src p) → lw.put_slice_of reliable p src 0 n ≡ done len
      → SliceSpelt reliable (lw.slice_said src p) (lw.slice_bytes reliable (lw.slice_said src p)) × (len ≡ length (lw.slice_bytes reliable (lw.slice_said src p)))
  slice_written reliable p c a e =
      let x = accepted reliable p src 0 n e in
      (slice.written reliable (lw.slice_said src p) (sayable p src c x.0) (record { some = (a).0; few = (a).1; payload = (a).2 }), omega (arith, x.1))

  pub written : (p : code.Packet) → ByteChannel (said_by p ms rs src) → Allowed (said_by p ms rs src) → encoded p ms rs src n ≡ done len → Written p ms rs src len
  unfolding encoded bytes_of
  written (kind.SmallReliable p) c a e = small-written true p.sequence.0 p.channel_id p.count c e
  written (kind.SmallUnreliable p) c a e = small-written false p.sequence.0 p.channel_id p.count c e
  written (kind.ReliableSlice p) c a e = slice_written true (l.slice_of p) c a e
  written (kind.UnreliableSlice p) c a e = slice_written false (l.slice_of p) c a e
  written (kind.Ack p) c a e = ack-written p.sequence.0 p.count e

  -- so the same packet is read back, with anything after it, and as many bytes are used as were written
  pub read_back : (p : code.Packet) → ByteChannel (said_by p ms rs src) → Allowed (said_by p ms rs src) → encoded p ms rs src n ≡ done len → (q : List ℕ)
      → Accepted (said_by p ms rs src) (bytes_of p ms rs src) q
  read_back p c a e q = complete (said_by p ms rs src) (bytes_of p ms rs src) q (written p c a e).0

-- ---- one outcome only

abbrev packet_from : Told → code.Packet
packet_from (small_reliable p) = kind.SmallReliable (record { sequence = record { 0 = p.sequence }; channel_id = p.channel; count = p.count })
packet_from (small_unreliable p) = kind.SmallUnreliable (record { sequence = record { 0 = p.sequence }; channel_id = p.channel; count = p.count })
packet_from (reliable_slice p) = kind.ReliableSlice (slice.slice_from p)
packet_from (unreliable_slice p) = kind.UnreliableSlice (slice.slice_from p)
packet_from (ack p) = kind.Ack (record { sequence = record { 0 = p.sequence }; count = p.count })

packet-undone : (p : code.Packet) → packet_from (packet_of p) ≡ p
packet-undone (kind.SmallReliable p) = refl
packet-undone (kind.SmallUnreliable p) = refl
packet-undone (kind.ReliableSlice p) = refl
packet-undone (kind.UnreliableSlice p) = refl
packet-undone (kind.Ack p) = refl

abbrev decoded_from : Res Told → Result (code.Packet × ℕ) Refusal
decoded_from (ok p used) = Ok (packet_from p, used)
decoded_from (fault e) = Err (refusal_of e)

decoded-undone : (d : Result (code.Packet × ℕ) Refusal) → decoded_from (decoded_of d) ≡ d
decoded-undone (Ok (p, used)) = ap (λ (x : code.Packet). Ok (x, used)) (packet-undone p)
decoded-undone (Err e) = ap Err (refusal-undone e)

-- the promise of `from_bytes` admits one answer and one content of each table
module _ (bs ms : List ℕ) (rs : List Range) where
  pub one-decoded : {m m' : List ℕ} {r r' : List Range} (d d' : Result (code.Packet × ℕ) Refusal) → DecodeGives bs ms rs m r d → DecodeGives bs ms rs m' r' d' → (d ≡ d') × (m ≡ m') × (r ≡ r')
  one-decoded d d' x y =
      (told-apart decoded_of decoded_from decoded-undone d d' (x.answer ∙ sym y.answer), x.messages ∙ sym y.messages, x.ranges ∙ sym y.ranges)

-- that of `decode` too, with the table by value
module _ (bs ms : List ℕ) (rs : List Range) (n : ℕ) where
  pub one_table : {m m' : List ℕ} (d d' : DecodedTable) → ReadGives bs ms rs n m d → ReadGives bs ms rs n m' d' → (d ≡ d') × (m ≡ m')
  one_table d d' x y =
      let a : d.answer ≡ d'.answer = told-apart decoded_of decoded_from decoded-undone d.answer d'.answer (x.answer ∙ sym y.answer) in
      let r : d.ranges ≡ d'.ranges = x.ranges ∙ sym y.ranges in
      (λ i. record { answer = a i; ranges = r i }, x.messages ∙ sym y.messages)

-- and that of `to_bytes` one answer and one content of the lent bytes; `encode` promises the same of the records that are lent
module _ (p : code.Packet) (ms : List ℕ) (rs : List Range) (src out : List ℕ) where
  pub one-encoded : {o o' : List ℕ} (r r' : Result ℕ Refusal) → put_of r ≡ encoded p ms rs src (length out) → put_of r' ≡ encoded p ms rs src (length out)
      → o ≡ left (put_of r) 0 (bytes_of p ms rs src) out → o' ≡ left (put_of r') 0 (bytes_of p ms rs src) out → (r ≡ r') × (o ≡ o')
  one-encoded r r' e e' l l' = (octets.one-put r r' e e', octets.one_left 0 (bytes_of p ms rs src) out r r' e e' l l')

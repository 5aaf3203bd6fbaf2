-- `packet` at each type byte, and what the readers of the layouts say of the whole. Assumes nothing.
use Prim.Native.Nat.{ℕ, ◌*◌, ◌≤◌}
use mathlib.Core.Path.{◌≡◌, refl, sym, ap, ◌∙◌}
use mathlib.Core.Bool.{Bool, true, false}
use mathlib.Core.List.{List}
use native.Mathlib.Omega.{arith}
use borrow.Author.Tests.{lt-ltb, ne_eqb}
use lib.Dec.{leb}
use lib.ListN.{length, get_or}
use Rattle.std.specs.Prelude.{Result, Err}
use Rattle.words.specs.Choice.{pick}
use Rattle.words.specs.Refusal.{number_of}
use Rattle.words.specs.declared.Refusal.{Refusal}
use Rattle.words.specs.declared.Refusal.TheVariants.{InvalidPacketType}
use Rattle.octets.specs.Reader.{Res, ok, fault, byte}
use Rattle.packet_small.specs.Small as s
use Rattle.packet_small.specs.Write as sw
use Rattle.packet_slice.specs.Slice as l
use Rattle.packet_slice.specs.Write as lw
use Rattle.packet_ack.specs.Ack as a
use Rattle.packet_ack.specs.declared.Range.{Range}
use Rattle.packet_ack.specs.Write as aw
use Rattle.packet.specs.Packet.{Packet, small_reliable, small_unreliable, reliable_slice, unreliable_slice, ack, mapped, body, packet, holds, judged, leaves, messages_of, ranges_of, told, decoded_of, decoded_small_of, decoded_slice_of, decoded_ack_of, DecodeGives}
use Rattle.packet.specs.declared.Packet as code

abbrev pub small_kind : Bool → s.Small → Packet
small_kind true = small_reliable
small_kind false = small_unreliable

abbrev pub slice_kind : Bool → l.Slice → Packet
slice_kind true = reliable_slice
slice_kind false = unreliable_slice

-- ---- a table that a packet does not fill stays as it is

kept : {A : Type 0} (f : Packet → List A → List A) (p : Packet) (next m n : ℕ) (t : List A) → f p t ≡ t → t ≡ leaves f (judged (ok p next) m n) t
unfolding judged
kept f p next m n t e = go (holds p m n)
  where
    go : (b : Bool) → t ≡ leaves f (pick b (ok p next) (fault 11)) t
    go true = sym e
    go false = refl

-- ---- packets of small messages

small-told : (ids : Bool) (r : Res s.Small) (m n : ℕ) → decoded_small_of ids (s.told (s.judged r m)) ≡ told (judged (mapped (small_kind ids) r) m n)
unfolding s.judged judged
small-told true (fault e) m n = refl
small-told false (fault e) m n = refl
small-told true (ok p next) m n = go (leb (s.RECORD * length p.messages) m)
  where
    go : (b : Bool) → decoded_small_of true (s.told (pick b (ok p next) (fault 11))) ≡ told (pick b (ok (small_reliable p) next) (fault 11))
    go true = refl
    go false = refl
small-told false (ok p next) m n = go (leb (s.RECORD * length p.messages) m)
  where
    go : (b : Bool) → decoded_small_of false (s.told (pick b (ok p next) (fault 11))) ≡ told (pick b (ok (small_unreliable p) next) (fault 11))
    go true = refl
    go false = refl

small-table : (ids : Bool) (r : Res s.Small) (m n : ℕ) (t : List ℕ) → s.tabled (s.judged r m) t ≡ leaves messages_of (judged (mapped (small_kind ids) r) m n) t
unfolding s.judged s.tabled judged
small-table true (fault e) m n t = refl
small-table false (fault e) m n t = refl
small-table true (ok p next) m n t = go (leb (s.RECORD * length p.messages) m)
  where
    go : (b : Bool) → s.tabled (pick b (ok p next) (fault 11)) t ≡ leaves messages_of (pick b (ok (small_reliable p) next) (fault 11)) t
    go true = refl
    go false = refl
small-table false (ok p next) m n t = go (leb (s.RECORD * length p.messages) m)
  where
    go : (b : Bool) → s.tabled (pick b (ok p next) (fault 11)) t ≡ leaves messages_of (pick b (ok (small_unreliable p) next) (fault 11)) t
    go true = refl
    go false = refl

small-rest : (ids : Bool) (r : Res s.Small) (m n : ℕ) (t : List Range) → t ≡ leaves ranges_of (judged (mapped (small_kind ids) r) m n) t
unfolding judged
small-rest true (fault e) m n t = refl
small-rest false (fault e) m n t = refl
small-rest true (ok p next) m n t = kept ranges_of (small_reliable p) next m n t refl
small-rest false (ok p next) m n t = kept ranges_of (small_unreliable p) next m n t refl

-- ---- packets of one piece

slice-told : (reliable : Bool) (r : Res l.Slice) (m n : ℕ) → decoded_slice_of reliable r ≡ told (judged (mapped (slice_kind reliable) r) m n)
unfolding judged
slice-told true (fault e) m n = refl
slice-told false (fault e) m n = refl
slice-told true (ok p next) m n = refl
slice-told false (ok p next) m n = refl

slice-rest : {A : Type 0} (f : Packet → List A → List A) → ((reliable : Bool) (p : l.Slice) (t : List A) → f (slice_kind reliable p) t ≡ t)
    → (reliable : Bool) (r : Res l.Slice) (m n : ℕ) (t : List A) → t ≡ leaves f (judged (mapped (slice_kind reliable) r) m n) t
unfolding judged
slice-rest f h true (fault e) m n t = refl
slice-rest f h false (fault e) m n t = refl
slice-rest f h true (ok p next) m n t = sym (h true p t)
slice-rest f h false (ok p next) m n t = sym (h false p t)

messages-rest : (reliable : Bool) (p : l.Slice) (t : List ℕ) → messages_of (slice_kind reliable p) t ≡ t
messages-rest true p t = refl
messages-rest false p t = refl

ranges-rest : (reliable : Bool) (p : l.Slice) (t : List Range) → ranges_of (slice_kind reliable p) t ≡ t
ranges-rest true p t = refl
ranges-rest false p t = refl

-- ---- packets of acknowledgements

ack-told : (r : Res a.Ack) (m n : ℕ) → decoded_ack_of (a.told (a.judged r n)) ≡ told (judged (mapped ack r) m n)
unfolding a.judged judged
ack-told (fault e) m n = refl
ack-told (ok p next) m n = go (leb (length p.ranges) n)
  where
    go : (b : Bool) → decoded_ack_of (a.told (pick b (ok p next) (fault 11))) ≡ told (pick b (ok (ack p) next) (fault 11))
    go true = refl
    go false = refl

ack-table : (r : Res a.Ack) (m n : ℕ) (t : List Range) → a.tabled (a.judged r n) t ≡ leaves ranges_of (judged (mapped ack r) m n) t
unfolding a.judged a.tabled judged
ack-table (fault e) m n t = refl
ack-table (ok p next) m n t = go (leb (length p.ranges) n)
  where
    go : (b : Bool) → a.tabled (pick b (ok p next) (fault 11)) t ≡ leaves ranges_of (pick b (ok (ack p) next) (fault 11)) t
    go true = refl
    go false = refl

ack-rest : (r : Res a.Ack) (m n : ℕ) (t : List ℕ) → t ≡ leaves messages_of (judged (mapped ack r) m n) t
unfolding judged
ack-rest (fault e) m n t = refl
ack-rest (ok p next) m n t = kept messages_of (ack p) next m n t refl

-- ---- the whole, by its type byte

module _ (bs : List ℕ) (h : 1 ≤ length bs) where
  pub packet-is : packet bs 0 ≡ body (get_or bs 0 0) bs 1
  unfolding packet byte
  packet-is = simp (lt-ltb 0 (length bs) (omega arith))

  pub ack-is : get_or bs 0 0 ≡ aw.type_byte_of → packet bs 0 ≡ mapped ack (a.ack bs 1)
  unfolding body
  ack-is e = packet-is ∙ simp e

-- ---- and in the terms in which the code meets it, over the tables that are lent

module _ (bs ms : List ℕ) (rs : List Range) where
  -- where the whole is a result r, the answer is what r says
  by_result : {ms' : List ℕ} {rs' : List Range} {d : Result (code.Packet × ℕ) Refusal} (r : Res Packet) → packet bs 0 ≡ r
      → decoded_of d ≡ told (judged r (length ms) (length rs)) → ms' ≡ leaves messages_of (judged r (length ms) (length rs)) ms
      → rs' ≡ leaves ranges_of (judged r (length ms) (length rs)) rs → DecodeGives bs ms rs ms' rs' d
  by_result r e a m t = record { answer = rw e a; messages = rw e m; ranges = rw e t }

  -- no type byte
  pub no-type : (x : Refusal) → fault (number_of x) ≡ byte bs 0 → DecodeGives bs ms rs ms rs (Err x)
  unfolding packet judged
  no-type x e = by_result (fault (number_of x)) (simp (← e)) refl refl refl

  module _ {t at : ℕ} (e : ok t at ≡ byte bs 0) where
    packet-at : packet bs 0 ≡ body t bs at
    unfolding packet
    packet-at = simp (← e)

    small-at : (ids : Bool) → t ≡ sw.type_byte_of ids → packet bs 0 ≡ mapped (small_kind ids) (s.small ids bs at)
    unfolding body
    small-at true q = packet-at ∙ simp q
    small-at false q = packet-at ∙ simp q

    slice-at : (reliable : Bool) → t ≡ lw.type_byte_of reliable → packet bs 0 ≡ mapped (slice_kind reliable) (l.slice reliable bs at)
    unfolding body
    slice-at true q = packet-at ∙ simp q
    slice-at false q = packet-at ∙ simp q

    ack-at : t ≡ aw.type_byte_of → packet bs 0 ≡ mapped ack (a.ack bs at)
    unfolding body
    ack-at q = packet-at ∙ simp q

    pub as-small : (ids : Bool) → t ≡ sw.type_byte_of ids → {x : Res s.Told} {ms' : List ℕ} {d : Result (code.Packet × ℕ) Refusal}
        → (x ≡ s.told (s.judged (s.small ids bs at) (length ms))) × (ms' ≡ s.tabled (s.judged (s.small ids bs at) (length ms)) ms)
        → decoded_of d ≡ decoded_small_of ids x → DecodeGives bs ms rs ms' rs d
    as-small ids q p u =
        by_result (mapped (small_kind ids) (s.small ids bs at)) (small-at ids q)
        (u ∙ ap (decoded_small_of ids) p.0 ∙ small-told ids (s.small ids bs at) (length ms) (length rs))
        (p.1 ∙ small-table ids (s.small ids bs at) (length ms) (length rs) ms)
        (small-rest ids (s.small ids bs at) (length ms) (length rs) rs)

    pub as-slice : (reliable : Bool) → t ≡ lw.type_byte_of reliable → {x : Res l.Slice} {d : Result (code.Packet × ℕ) Refusal}
        → x ≡ l.slice reliable bs at → decoded_of d ≡ decoded_slice_of reliable x → DecodeGives bs ms rs ms rs d
    as-slice reliable q p u =
        by_result (mapped (slice_kind reliable) (l.slice reliable bs at)) (slice-at reliable q)
        (u ∙ ap (decoded_slice_of reliable) p ∙ slice-told reliable (l.slice reliable bs at) (length ms) (length rs))
        (slice-rest messages_of messages-rest reliable (l.slice reliable bs at) (length ms) (length rs) ms)
        (slice-rest ranges_of ranges-rest reliable (l.slice reliable bs at) (length ms) (length rs) rs)

    pub as-ack : t ≡ aw.type_byte_of → {x : Res a.Told} {rs' : List Range} {d : Result (code.Packet × ℕ) Refusal}
        → (x ≡ a.told (a.judged (a.ack bs at) (length rs))) × (rs' ≡ a.tabled (a.judged (a.ack bs at) (length rs)) rs)
        → decoded_of d ≡ decoded_ack_of x → DecodeGives bs ms rs ms rs' d
    as-ack q p u =
        by_result (mapped ack (a.ack bs at)) (ack-at q)
        (u ∙ ap decoded_ack_of p.0 ∙ ack-told (a.ack bs at) (length ms) (length rs))
        (ack-rest (a.ack bs at) (length ms) (length rs) ms)
        (p.1 ∙ ack-table (a.ack bs at) (length ms) (length rs) rs)

    -- a type byte above 4
    pub no_kind : (t ≡ 0 → ⊥) → (t ≡ 1 → ⊥) → (t ≡ 2 → ⊥) → (t ≡ 3 → ⊥) → (t ≡ 4 → ⊥) → DecodeGives bs ms rs ms rs (Err InvalidPacketType)
    unfolding body judged
    no_kind n0 n1 n2 n3 n4 = by_result (fault 6) (packet-at ∙ simp (ne_eqb _ _ n0, ne_eqb _ _ n1, ne_eqb _ _ n2, ne_eqb _ _ n3, ne_eqb _ _ n4)) refl refl refl

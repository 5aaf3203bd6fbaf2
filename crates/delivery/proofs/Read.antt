-- What a round writes as packets is read back: each packet, read by the reader with tables that hold its entries, hands over exactly the messages
-- or the piece that were packed in it. Assumes nothing.
use Prim.Native.Nat.{ℕ, suc, ◌+◌, ◌*◌, ◌≤◌, ◌<◌}
use mathlib.Core.Path.{◌≡◌, refl, sym, ap, ◌∙◌, subst}
use mathlib.Core.Bool.{Bool, true, false}
use mathlib.Core.List.{List, [], ◌∷◌, ◌++◌, map}
use native.Mathlib.Omega.{arith}
use lib.Dec.{ltb}
use lib.ListN.{length, get_or, take, drop, length-take, length-drop, length-map}
use borrow.Author.Tests.{leb-true, ltb-false}
use Rattle.words.specs.Sizes.{LIMIT}
use Rattle.words.specs.Choice.{pick}
use Rattle.words.specs.Lists.{splice, All}
use Rattle.words.proofs.Lists.{none-refused}
use Rattle.words.proofs.Suffix as suffix
use Rattle.words.proofs.Suffix.{drop-at-splice}
use Rattle.words.proofs.Tables.{clash}
use Rattle.octets.specs.Reader.{Res, ok, fault}
use Rattle.packet_small.specs.Small as small
use Rattle.packet_small.specs.Small.{RECORD, words}
use Rattle.packet_small.specs.Write.{Said, id_said, listed, record_at, small_bytes_of}
use Rattle.packet_small.specs.Layout.{SmallSaid, content_of, small_said}
use Rattle.packet_small.specs.Laws.{Sayable}
use Rattle.packet_small.proofs.Theorems.{written-spelt}
use Rattle.packet_slice.specs.Write.{SliceSaid, slice_bytes, slice_said}
use Rattle.packet_slice.proofs.Theorems as slice-theorems
use Rattle.packet.specs.Packet as reader
use Rattle.packet.specs.Packet.{small_reliable, small_unreliable, reliable_slice, unreliable_slice, ack}
use Rattle.packet.specs.Layout.{said_in}
use Rattle.packet.proofs.Theorems.{complete}
use Rattle.pack.specs.Pack.{Item, Pack, group, single}
use Rattle.pack.specs.Encode.{Lent, said_item, said_piece, pack_bytes, packets_bytes, end_to_end, ENTRY, entries, round_refusal, out_after, table_after}
use Rattle.pack.specs.Laws.{Lie, one_lies}
use Rattle.pack.proofs.Theorems.{packets-lie}
use Rattle.delivery.specs.World.{Bytes, Part, whole, piece, Handed, message, slice, message_in, handed_by, handed, cut}
use Rattle.delivery.specs.Window.{parts_said}
use Rattle.std.proofs.lemmas.List.{append-nil}
use Rattle.delivery.proofs.Items.{SmallHas, PackHas, FewIn}

-- ---- what a packet hands over

abbrev pub small_handed : Bytes → Item → Handed
small_handed small x = message x.id (take x.len (drop x.place small))

abbrev pub piece_handed : Bytes → Item → Handed
piece_handed lanes x = slice x.id x.num x.index (take x.len (drop x.place lanes))

abbrev pub handed_pack : Bytes → Bytes → Pack → List Handed
handed_pack small lanes (group is) = map (small_handed small) is
handed_pack small lanes (single x) = piece_handed lanes x ∷ []

-- the piece that is handed over
abbrev pub part_handed : Handed → Part
part_handed (message id bs) = whole id
part_handed (slice id num i bs) = piece id i

pub record ReadsBack (bs : Bytes) (xs : List Handed) : Type 0 where
  pub packet-read : reader.Packet
  pub used : ℕ
  pub reads : reader.packet bs 0 ≡ ok packet-read used
  pub hands : (ms rs : List ℕ) → reader.holds packet-read (length ms) (length rs) ≡ true → handed bs ms rs ≡ xs
  pub stops : (ms rs : List ℕ) → reader.holds packet-read (length ms) (length rs) ≡ false → handed bs ms rs ≡ []
  pub parts : parts_said (reader.packet bs 0) ≡ map part_handed xs

-- ---- the reader's table names its messages

length-words : (xs : List small.Message) → length (words xs) ≡ RECORD * length xs
unfolding words
length-words [] = refl
length-words (x ∷ xs) = let r = length-words xs in omega arith

listed_at : (t : List ℕ) (i : ℕ) (xs : List small.Message) (rest : List ℕ) → drop (RECORD * i) t ≡ words xs ++ rest → listed t i (length xs) ≡ xs
unfolding listed words
listed_at t i [] rest e = refl
listed_at t i (m ∷ xs) rest e =
    let a = suffix.here t (RECORD * i) e 0 in
    let e₁ = suffix.next t (RECORD * i) e in
    let b = suffix.here t (suc (RECORD * i)) e₁ 0 in
    let e₂ = suffix.next t (suc (RECORD * i)) e₁ in
    let d = suffix.here t (suc (suc (RECORD * i))) e₂ 0 in
    let e₃ = suffix.next t (suc (suc (RECORD * i))) e₂ in
    let n₁ : RECORD * i + 1 ≡ suc (RECORD * i) = omega arith in
    let n₂ : RECORD * i + 2 ≡ suc (suc (RECORD * i)) = omega arith in
    let n₃ : RECORD * (i + 1) ≡ suc (suc (suc (RECORD * i))) = omega arith in
    ap (λ (ys : List small.Message). record_at t i ∷ ys) (listed_at t (i + 1) xs rest (ap (λ (n : ℕ). drop n t) n₃ ∙ e₃))
    ∙ ap (λ (k : ℕ). record { id = k; place = get_or t (RECORD * i + 1) 0; len = get_or t (RECORD * i + 2) 0 } ∷ xs) a
    ∙ ap (λ (k : ℕ). record { id = m.id; place = k; len = get_or t (RECORD * i + 2) 0 } ∷ xs) (ap (λ (n : ℕ). get_or t n 0) n₁ ∙ b)
    ∙ ap (λ (k : ℕ). record { id = m.id; place = m.place; len = k } ∷ xs) (ap (λ (n : ℕ). get_or t n 0) n₂ ∙ d)

listed_back : (t : List ℕ) (xs : List small.Message) → RECORD * length xs ≤ length t → listed (splice 0 (words xs) t) 0 (length xs) ≡ xs
listed_back t xs h =
    let n = length-words xs in
    listed_at (splice 0 (words xs) t) 0 xs (drop (0 + length (words xs)) t) (drop-at-splice 0 (words xs) t (omega arith))

-- ---- reading

module _ (bs : Bytes) (ms rs : List ℕ) (p : reader.Packet) (n : ℕ) (e : reader.packet bs 0 ≡ ok p n) where
  handed-is : reader.holds p (length ms) (length rs) ≡ true → handed bs ms rs ≡ handed_by bs (ok (reader.told_of p) n) (reader.messages_of p ms)
  unfolding handed reader.judged
  handed-is t =
      ap (λ (r : Res reader.Packet). handed_by bs (reader.told (reader.judged r (length ms) (length rs))) (reader.leaves reader.messages_of (reader.judged r (length ms) (length rs)) ms)) e
      ∙ ap (λ (b : Bool). handed_by bs (reader.told (pick b (ok p n) (fault 11))) (reader.leaves reader.messages_of (pick b (ok p n) (fault 11)) ms)) t

  handed-none : reader.holds p (length ms) (length rs) ≡ false → handed bs ms rs ≡ []
  unfolding handed reader.judged
  handed-none t =
      ap (λ (r : Res reader.Packet). handed_by bs (reader.told (reader.judged r (length ms) (length rs))) (reader.leaves reader.messages_of (reader.judged r (length ms) (length rs)) ms)) e
      ∙ ap (λ (b : Bool). handed_by bs (reader.told (pick b (ok p n) (fault 11))) (reader.leaves reader.messages_of (pick b (ok p n) (fault 11)) ms)) t

abbrev hand_over_of : Said → Handed
hand_over_of w = message w.id w.bytes

hand-contents : (bs : Bytes) (ms : List small.Message) → map (message_in bs) ms ≡ map hand_over_of (map (content_of bs) ms)
hand-contents bs [] = refl
hand-contents bs (m ∷ ms) = ap (λ (l : List Handed). message_in bs m ∷ l) (hand-contents bs ms)

hand-items : (lent : Lent) → lent.ids ≡ true → (is : List Item) → map hand_over_of (map (said_item lent) is) ≡ map (small_handed lent.small) is
hand-items lent e [] = refl
hand-items lent e (x ∷ is) =
    ap (λ (l : List Handed). hand_over_of (said_item lent x) ∷ l) (hand-items lent e is)
    ∙ ap (λ (b : Bool). message (id_said b x.id) (take x.len (drop x.place lent.small)) ∷ map (small_handed lent.small) is) e

said-parts : (bs : Bytes) (ms : List small.Message) → map (λ (m : small.Message). whole m.id) ms ≡ map part_handed (map (message_in bs) ms)
said-parts bs [] = refl
said-parts bs (m ∷ ms) = ap (λ (l : List Part). whole m.id ∷ l) (said-parts bs ms)

-- a packet of small messages
module _ (bs : Bytes) (w : SmallSaid) (xs : List Handed) (x : map hand_over_of w.messages ≡ xs) where
  small_by : (p : reader.Packet) (n : ℕ) → reader.packet bs 0 ≡ ok p n → said_in bs p ≡ small_reliable w → ReadsBack bs xs
  small_by (small_reliable p) n e s =
      let q : small_said bs p ≡ w = cc in
      record {
        packet-read = small_reliable p;
        used = n;
        reads = e;
        hands = λ ms rs t.
            handed-is bs ms rs (small_reliable p) n e t
            ∙ ap (map (message_in bs)) (listed_back ms p.messages (leb-true _ _ t))
            ∙ hand-contents bs p.messages
            ∙ ap (λ (y : SmallSaid). map hand_over_of y.messages) q
            ∙ x;
        stops = λ ms rs t. handed-none bs ms rs (small_reliable p) n e t;
        parts = ap parts_said e ∙ said-parts bs p.messages ∙ ap (map part_handed) (hand-contents bs p.messages ∙ ap (λ (y : SmallSaid). map hand_over_of y.messages) q ∙ x);
      }
  small_by (small_unreliable p) n e s = clash (cc)
  small_by (reliable_slice p) n e s = clash (cc)
  small_by (unreliable_slice p) n e s = clash (cc)
  small_by (ack p) n e s = clash (cc)

-- a piece
module _ (bs : Bytes) (w : SliceSaid) where
  slice-by : (p : reader.Packet) (n : ℕ) → reader.packet bs 0 ≡ ok p n → said_in bs p ≡ reliable_slice w → ReadsBack bs (slice w.id w.num-slices w.index w.bytes ∷ [])
  slice-by (reliable_slice p) n e s =
      let q : slice_said bs p ≡ w = cc in
      record {
        packet-read = reliable_slice p;
        used = n;
        reads = e;
        hands = λ ms rs t. handed-is bs ms rs (reliable_slice p) n e t ∙ ap (λ (y : SliceSaid). slice y.id y.num-slices y.index y.bytes ∷ []) q;
        stops = λ ms rs t. handed-none bs ms rs (reliable_slice p) n e t;
        parts = ap parts_said e ∙ ap (λ (y : SliceSaid). piece y.id y.index ∷ []) q;
      }
  slice-by (small_reliable p) n e s = clash (cc)
  slice-by (small_unreliable p) n e s = clash (cc)
  slice-by (unreliable_slice p) n e s = clash (cc)
  slice-by (ack p) n e s = clash (cc)

-- ---- the packets of a round

module _ (q : List Bytes) (lent : Lent) (e : lent.ids ≡ true) (channel : lent.channel < 256) where
  said-ids : (x : Item) → (said_item lent x).id ≡ x.id
  said-ids x = ap (λ (b : Bool). id_said b x.id) e

  all-sayable : (is : List Item) → All (SmallHas q lent.small) is → All (Sayable true) (map (said_item lent) is)
  unfolding All
  all-sayable [] a = tt
  all-sayable (x ∷ is) a =
      ((rw (said-ids x) a.0.below, let n = length-take x.len (drop x.place lent.small) in omega (arith, a.0.short)), all-sayable is a.1)

  pub arrives : (seq : ℕ) (p : Pack) → seq < LIMIT → PackHas q lent.small lent.lanes p → FewIn p → ReadsBack (pack_bytes lent seq p) (handed_pack lent.small lent.lanes p)
  unfolding pack_bytes
  arrives seq (group is) low h few =
      let ms = map (said_item lent) is in
      let bs = small_bytes_of true seq lent.channel ms in
      let w : SmallSaid = record { sequence = seq; channel = lent.channel; messages = ms } in
      let s = written-spelt true seq lent.channel ms low channel (rw (length-map is (said_item lent)) few) (all-sayable is h) in
      let c = complete (small_reliable w) bs [] s in
      let n = append-nil bs in
      subst (λ (b : Bool). ReadsBack (small_bytes_of b seq lent.channel ms) (map (small_handed lent.small) is)) (sym e)
      (small_by bs w (map (small_handed lent.small) is) (hand-items lent e is) c.packet-read (length bs) (rw n at c.reads) (rw n at c.says))
  arrives seq (single x) low h few =
      let w = said_piece lent seq x in
      let bs = slice_bytes true w in
      let k : length (take x.len (drop x.place lent.lanes)) ≡ x.len
      = let a = length-take x.len (drop x.place lent.lanes) in let b = length-drop x.place lent.lanes in omega (arith, h.within) in
      let s = slice-theorems.written true w
      (record { sequence = low; channel = channel; id = h.below; index = omega (arith, h.low, h.few); num-slices = omega (arith, h.few); bytes = omega (arith, h.short) })
      (record { some = omega (arith, h.low); few = omega (arith, h.few); payload = (omega (arith, h.one), omega (arith, h.short)) }) in
      let c = complete (reliable_slice w) bs [] s in
      let n = append-nil bs in
      subst (λ (b : Bool). ReadsBack (slice_bytes b w) (piece_handed lent.lanes x ∷ [])) (sym e)
      (slice-by bs w c.packet-read (length bs) (rw n at c.reads) (rw n at c.says))

-- ---- where the packets lie

length-entries : (at : ℕ) (bs : List Bytes) → length (entries at bs) ≡ ENTRY * length bs
unfolding entries
length-entries at [] = refl
length-entries at (b ∷ bs) = let r = length-entries (at + length b) bs in omega arith

pub length-packets : (lent : Lent) (seq : ℕ) (ps : List Pack) → length (packets_bytes lent seq ps) ≡ length ps
unfolding packets_bytes
length-packets lent seq [] = refl
length-packets lent seq (p ∷ ps) = ap suc (length-packets lent (seq + 1) ps)

cut_at : (o t : List ℕ) (j at : ℕ) (bs : List Bytes) (rest : List ℕ) → drop (ENTRY * j) t ≡ entries at bs ++ rest → Lie o at bs → cut o t j (length bs) ≡ bs
unfolding cut entries
cut_at o t j at [] rest e lie = refl
cut_at o t j at (b ∷ bs) rest e (one_lies here later) =
    let a = suffix.here t (ENTRY * j) e 0 in
    let e₁ = suffix.next t (ENTRY * j) e in
    let n = suffix.here t (suc (ENTRY * j)) e₁ 0 in
    let e₂ = suffix.next t (suc (ENTRY * j)) e₁ in
    let n₁ : ENTRY * j + 1 ≡ suc (ENTRY * j) = omega arith in
    let n₂ : ENTRY * (j + 1) ≡ suc (suc (ENTRY * j)) = omega arith in
    ap (λ (k : ℕ). take (get_or t (ENTRY * j + 1) 0) (drop k o) ∷ cut o t (j + 1) (length bs)) a
    ∙ ap (λ (k : ℕ). take k (drop at o) ∷ cut o t (j + 1) (length bs)) (ap (λ (k : ℕ). get_or t k 0) n₁ ∙ n)
    ∙ ap (λ (y : Bytes). y ∷ cut o t (j + 1) (length bs)) here
    ∙ ap (λ (ys : List Bytes). b ∷ ys) (cut_at o t (j + 1) (at + length b) bs rest (ap (λ (k : ℕ). drop k t) n₂ ∙ e₂) later)

-- a round that is not refused writes its packets where its table says
pub cut-back : (lent : Lent) (seq : ℕ) (ps : List Pack) (out table : List ℕ) → round_refusal lent seq ps (length out) (length table) ≡ 0
    → (cut (out_after lent seq ps out) (table_after lent seq ps table) 0 (length ps) ≡ packets_bytes lent seq ps) × (seq + length ps ≤ LIMIT)
unfolding round_refusal All table_after
cut-back lent seq ps out table e =
    let a = none-refused (
    (ltb LIMIT (seq + length ps), 13) ∷
    (ltb (length out) (length (end_to_end (packets_bytes lent seq ps))), 15) ∷
    (ltb (length table) (ENTRY * length ps), 15) ∷ []
    ) refl e in
    let bs = packets_bytes lent seq ps in
    let n = length-packets lent seq ps in
    let k = length-entries 0 bs in
    let fits : 0 + length (entries 0 bs) ≤ length table = omega (arith, ltb-false (length table) (ENTRY * length ps) a.1.1.0) in (
      rw n at (cut_at (out_after lent seq ps out) (table_after lent seq ps table) 0 0 bs (drop (0 + length (entries 0 bs)) table) (drop-at-splice 0 (entries 0 bs) table fits)
          (packets-lie lent seq ps out (ltb-false _ _ a.1.0))),
      ltb-false _ _ a.0,
    )

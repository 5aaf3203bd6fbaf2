-- What the writing functions make of the lent memory: a message, a group, a packet, and a turn of the loop that writes packets. Assumes nothing.
use Prim.Native.Nat.{ℕ, suc, ◌+◌, ◌*◌, ◌-◌, ◌≤◌, ◌<◌}
use mathlib.Core.Path.{◌≡◌, refl, sym, ap, ◌∙◌}
use mathlib.Core.Bool.{Bool, true, false}
use mathlib.Core.List.{List, [], ◌∷◌, ◌++◌, map, map-append, append-nil, append_assoc}
use native.Mathlib.Omega.{arith}
use native.Mathlib.Nat.{add-zero}
use native.Mathlib.Numerals.{add-one}
use lib.Dec.{eqb}
use lib.ListN.{length, get_or, set, take, drop, length-append, length-map}
use Rattle.std.proofs.Math.Seq.{drop-cons}
use Rattle.std.proofs.lemmas.List.{drop_all}
use Rattle.words.specs.Sizes.{LIMIT}
use Rattle.words.specs.Lists.{splice, All}
use Rattle.words.proofs.Lists.{all_left, all_right}
use Rattle.packet_small.specs.Steps.{head_len, message_len, said}
use Rattle.packet_small.specs.Write.{Said, id_said, message_bytes, messages_bytes, head_bytes, small_bytes_of}
use Rattle.packet_small.proofs.Wrote.{splice-next, length-message, length-head}
use Rattle.pack.specs.Pack.{Item, item_at, items_in, is_small, Pack}
use Rattle.pack.specs.Encode.{Lent, said_item, pack_bytes, packets_bytes, end_to_end, ENTRY, entries}
use Rattle.packet_slice.specs.Slice.{Slice}
use Rattle.packet_slice.specs.Write.{slice_said, slice_bytes}
use Rattle.packet_slice.specs.Steps.{Judged}
use Rattle.packet_slice.proofs.Wrote.{length-slice}
use Rattle.pack.specs.Rows.{smalls, smalls_in, no_row, pack_of, packs_of, Sound, Sendable, PackGoes, slice_item}
use Rattle.pack.specs.Steps.{said_small, items_bytes}
use Rattle.pack.specs.declared.Item as code
use Rattle.pack.specs.declared.Row.{Row}
use Rattle.pack.proofs.Tables.{smalls-append}

-- ---- messages

messages-append : (ids : Bool) (xs ys : List Said) → messages_bytes ids (xs ++ ys) ≡ messages_bytes ids xs ++ messages_bytes ids ys
unfolding messages_bytes
messages-append ids [] ys = refl
messages-append ids (x ∷ xs) ys = rw (messages-append ids xs ys) (sym (append_assoc (message_bytes ids x) (messages_bytes ids xs) (messages_bytes ids ys)))

items-first : (ids : Bool) (src : List ℕ) (x : Item) (xs : List Item) → items_bytes ids src (x ∷ xs) ≡ items_bytes ids src (x ∷ []) ++ items_bytes ids src xs
unfolding items_bytes
items-first ids src x xs =
    ap (λ (l : List Item). messages_bytes ids (map (said_small ids src) l)) (smalls-append (x ∷ []) xs)
    ∙ ap (messages_bytes ids) (map-append (said_small ids src) (smalls (x ∷ [])) (smalls xs))
    ∙ messages-append ids (map (said_small ids src) (smalls (x ∷ []))) (map (said_small ids src) (smalls xs))

pub id-said : (ids : Bool) (id : ℕ) → id < LIMIT → id_said ids id < LIMIT
id-said true id h = h
id-said false id h = omega arith

module _ (ids : Bool) (src : List ℕ) (x : Item) where
  -- a piece has no bytes among small messages
  piece_bytes : is_small x ≡ false → items_bytes ids src (x ∷ []) ≡ []
  unfolding items_bytes smalls messages_bytes
  piece_bytes e = simp e

  small_bytes : is_small x ≡ true → items_bytes ids src (x ∷ []) ≡ message_bytes ids (said_small ids src x)
  unfolding items_bytes smalls messages_bytes
  small_bytes e = simp (e, append-nil)

  pub small-sendable : is_small x ≡ true → All (Sendable src) (smalls (x ∷ [])) → Sendable src x
  unfolding smalls All
  small-sendable e h = (simp e at h).0

  module _ (at : ℕ) where
    pub piece-next : is_small x ≡ false → at ≡ at + length (items_bytes ids src (x ∷ []))
    piece-next e = rw (piece_bytes e) (omega arith)

    pub piece-wrote : is_small x ≡ false → (out : List ℕ) → out ≡ splice at (items_bytes ids src (x ∷ [])) out
    unfolding splice
    piece-wrote e out = rw (piece_bytes e)

    part : List ℕ
    part = take (x.place + x.len - x.place) (drop x.place src)

    part-is : part ≡ take x.len (drop x.place src)
    unfolding part
    part-is = let z : x.place + x.len - x.place ≡ x.len = omega arith in rw z

    pub small-len : is_small x ≡ true → length (items_bytes ids src (x ∷ [])) ≡ message_len ids x.id (length (take (x.place + x.len - x.place) (drop x.place src)))
    unfolding part
    small-len e = rw (small_bytes e, ← part-is) (length-message ids x.id part)

    pub small-wrote : is_small x ≡ true → (out : List ℕ) {o : List ℕ}
        → o ≡ splice at (message_bytes ids (said ids x.id (take (x.place + x.len - x.place) (drop x.place src)))) out → o ≡ splice at (items_bytes ids src (x ∷ [])) out
    unfolding part
    small-wrote e out h = rw (small_bytes e, ← part-is) h

-- ---- a turn of the loop that writes a group

module _ (t : List code.Item) (e i : ℕ) where
  pub items-none : e ≤ i → items_in t i (e - i) ≡ []
  unfolding items_in
  items-none h = let z : e - i ≡ 0 = omega arith in simp z

  pub items-next : i < e → items_in t i (e - i) ≡ item_at t i ∷ items_in t (i + 1) (e - (i + 1))
  unfolding items_in
  items-next h = let q : e - i ≡ suc (e - (i + 1)) = omega arith in simp q

  module _ (h : i < e) where
    pub all_first : (P : Item → Type 0) → All P (smalls (items_in t i (e - i))) → All P (smalls (item_at t i ∷ []))
    all_first P a = all_left P _ (smalls (items_in t (i + 1) (e - (i + 1)))) (rw (items-next h, smalls-append (item_at t i ∷ []) (items_in t (i + 1) (e - (i + 1)))) at a)

    pub all_rest : (P : Item → Type 0) → All P (smalls (items_in t i (e - i))) → All P (smalls (items_in t (i + 1) (e - (i + 1))))
    all_rest P a = all_right P (smalls (item_at t i ∷ [])) _ (rw (items-next h, smalls-append (item_at t i ∷ []) (items_in t (i + 1) (e - (i + 1)))) at a)

    pub room : (ids : Bool) (src : List ℕ) (at : ℕ) {X : ℕ} → at + length (items_bytes ids src (items_in t i (e - i))) ≡ X → at + length (items_bytes ids src (item_at t i ∷ [])) ≤ X
    room ids src at w =
        let rest = items_in t (i + 1) (e - (i + 1)) in
        let l = ap (λ (is : List Item). length (items_bytes ids src is)) (items-next h) ∙ ap length (items-first ids src (item_at t i) rest)
        ∙ length-append (items_bytes ids src (item_at t i ∷ [])) (items_bytes ids src rest) in
        omega arith

    module _ (ids : Bool) (src : List ℕ) (at : ℕ) {n : ℕ} (next : n ≡ at + length (items_bytes ids src (item_at t i ∷ []))) where
      rest-bytes : List ℕ
      rest-bytes = items_bytes ids src (items_in t (i + 1) (e - (i + 1)))

      all-bytes : items_bytes ids src (items_in t i (e - i)) ≡ items_bytes ids src (item_at t i ∷ []) ++ rest-bytes
      unfolding rest-bytes
      all-bytes = ap (items_bytes ids src) (items-next h) ∙ items-first ids src (item_at t i) (items_in t (i + 1) (e - (i + 1)))

      pub group-next : {X : ℕ} → at + length (items_bytes ids src (items_in t i (e - i))) ≡ X → n + length (items_bytes ids src (items_in t (i + 1) (e - (i + 1)))) ≡ X
      unfolding rest-bytes
      group-next w = let l = ap length all-bytes ∙ length-append (items_bytes ids src (item_at t i ∷ [])) rest-bytes in omega arith

      pub group-wrote : (out : List ℕ) {o X : List ℕ} → o ≡ splice at (items_bytes ids src (item_at t i ∷ [])) out
          → splice at (items_bytes ids src (items_in t i (e - i))) out ≡ X → splice n (items_bytes ids src (items_in t (i + 1) (e - (i + 1)))) o ≡ X
      unfolding rest-bytes
      group-wrote out q w = rw (q, splice-next at (items_bytes ids src (item_at t i ∷ [])) rest-bytes out next, ← all-bytes) w

  module _ (h : e ≤ i) (ids : Bool) (src : List ℕ) (at : ℕ) where
    pub group-end : {X : ℕ} → at + length (items_bytes ids src (items_in t i (e - i))) ≡ X → at ≡ X
    unfolding items_bytes smalls messages_bytes
    group-end w = sym (add-zero at) ∙ (rw (items-none h) at w)

    pub group-done : (out : List ℕ) {X : List ℕ} → splice at (items_bytes ids src (items_in t i (e - i))) out ≡ X → out ≡ X
    unfolding items_bytes smalls messages_bytes splice
    group-done out w = rw (items-none h) at w

-- ---- a packet

module _ (l : Lent) (t : List code.Item) (r : Row) where
  module _ (e : eqb r.num 0 ≡ true) where
    pub group-goes : PackGoes l (pack_of t r) → All (Sendable l.small) (smalls (items_in t r.first (r.end - r.first)))
    unfolding PackGoes pack_of smalls_in
    group-goes h = simp e at h

    pub group-packet : (seq : ℕ) → Sound t r
        → pack_bytes l seq (pack_of t r) ≡ head_bytes l.ids seq l.channel r.count ++ items_bytes l.ids l.small (items_in t r.first (r.end - r.first))
    unfolding pack_bytes pack_of small_bytes_of items_bytes smalls_in
    group-packet seq s =
        let is : List Item = smalls_in t r.first r.end in
        let n : length (map (said_item l) is) ≡ r.count = length-map is (said_item l) ∙ sym (s.counted e) in
        simp (e, n)

    module _ (seq : ℕ) (s : Sound t r) where
      group-length : length (pack_bytes l seq (pack_of t r)) ≡ head_len seq + length (items_bytes l.ids l.small (items_in t r.first (r.end - r.first)))
      group-length =
          let h = length-head l.ids seq l.channel r.count in
          let w = ap length (group-packet seq s) ∙ length-append (head_bytes l.ids seq l.channel r.count) (items_bytes l.ids l.small (items_in t r.first (r.end - r.first))) in
          omega arith

      -- room for the head, and after it for the messages
      pub head-room : (at : ℕ) {m : ℕ} → at + length (pack_bytes l seq (pack_of t r)) ≤ m → at + head_len seq ≤ m
      head-room at w = let q = group-length in omega arith

      module _ (at : ℕ) {a : ℕ} (ea : a ≡ at + head_len seq) where
        pub rest-room : {m : ℕ} → at + length (pack_bytes l seq (pack_of t r)) ≤ m → a + length (items_bytes l.ids l.small (items_in t r.first (r.end - r.first))) ≤ m
        rest-room w = let q = group-length in omega arith

        pub packet-end : {n : ℕ} → n ≡ a + length (items_bytes l.ids l.small (items_in t r.first (r.end - r.first))) → n ≡ at + length (pack_bytes l seq (pack_of t r))
        packet-end w = let q = group-length in omega arith

        pub packet-wrote : (out : List ℕ) {o1 o2 : List ℕ} → o1 ≡ splice at (head_bytes l.ids seq l.channel r.count) out
            → o2 ≡ splice a (items_bytes l.ids l.small (items_in t r.first (r.end - r.first))) o1
            → o2 ≡ splice at (pack_bytes l seq (pack_of t r)) out
        packet-wrote out e1 e2 =
            let h = length-head l.ids seq l.channel r.count in
            let is = items_bytes l.ids l.small (items_in t r.first (r.end - r.first)) in
            rw (group-packet seq s) (e2 ∙ ap (splice a is) e1 ∙ splice-next at (head_bytes l.ids seq l.channel r.count) is out (omega arith))

  module _ (e : eqb r.num 0 ≡ false) where
    pub piece-goes : PackGoes l (pack_of t r) → Sendable l.lanes (item_at t r.first)
    unfolding PackGoes pack_of
    piece-goes h = simp e at h

    pub piece-packet : (seq : ℕ) {s : Slice} → s ≡ slice_item seq l.channel (item_at t r.first)
        → slice_bytes l.ids (slice_said l.lanes s) ≡ pack_bytes l seq (pack_of t r)
    unfolding pack_bytes pack_of
    piece-packet seq q = simp (e, q)

    pub piece-judged : PackGoes l (pack_of t r) → (seq : ℕ) → seq < LIMIT → {at m : ℕ}
        → at + length (pack_bytes l seq (pack_of t r)) ≤ m → Judged (slice_item seq l.channel (item_at t r.first)) (length l.lanes) at m
    piece-judged h seq q {at} {m} room =
        let g = piece-goes h in
        let p = slice_item seq l.channel (item_at t r.first) in
        let w = ap length (sym (piece-packet seq {s = p} refl)) ∙ length-slice l.ids l.lanes p g.stored in
        let n = g.len in
        record { stored = g.stored; sequence = q; id = g.id; index = g.index; num-slices = g.num; len = omega arith; room = omega arith }

-- ---- a turn of the loop that writes packets

-- what is known of the first row that is left, and of the others
pub row-left : (P : Row → Type 0) (p : List Row) (i : ℕ) → i < length p → All P (drop i p) → P (get_or p i no_row) × All P (drop (i + 1) p)
unfolding All
row-left P p i h a = rw (add-one i) (rw (drop-cons p i no_row h) at a)

pub pack-left : (P : Pack → Type 0) (t : List code.Item) (p : List Row) (i : ℕ) → i < length p → All P (packs_of t (drop i p))
    → P (pack_of t (get_or p i no_row)) × All P (packs_of t (drop (i + 1) p))
unfolding All
pack-left P t p i h a = rw (add-one i) (rw (drop-cons p i no_row h) at a)

-- what is left to write from packet i on
unfoldable pub bytes_from : Lent → ℕ → List code.Item → List Row → ℕ → List (List ℕ)
bytes_from l seq t p i = packets_bytes l (seq + i) (packs_of t (drop i p))

module _ (l : Lent) (seq : ℕ) (t : List code.Item) (p : List Row) where
  pub from_start : bytes_from l seq t p 0 ≡ packets_bytes l seq (packs_of t p)
  unfolding bytes_from
  from_start = rw add-zero

  module _ (i : ℕ) where
    pub from-none : length p ≤ i → bytes_from l seq t p i ≡ []
    unfolding bytes_from packets_bytes
    from-none h = rw (drop_all i p h)

    pub from_next : i < length p → bytes_from l seq t p i ≡ pack_bytes l (seq + i) (pack_of t (get_or p i no_row)) ∷ bytes_from l seq t p (i + 1)
    unfolding bytes_from packets_bytes
    from_next h =
        let s : seq + i + 1 ≡ seq + (i + 1) = omega arith in
        rw (drop-cons p i no_row h) (simp (s, add-one i))

    pub room-turn : i < length p → (at : ℕ) {X : ℕ} → at + length (end_to_end (bytes_from l seq t p i)) ≡ X → at + length (pack_bytes l (seq + i) (pack_of t (get_or p i no_row))) ≤ X
    unfolding end_to_end
    room-turn h at w =
        let e = ap (λ (b : List (List ℕ)). length (end_to_end b)) (from_next h) ∙ length-append (pack_bytes l (seq + i) (pack_of t (get_or p i no_row))) (end_to_end (bytes_from l seq t p (i + 1))) in
        omega arith

    module _ (h : i < length p) (at : ℕ) {next : ℕ} (n : next ≡ at + length (pack_bytes l (seq + i) (pack_of t (get_or p i no_row)))) where
      one : List ℕ
      one = pack_bytes l (seq + i) (pack_of t (get_or p i no_row))

      pub len-turn : {X : ℕ} → at + length (end_to_end (bytes_from l seq t p i)) ≡ X → next + length (end_to_end (bytes_from l seq t p (i + 1))) ≡ X
      unfolding end_to_end one
      len-turn w =
          let e = ap (λ (b : List (List ℕ)). length (end_to_end b)) (from_next h) ∙ length-append one (end_to_end (bytes_from l seq t p (i + 1))) in
          omega arith

      pub out-turn : (out : List ℕ) {o X : List ℕ} → o ≡ splice at (pack_bytes l (seq + i) (pack_of t (get_or p i no_row))) out
          → splice at (end_to_end (bytes_from l seq t p i)) out ≡ X → splice next (end_to_end (bytes_from l seq t p (i + 1))) o ≡ X
      unfolding end_to_end one
      out-turn out q w = rw (q, splice-next at one (end_to_end (bytes_from l seq t p (i + 1))) out n) (rw (from_next h) at w)

      pub table-turn : (s : List ℕ) {X : List ℕ} → splice (ENTRY * i) (entries at (bytes_from l seq t p i)) s ≡ X
          → splice (ENTRY * (i + 1)) (entries next (bytes_from l seq t p (i + 1))) (set (set s (ENTRY * i) at) (ENTRY * i + 1) (next - at)) ≡ X
      unfolding entries splice one
      table-turn s w =
          let j : ENTRY * (i + 1) ≡ suc (suc (ENTRY * i)) = omega arith in
          let d : next - at ≡ length one = omega arith in
          rw d (simp (j, add-one (ENTRY * i), n) (simp (from_next h) at w))

    module _ (h : length p ≤ i) where
      pub out-done : (at : ℕ) (out : List ℕ) {X : List ℕ} → splice at (end_to_end (bytes_from l seq t p i)) out ≡ X → out ≡ X
      unfolding end_to_end splice
      out-done at out w = rw (from-none h) at w

      pub table_done : (j at : ℕ) (s : List ℕ) {X : List ℕ} → splice j (entries at (bytes_from l seq t p i)) s ≡ X → s ≡ X
      unfolding entries splice
      table_done j at s w = rw (from-none h) at w

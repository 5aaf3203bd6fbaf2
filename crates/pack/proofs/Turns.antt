-- The turns of packing: from the first i items packed to the first i + 1, for a piece, for a message that closes the open group and for one
-- that joins it; and what is told at the end. Assumes nothing.
use Prim.Native.Nat.{ℕ, zero, suc, ◌+◌, ◌-◌, ◌≤◌, ◌<◌}
use mathlib.Core.Path.{◌≡◌, refl, sym, ap, ◌∙◌}
use mathlib.Core.Bool.{Bool, true, false}
use mathlib.Core.List.{List, [], ◌∷◌, ◌++◌, append-nil, append_assoc}
use native.Mathlib.Omega.{arith}
use borrow.Author.Tests.{lt-ltb, le-ltb}
use lib.ListN.{length, set, take, length-set, length-append}
use Rattle.std.proofs.lemmas.List.{take_more_set}
use Rattle.words.specs.Sizes.{SLICE_SIZE, MAX_MESSAGES}
use Rattle.words.specs.Lists.{total, All}
use Rattle.words.proofs.Lists.{total-snoc, all_snoc}
use Rattle.pack.specs.Pack.{Item, item_at, items_of, items_in, is_small, Pack, group, single, packed_len, packed, pack}
use Rattle.pack.specs.Rows.{smalls, smalls_in, pack_of, packs_in, Sound, pack_len, packets_len, Packs}
use Rattle.pack.specs.Steps.{open_row, piece_row, opened, closed, begun, joined, pieced, PackedTo}
use Rattle.pack.specs.declared.Item as code
use Rattle.pack.specs.declared.Row.{Row}
use Rattle.pack.specs.declared.Packing.{Packing}
use Rattle.pack.proofs.Tables.{items-then, items-whole, smalls-join, smalls-pass, packs-put, length-packs, packets-more}
use Rattle.pack.proofs.Lengths.{var-most, message-most, slice-most}

smalls-none : (t : List code.Item) (i : ℕ) → smalls_in t i i ≡ []
unfolding smalls_in smalls items_in
smalls-none t i = let z : i - i ≡ 0 = omega arith in rw z

positive : (n : ℕ) → (n ≡ 0 → ⊥) → 0 < n
positive zero h = absurd (h refl)
positive (suc n) h = omega arith

-- nothing is packed
pub start : (ids : Bool) (seq : ℕ) (t : List code.Item) (rows : List Row) → PackedTo ids seq t 0 opened rows
unfolding smalls_in smalls items_in total packets_len pack All
start ids seq t rows =
    record {
      first = omega arith;
      packets = omega arith;
      messages = refl;
      few = omega arith;
      sum = refl;
      bytes = refl;
      bounded = omega arith;
      sound = tt;
      goes_on = λ rest. refl;
    }

-- where one more row is put out
module _ (ids : Bool) (seq : ℕ) (t : List code.Item) (i : ℕ) (p : Packing) (rows : List Row) (w : PackedTo ids seq t i p rows) (r : Row) (h : i < length rows) where
  room : p.packets < length rows
  room = let q = w.packets in omega arith

  put : List Row
  put = set rows p.packets r

  put-packs : packs_in t put (p.packets + 1) ≡ packs_in t rows p.packets ++ (pack_of t r ∷ [])
  unfolding put
  put-packs = packs-put t rows p.packets r room

  put-sound : Sound t r → All (Sound t) (take (p.packets + 1) put)
  unfolding put
  put-sound s = rw (take_more_set rows p.packets r room) (all_snoc (Sound t) (take p.packets rows) r w.sound s)

  put-bytes : packets_len ids seq (packs_in t put (p.packets + 1)) ≡ p.bytes + pack_len ids (seq + p.packets) (pack_of t r)
  put-bytes =
      let e = ap (packets_len ids seq) put-packs ∙ packets-more ids seq (packs_in t rows p.packets) (pack_of t r) in
      let v = ap (λ (m : ℕ). pack_len ids (seq + m) (pack_of t r)) (length-packs t rows p.packets (omega arith)) in
      let b = w.bytes in
      omega arith

  put-goes : (ps : List Pack) → packs_in t put (p.packets + 1) ++ ps ≡ packs_in t rows p.packets ++ (pack_of t r ∷ ps)
  put-goes ps = ap (λ (l : List Pack). l ++ ps) put-packs ∙ append_assoc (packs_in t rows p.packets) (pack_of t r ∷ []) ps

-- ---- what packing does with one item more, and with none

module _ (ids : Bool) (sum : ℕ) (g : List Item) (x : Item) (rest : List Item) where
  pub packed-piece : is_small x ≡ false → packed ids sum g (x ∷ rest) ≡ single x ∷ packed ids sum g rest
  unfolding packed
  packed-piece e = simp e

  pub packed-close : is_small x ≡ true → SLICE_SIZE < sum + packed_len ids x → packed ids sum g (x ∷ rest) ≡ group g ∷ packed ids (packed_len ids x) (x ∷ []) rest
  unfolding packed
  packed-close e h = simp (e, lt-ltb _ _ h)

  pub packed_join : is_small x ≡ true → sum + packed_len ids x ≤ SLICE_SIZE → packed ids sum g (x ∷ rest) ≡ packed ids (sum + packed_len ids x) (g ++ (x ∷ [])) rest
  unfolding packed
  packed_join e h = simp (e, le-ltb _ _ h)

pub last_none : (ids : Bool) (sum : ℕ) (g : List Item) → length g ≡ 0 → packed ids sum g [] ≡ []
unfolding packed
last_none ids sum [] e = refl
last_none ids sum (x ∷ g) e = absurd (omega arith)

pub last_some : (ids : Bool) (sum : ℕ) (g : List Item) → 0 < length g → packed ids sum g [] ≡ group g ∷ []
unfolding packed
last_some ids sum [] e = absurd (omega arith)
last_some ids sum (x ∷ g) e = refl

module _ (ids : Bool) (seq : ℕ) (t : List code.Item) (i : ℕ) (p : Packing) (rows : List Row) (w : PackedTo ids seq t i p rows) where
  -- whatever follows an item is what packing makes of it, after the packets put out so far
  goes : (rest : List Item) {ps : List Pack} → packed ids p.small_messages_bytes (smalls_in t p.first i) (item_at t i ∷ rest) ≡ ps
      → packs_in t rows p.packets ++ ps ≡ pack ids (items_in t 0 (i + 1) ++ rest)
  goes rest e =
      ap (λ (l : List Pack). packs_in t rows p.packets ++ l) (sym e) ∙ w.goes_on (item_at t i ∷ rest) ∙ ap (pack ids) (sym (items-then t i rest))

  module _ (short : (item_at t i).len ≤ SLICE_SIZE) (small : is_small (item_at t i) ≡ true) where
    -- a message that joins the open group
    pub join-turn : {n : ℕ} → n ≡ packed_len ids (item_at t i) → p.small_messages_bytes + n ≤ SLICE_SIZE → PackedTo ids seq t (i + 1) (joined n p) rows
    join-turn {n} e h =
        let o = smalls-join t p.first i w.first small in
        let most = message-most ids (item_at t i) short in
        record {
          first = let q = w.first in omega arith;
          packets = let q = w.packets in omega arith;
          messages = let q = w.messages in rw (o, length-append) (omega arith);
          few = let q = w.few in omega arith;
          sum = let q = w.sum in rw (o, total-snoc) (omega arith);
          bytes = w.bytes;
          bounded = let q = w.bounded in omega arith;
          sound = w.sound;
          goes_on = λ rest. rw (e, o) (goes rest (packed_join ids p.small_messages_bytes (smalls_in t p.first i) (item_at t i) rest small (rw e at h)));
        }

  module _ (short : (item_at t i).len ≤ SLICE_SIZE) (h : i < length rows) (k : i < length t) (m : i < MAX_MESSAGES) where
    -- a piece
    pub piece-turn : is_small (item_at t i) ≡ false
        → PackedTo ids seq t (i + 1) (pieced seq (item_at t i) p) (set rows p.packets (piece_row (item_at t i).num i))
    unfolding put pack_of pack_len
    piece-turn e =
        let r = piece_row (item_at t i).num i in
        let o = smalls-pass t p.first i w.first e in
        let q : pack_of t r ≡ single (item_at t i) = simp e in
        let most = slice-most (seq + p.packets) (item_at t i) short in
        record {
          first = let q = w.first in omega arith;
          packets = let q = w.packets in omega arith;
          messages = rw o w.messages;
          few = let q = w.few in omega arith;
          sum = rw o w.sum;
          bytes = sym (put-bytes ids seq t i p rows w r h ∙ ap (λ (x : Pack). p.bytes + pack_len ids (seq + p.packets) x) q);
          bounded = let q = w.bounded in omega arith;
          sound = put-sound ids seq t i p rows w r h (record { within = omega arith; piece = λ z. omega arith; counted = λ z. let n : ◌≡◌ {A = ℕ} 0 1 = cc in absurd (omega arith); few = omega arith });
          goes_on = λ rest.
              put-goes ids seq t i p rows w r h _ ∙ goes rest (packed-piece ids p.small_messages_bytes (smalls_in t p.first i) (item_at t i) rest e ∙ rw (q, o));
        }

    -- a message that closes the open group, and opens the next
    pub close-turn : {n : ℕ} → is_small (item_at t i) ≡ true → n ≡ packed_len ids (item_at t i) → SLICE_SIZE < p.small_messages_bytes + n
        → PackedTo ids seq t (i + 1) (begun n (closed seq i p)) (set rows p.packets (open_row p i))
    unfolding put pack_of pack_len total
    close-turn {n} e en over =
        let r = open_row p i in
        let o : smalls_in t i (i + 1) ≡ item_at t i ∷ [] = smalls-join t i i (omega arith) e ∙ ap (λ (l : List Item). l ++ (item_at t i ∷ [])) (smalls-none t i) in
        let most = message-most ids (item_at t i) short in
        let head = var-most (seq + p.packets) in
        record {
          first = omega arith;
          packets = let q = w.packets in omega arith;
          messages = rw o;
          few = omega arith;
          sum = rw o (omega arith);
          bytes = sym (rw w.sum (put-bytes ids seq t i p rows w r h));
          bounded = let q = w.bounded in omega arith;
          sound = put-sound ids seq t i p rows w r h (record { within = omega arith; piece = λ z. let n : ◌≡◌ {A = ℕ} 0 1 = cc in absurd (omega arith); counted = λ z. w.messages; few = let q = w.few in omega arith });
          goes_on = λ rest.
              put-goes ids seq t i p rows w r h _ ∙ goes rest (packed-close ids p.small_messages_bytes (smalls_in t p.first i) (item_at t i) rest e (rw en at over) ∙ rw (en, o));
        }

-- ---- the end of a round

module _ (ids : Bool) (seq : ℕ) (t : List code.Item) (p : Packing) (rows : List Row) (w : PackedTo ids seq t (length t) p rows) where
  ends : {ps : List Pack} → packed ids p.small_messages_bytes (smalls_in t p.first (length t)) [] ≡ ps → packs_in t rows p.packets ++ ps ≡ pack ids (items_of t)
  ends e =
      ap (λ (l : List Pack). packs_in t rows p.packets ++ l) (sym e)
      ∙ w.goes_on []
      ∙ ap (pack ids) (append-nil (items_in t 0 (length t)) ∙ sym (items-whole t))

  -- no message is left
  pub end_none : length t < length rows → p.small_messages ≡ 0 → Packs ids seq t rows (record { packets = p.packets; bytes = p.bytes })
  end_none h z =
      let q = w.messages in
      let k = w.packets in
      let e : packs_in t rows p.packets ≡ pack ids (items_of t) =
      sym (append-nil (packs_in t rows p.packets)) ∙ ends (last_none ids p.small_messages_bytes (smalls_in t p.first (length t)) (omega arith)) in
      record {
        packs = e;
        packets = sym (length-packs t rows p.packets (omega arith)) ∙ ap length e;
        bytes = w.bytes ∙ ap (packets_len ids seq) e;
        sound = w.sound;
        few = omega arith;
      }

  -- the last group ends the round
  pub end-some : length t < length rows → length t ≤ MAX_MESSAGES → (p.small_messages ≡ 0 → ⊥)
      → Packs ids seq t (set rows p.packets (open_row p (length t))) (record { packets = (closed seq (length t) p).packets; bytes = (closed seq (length t) p).bytes })
  unfolding put pack_of pack_len
  end-some h m z =
      let r = open_row p (length t) in
      let q = w.messages in
      let k = w.packets in
      let n : p.packets + 1 ≤ length (put ids seq t (length t) p rows w r h) = simp length-set (omega arith) in
      let some : 0 < length (smalls_in t p.first (length t)) = positive (length (smalls_in t p.first (length t))) (λ e. z (q ∙ e)) in
      let e : packs_in t (put ids seq t (length t) p rows w r h) (p.packets + 1) ≡ pack ids (items_of t) =
      put-packs ids seq t (length t) p rows w r h ∙ ends (last_some ids p.small_messages_bytes (smalls_in t p.first (length t)) some) in
      record {
        packs = e;
        packets = sym (length-packs t (put ids seq t (length t) p rows w r h) (p.packets + 1) n) ∙ ap length e;
        bytes = sym (rw w.sum (put-bytes ids seq t (length t) p rows w r h)) ∙ ap (packets_len ids seq) e;
        sound = put-sound ids seq t (length t) p rows w r h (record { within = omega arith; piece = λ z. let n : ◌≡◌ {A = ℕ} 0 1 = cc in absurd (omega arith); counted = λ z. w.messages; few = let q = w.few in omega arith });
        few = omega arith;
      }

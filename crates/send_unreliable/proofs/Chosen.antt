-- What a round chooses: it fits the table, it lies in the stores, and with what is left of the allowance it comes to the whole. Assumes nothing.
use Prim.Native.Nat.{ℕ, zero, suc, ◌+◌, ◌*◌, ◌-◌, ◌≤◌, ◌<◌}
use mathlib.Core.Path.{◌≡◌, refl, sym, ap, ◌∙◌}
use mathlib.Core.Bool.{true, false}
use mathlib.Core.List.{List, [], ◌∷◌, ◌++◌, append-nil, append_assoc}
use native.Mathlib.Omega.{arith}
use native.Mathlib.Numerals.{add-one}
use borrow.Author.Tests.{lt-ltb, le-ltb, le-leb, lt-leb, ltb-true, ltb-false, leb-true, leb-false, eq-eqb, ne_eqb}
use lib.Dec.{ltb}
use lib.ListN.{set, length, get_or, take, drop, length-append, drop_of_length-le}
use lib.Seq.{length-take-le, drop-cons}
use Rattle.words.specs.Sizes.{SLICE_SIZE, SLOTS, LANES, PIECES, LIMIT}
use Rattle.words.specs.Pieces.{pieces_of, piece_len_of}
use Rattle.words.specs.Lists.{total, All, reached}
use Rattle.words.proofs.Lists.{total-snoc, all_snoc, all_append}
use Rattle.words.proofs.Tables.{pick-cases}
use Rattle.channel.specs.Settings.{Good, small_len_of, lane_len_of, lanes_len_of, stores_hold_of}
use Rattle.channel.specs.declared.Settings.{Settings}
use Rattle.channel.proofs.Good.{lane-most, lane-within, stores-room}
use Rattle.pack.specs.Pack.{Item, items_of, items_in}
use Rattle.pack.specs.Encode.{Lent}
use Rattle.pack.specs.Rows as rows
use Rattle.pack.specs.declared.Item as code
use Rattle.pack.specs.Round.{ITEMS}
use Rattle.pack.proofs.Tables.{length-items, items-put, items-taken}
use Rattle.pack.proofs.Pieces.{pieces-most, pieces-needed, pieces-two, piece-most, piece-within}
use Rattle.send_unreliable.specs.Sender.{waiting, is_small, Valid}
use Rattle.send_unreliable.specs.Round.{Chosen, pieces_from, go, starting, select}
use Rattle.send_unreliable.specs.Steps.{chosen_at, small_one, sliced_one, Room}
use Rattle.send_unreliable.specs.declared.Selection.{Selection}
use Rattle.send_unreliable.specs.declared.SendChannelUnreliable.{SendChannelUnreliable}
use Rattle.send_unreliable.proofs.Lists.{total-append}
use Rattle.send_unreliable.proofs.Valid.{one-kind}

-- ---- the four ways of a message

-- what is so of each is so of the next state of choosing
module _ (P : Chosen → Type 0) (s : Settings) (c : Chosen) (n : ℕ) where
  pub go-cases :
      (is_small n ≡ true → c.left < n → P (record { left = c.left; small = c.small + 1; sliced = c.sliced; id = c.id; items = c.items }))
      → (is_small n ≡ true → n ≤ c.left
      → P (record { left = c.left - n; small = c.small + 1; sliced = c.sliced; id = c.id; items = c.items ++ (record { num = 0; id = 0; index = 0; place = c.small * SLICE_SIZE; len = n } ∷ []) }))
      → (is_small n ≡ false → c.left < n → P (record { left = c.left; small = c.small; sliced = c.sliced + 1; id = c.id; items = c.items }))
      → (is_small n ≡ false → n ≤ c.left
      → P (record { left = c.left - n; small = c.small; sliced = c.sliced + 1; id = c.id + 1; items = c.items ++ pieces_from c.id n (c.sliced * lane_len_of s) 0 (pieces_of n) }))
      → P (go s c n)
  unfolding go
  go-cases small-passed small-goes sliced-passed sliced-goes =
      pick-cases P (is_small n)
      (λ e. pick-cases P (ltb c.left n) (λ h. small-passed e (ltb-true _ _ h)) (λ h. small-goes e (ltb-false _ _ h)))
      (λ e. pick-cases P (ltb c.left n) (λ h. sliced-passed e (ltb-true _ _ h)) (λ h. sliced-goes e (ltb-false _ _ h)))

-- and which of them it is, by the tests
module _ (s : Settings) (c : Chosen) (n : ℕ) where
  pub small-passed : is_small n ≡ true → c.left < n
      → go s c n ≡ record { left = c.left; small = c.small + 1; sliced = c.sliced; id = c.id; items = c.items }
  unfolding go
  small-passed e h = simp (e, lt-ltb _ _ h)

  pub small-goes : is_small n ≡ true → n ≤ c.left
      → go s c n ≡ record { left = c.left - n; small = c.small + 1; sliced = c.sliced; id = c.id; items = c.items ++ (record { num = 0; id = 0; index = 0; place = c.small * SLICE_SIZE; len = n } ∷ []) }
  unfolding go
  small-goes e h = simp (e, le-ltb _ _ h)

  pub sliced-passed : is_small n ≡ false → c.left < n
      → go s c n ≡ record { left = c.left; small = c.small; sliced = c.sliced + 1; id = c.id; items = c.items }
  unfolding go
  sliced-passed e h = simp (e, lt-ltb _ _ h)

  pub sliced-goes : is_small n ≡ false → n ≤ c.left
      → go s c n ≡ record { left = c.left - n; small = c.small; sliced = c.sliced + 1; id = c.id + 1; items = c.items ++ pieces_from c.id n (c.sliced * lane_len_of s) 0 (pieces_of n) }
  unfolding go
  sliced-goes e h = simp (e, le-ltb _ _ h)

-- ---- pieces

pub length-pieces : (id n place i k : ℕ) → length (pieces_from id n place i k) ≡ k
unfolding pieces_from
length-pieces id n place i zero = refl
length-pieces id n place i (suc k) = ap suc (length-pieces id n place (i + 1) k)

-- the pieces from the i-th to the last have the bytes from there on
pub total-pieces : (id n place i k : ℕ) → i + k ≡ pieces_of n → total (λ (x : Item). x.len) (pieces_from id n place i k) ≡ n - i * SLICE_SIZE
unfolding pieces_from total
total-pieces id n place i zero h = omega arith
total-pieces id n place i (suc zero) h =
    let e : piece_len_of n i ≡ n - i * SLICE_SIZE = rw (eq-eqb (i + 1) (pieces_of n) (omega arith)) in omega arith
total-pieces id n place i (suc (suc k)) h =
    let e : piece_len_of n i ≡ SLICE_SIZE = rw (ne_eqb (i + 1) (pieces_of n) (λ z. omega arith)) in
    let r = total-pieces id n place (i + 1) (suc k) (omega arith) in
    let l = pieces-needed n (i + 1) (omega arith) in
    omega arith

-- a loop that puts pieces to a table: the first items, and the pieces to come
module _ (id n place first : ℕ) where
  abbrev pub put_from : List code.Item → ℕ → List Item
  put_from t i = items_in t 0 (first + i) ++ pieces_from id n place i (pieces_of n - i)

  pub put-turn : (t : List code.Item) (i num len : ℕ) → num ≡ pieces_of n → len ≡ piece_len_of n i → i < pieces_of n → first + i < length t
      → put_from (set t (first + i) (record { num = num; id = record { 0 = id }; index = record { 0 = i }; place = place + i * SLICE_SIZE; len = len })) (i + 1) ≡ put_from t i
  unfolding pieces_from
  put-turn t i num len en el h r =
      let a : first + (i + 1) ≡ first + i + 1 = omega arith in
      let b : pieces_of n - i ≡ suc (pieces_of n - (i + 1)) = omega arith in
      rw (a, b, items-put t (first + i) _ r, en, el) (append_assoc (items_in t 0 (first + i)) _ (pieces_from id n place (i + 1) (pieces_of n - (i + 1))))

  pub put_all : (t : List code.Item) (i k : ℕ) → k ≡ pieces_of n → i ≤ k → k ≤ i → items_in t 0 (first + k) ≡ put_from t i
  unfolding pieces_from
  put_all t i k e h l =
      let a : k ≡ i = omega arith in
      let b : pieces_of n - i ≡ 0 = omega arith in
      rw (a, b, append-nil)

-- ---- there is room for all that is chosen

module _ (s : Settings) (g : Good s) where
  -- the first of the messages to come
  pub room-one : (c : Chosen) (n : ℕ) (ns : List ℕ) → Room s c (n ∷ ns) → Room s c (n ∷ [])
  unfolding total All
  room-one c n ns r =
      record { small = omega (arith, r.small); sliced = omega (arith, r.sliced); long = (r.long.0, tt); items = r.items; ids = r.ids }

  pub room-turn : (c : Chosen) (n : ℕ) (ns : List ℕ) → Room s c (n ∷ ns) → Room s (go s c n) ns
  unfolding total All
  room-turn c n ns r =
      go-cases (λ d. Room s d ns) s c n
      (λ e h. let a = rw e at r.small in let b = rw e at r.sliced in
      record { small = omega arith; sliced = omega arith; long = r.long.1; items = omega (arith, r.items); ids = r.ids })
      (λ e h. let a = rw e at r.small in let b = rw e at r.sliced in
      record { small = omega arith; sliced = omega arith; long = r.long.1; items = simp length-append (omega (arith, r.items)); ids = r.ids })
      (λ e h. let a = rw e at r.small in let b = rw e at r.sliced in
      record { small = omega arith; sliced = omega arith; long = r.long.1; items = omega (arith, r.items); ids = omega (arith, r.ids) })
      (λ e h.
      let a = rw e at r.small in
      let b = rw e at r.sliced in
      let m = lane-most s g in
      let p = pieces-most n PIECES (omega (arith, r.long.0)) in
      record {
        small = omega arith;
        sliced = omega arith;
        long = r.long.1;
        items = simp (length-append, length-pieces) (omega (arith, r.items));
        ids = omega (arith, r.ids);
      })

  pub room-end : (ns : List ℕ) (c : Chosen) → Room s c ns → Room s (reached (go s) c ns) []
  unfolding reached
  room-end [] c r = r
  room-end (n ∷ ns) c r = room-end ns (go s c n) (room-turn c n ns r)

  -- in the end the table is long enough
  pub items-most : (c : Chosen) → Room s c [] → length c.items ≤ SLOTS + LANES * PIECES
  unfolding total
  items-most c r = omega (arith, r.small, r.sliced, r.items, g.slots-most, g.lanes-most)

-- as many messages wait as there are small and sliced ones
kinds-total : (ns : List ℕ) → total small_one ns + total sliced_one ns ≡ length ns
unfolding total
kinds-total [] = refl
kinds-total (n ∷ ns) = let a = one-kind n in let b = kinds-total ns in omega arith

module _ (s : SendChannelUnreliable) (v : Valid s) where
  pub length-waiting : length (waiting s) ≡ s.count
  length-waiting =
      length-take-le s.count s.lens (omega (arith, v.lens-long, v.counted, v.small-most, v.sliced-most, v.settings.slots-most, v.settings.lanes-most))

  pub sliced-is : total sliced_one (waiting s) ≡ s.sliced
  sliced-is = let k = kinds-total (waiting s) in let l = length-waiting in omega (arith, v.small_is, v.counted)

  pub room-start : (allowance : ℕ) → Room s.settings (starting allowance s.sliced_message_id) (waiting s)
  room-start allowance =
      let e = sliced-is in
      record {
        small = omega (arith, v.small_is, v.small-most);
        sliced = omega (arith, v.sliced-most);
        long = v.long;
        items = omega arith;
        ids = omega (arith, v.id-most);
      }

-- ---- a turn of choosing, as the code takes it

module _ (s : Settings) (k : Selection) (t : List code.Item) (n : ℕ) where
  pub put_small : n ≤ SLICE_SIZE → n ≤ k.left → k.items < length t
      → chosen_at (record { left = k.left - n; small = k.small + 1; sliced = k.sliced; id = k.id; items = k.items + 1 })
      (set t k.items (record { num = 0; id = record { 0 = 0 }; index = record { 0 = 0 }; place = k.small * SLICE_SIZE; len = n })) ≡ go s (chosen_at k t) n
  put_small a h r = rw (items-put t k.items _ r) (sym (small-goes s (chosen_at k t) n (le-leb _ _ a) h))

  pub put-sliced : SLICE_SIZE < n → n ≤ k.left → (u : List code.Item) (m : ℕ)
      → items_in u 0 m ≡ items_in t 0 k.items ++ pieces_from k.id n (k.sliced * lane_len_of s) 0 (pieces_of n)
      → chosen_at (record { left = k.left - n; small = k.small; sliced = k.sliced + 1; id = k.id + 1; items = m }) u ≡ go s (chosen_at k t) n
  put-sliced a h u m e = rw e (sym (sliced-goes s (chosen_at k t) n (lt-leb _ _ a) h))

  -- where the next message goes to, there is room for it and its items
  module _ (g : Good s) (r : Room s (chosen_at k t) (n ∷ [])) where
    pub cell_room : n ≤ SLICE_SIZE → (k.small < s.slots) × (k.items < ITEMS)
    unfolding total
    cell_room h =
        let e = le-leb n SLICE_SIZE h in
        let a = rw e at r.small in
        let b = rw e at r.sliced in
        let l = length-items t 0 k.items in
        (omega arith, omega (arith, r.items, g.slots-most, g.lanes-most))

    pub lane_room : SLICE_SIZE < n → (k.sliced < s.lanes) × (n ≤ lane_len_of s) × (k.items + pieces_of n ≤ ITEMS)
    unfolding total All
    lane_room h =
        let e = lt-leb n SLICE_SIZE h in
        let a = rw e at r.small in
        let b = rw e at r.sliced in
        let l = length-items t 0 k.items in
        let p = pieces-most n PIECES (omega (arith, r.long.0, lane-most s g)) in
        (omega arith, r.long.0, omega (arith, r.items, g.slots-most, g.lanes-most))

-- the messages from the i-th on
module _ (s : Settings) (lens : List ℕ) (i : ℕ) (h : i < length lens) (c : Chosen) where
  rest-cons : drop i lens ≡ get_or lens i 0 ∷ drop (i + 1) lens
  rest-cons = drop-cons lens i 0 h ∙ rw add-one

  pub next-room : Room s c (drop i lens) → Room s c (get_or lens i 0 ∷ drop (i + 1) lens)
  next-room r = rw rest-cons at r

  pub next-turn : (d e : Chosen) → d ≡ go s c (get_or lens i 0) → reached (go s) c (drop i lens) ≡ e → reached (go s) d (drop (i + 1) lens) ≡ e
  unfolding reached
  next-turn d e ed r = rw ed (rw rest-cons at r)

  pub turn-room : Good s → (d : Chosen) → d ≡ go s c (get_or lens i 0) → Room s c (drop i lens) → Room s d (drop (i + 1) lens)
  turn-room g d ed r = rw ed (room-turn s g c (get_or lens i 0) (drop (i + 1) lens) (next-room r))

pub all-passed : (s : Settings) (lens : List ℕ) (i : ℕ) (c e : Chosen) → length lens ≤ i → reached (go s) c (drop i lens) ≡ e → c ≡ e
unfolding reached
all-passed s lens i c e h r = rw (drop_of_length-le lens h) at r

-- ---- the ids that go

id-turn : (s : Settings) (c : Chosen) (n : ℕ) → c.id ≤ (go s c n).id
id-turn s c n = go-cases (λ d. c.id ≤ d.id) s c n (λ e h. omega arith) (λ e h. omega arith) (λ e h. omega arith) (λ e h. omega arith)

pub ids-rise : (s : Settings) (ns : List ℕ) (c : Chosen) → c.id ≤ (reached (go s) c ns).id
unfolding reached
ids-rise s [] c = omega arith
ids-rise s (n ∷ ns) c = let a = id-turn s c n in let b = ids-rise s ns (go s c n) in omega arith

-- ---- what is chosen may go

module _ (s : Settings) (g : Good s) (l : Lent) (small-room : small_len_of s ≤ length l.small) (lanes-room : lanes_len_of s ≤ length l.lanes) where
  small-chosen : (k n : ℕ) → k < s.slots → n ≤ SLICE_SIZE → rows.Chosen l (record { num = 0; id = 0; index = 0; place = k * SLICE_SIZE; len = n })
  small-chosen k n h m = record { num = omega arith; id = omega arith; index = omega arith; stored = omega arith; len = m }

  module _ (id n place : ℕ) (h : id < LIMIT) (m : n ≤ lane_len_of s) (t : SLICE_SIZE < n) (w : place + n ≤ length l.lanes) where
    -- a piece is no small message
    piece-chosen : (i : ℕ) → i < pieces_of n → rows.Chosen l (record { num = pieces_of n; id = id; index = i; place = place + i * SLICE_SIZE; len = piece_len_of n i })
    piece-chosen i q =
        let two = pieces-two n t in
        let most = pieces-most n PIECES (omega (arith, lane-most s g)) in
        rw (ne_eqb (pieces_of n) 0 (λ z. omega arith))
        record { num = omega arith; id = h; index = omega arith; stored = omega (arith, piece-within n i q); len = piece-most n i q }

    pieces-chosen : (i k : ℕ) → i + k ≡ pieces_of n → All (rows.Chosen l) (pieces_from id n place i k)
    unfolding pieces_from All
    pieces-chosen i zero e = tt
    pieces-chosen i (suc k) e = (piece-chosen i (omega arith), pieces-chosen (i + 1) k (omega arith))

  pub chosen-turn : (c : Chosen) (n : ℕ) (ns : List ℕ) → Room s c (n ∷ ns) → (go s c n).id ≤ LIMIT → All (rows.Chosen l) c.items → All (rows.Chosen l) (go s c n).items
  unfolding total All
  chosen-turn c n ns r =
      go-cases (λ d. d.id ≤ LIMIT → All (rows.Chosen l) c.items → All (rows.Chosen l) d.items) s c n
      (λ e h i a. a)
      (λ e h i a. all_snoc (rows.Chosen l) c.items _ a (small-chosen c.small n (let f = rw e at r.small in omega arith) (leb-true _ _ e)))
      (λ e h i a. a)
      (λ e h i a.
      let f = rw e at r.sliced in
      let w = lane-within s c.sliced (omega arith) in
      all_append (rows.Chosen l) c.items _ a
      (pieces-chosen c.id n (c.sliced * lane_len_of s) (omega arith) r.long.0 (leb-false _ _ e) (omega (arith, r.long.0)) 0 (pieces_of n) (omega arith)))

  pub all-chosen : (ns : List ℕ) (c : Chosen) → Room s c ns → (reached (go s) c ns).id ≤ LIMIT → All (rows.Chosen l) c.items → All (rows.Chosen l) (reached (go s) c ns).items
  unfolding reached
  all-chosen [] c r h a = a
  all-chosen (n ∷ ns) c r h a =
      all-chosen ns (go s c n) (room-turn s g c n ns r) h (chosen-turn c n ns r (let b = ids-rise s ns (go s c n) in omega arith) a)

-- ---- what the code has chosen, in the first items of table t

module _ (s : SendChannelUnreliable) (v : Valid s) (allowance : ℕ) (k : Selection) (t : List code.Item)
    (e : chosen_at k t ≡ reached (go s.settings) (starting allowance s.sliced_message_id) (waiting s)) where
  pub selected : chosen_at k t ≡ select s allowance
  unfolding select
  selected = e

  pub chosen-fits : k.items ≤ ITEMS
  chosen-fits =
      let r = room-end s.settings v.settings (waiting s) _ (room-start s v allowance) in
      let m = items-most s.settings v.settings _ (rw (← e) at r) in
      omega (arith, length-items t 0 k.items)

  -- as the items that are handed on
  pub chosen-items : k.items ≤ length t → items_of (take k.items t) ≡ (select s allowance).items
  chosen-items h = items-taken t k.items h ∙ ap (λ (c : Chosen). c.items) selected

  pub chosen-go : (l : Lent) → stores_hold_of s.settings (length l.small) (length l.lanes) ≡ true → k.id ≤ LIMIT → k.items ≤ length t → All (rows.Chosen l) (items_of (take k.items t))
  unfolding All
  chosen-go l h i q =
      let r = stores-room s.settings (length l.small) (length l.lanes) h in
      let w : (reached (go s.settings) (starting allowance s.sliced_message_id) (waiting s)).id ≤ LIMIT = rw (← e) i in
      rw (items-taken t k.items q ∙ ap (λ (c : Chosen). c.items) e) (all-chosen s.settings v.settings l r.0 r.1 (waiting s) _ (room-start s v allowance) w tt)

-- ---- what is left and what goes come to the allowance

abbrev items_total : Chosen → ℕ
items_total c = total (λ (x : Item). x.len) c.items

spent-turn : (s : Settings) (c : Chosen) (n : ℕ) → (go s c n).left + items_total (go s c n) ≡ c.left + items_total c
spent-turn s c n =
    go-cases (λ d. d.left + items_total d ≡ c.left + items_total c) s c n
    (λ e h. refl)
    (λ e h. rw total-snoc (omega arith))
    (λ e h. refl)
    (λ e h.
    let p = total-pieces c.id n (c.sliced * lane_len_of s) 0 (pieces_of n) (omega arith) in
    rw total-append (omega arith))

pub spent_all : (s : Settings) (ns : List ℕ) (c : Chosen) → (reached (go s) c ns).left + items_total (reached (go s) c ns) ≡ c.left + items_total c
unfolding reached
spent_all s [] c = refl
spent_all s (n ∷ ns) c = spent_all s ns (go s c n) ∙ spent-turn s c n

-- What the receiver's stores hold: of each held message the bytes that were queued under its id, and of each open lane the pieces that are here.
-- Q is the list of all that was queued. Assumes nothing.
use Prim.Native.Nat.{ℕ, ◌+◌, ◌*◌, ◌≤◌, ◌<◌}
use mathlib.Core.Path.{◌≡◌, refl, sym, ap, ◌∙◌, subst}
use mathlib.Core.Bool.{Bool, true, false}
use mathlib.Core.List.{List, [], ◌∷◌, ◌++◌}
use mathlib.Core.Option.{some}
use native.Mathlib.Omega.{arith}
use lib.Dec.{ltb}
use lib.ListN.{length, get_or, get_elem?, set, take, drop, length-drop}
use lib.Seq.{get_or-set_same, get_or-set_other}
use borrow.Author.Tests.{ltb-true, ltb-false}
use Rattle.words.specs.Sizes.{SLICE_SIZE, SLOTS, LANES, PIECES, LIMIT}
use Rattle.words.specs.Choice.{pick}
use Rattle.words.specs.Pieces.{pieces_of, piece_of}
use Rattle.words.specs.Lists.{splice, reached, All}
use Rattle.words.proofs.Splice.{length-splice}
use Rattle.words.proofs.Tables.{by-test, by_place, pick-cases, none-held, part-before, part-after, part-here}
use Rattle.channel.specs.Settings.{Good, lane_len_of, stores_hold_of}
use Rattle.channel.specs.declared.Settings.{Settings}
use Rattle.channel.proofs.Good.{lane-within}
use Rattle.channel.proofs.Held.{Here}
use Rattle.slice_constructor.specs.declared.SliceConstructor.{SliceConstructor}
use Rattle.slice_constructor.specs.Collect as c
use Rattle.slice_constructor.specs.Whole.{Holds}
use Rattle.slice_constructor.proofs.Valid as cv
use Rattle.slice_constructor.proofs.Order.{holds-new, holds-front, holds-taken, whole-message}
use Rattle.receive_reliable.specs.Receive as r
use Rattle.receive_reliable.specs.Receive.{new_of, cell_of, lane_of, in_cell_of, in_lane_of, ignores, constructor_at, is_whole, lane_charge, kept, MessageSpot, cell, nowhere, message_spot, message_state, message_bytes, with_message_of, SliceSpot, opened, fresh, nothing, slice_spot, slice_state, slice_bytes, with_lane_of, without_cell, without_lane, after_take, Valid}
use Rattle.receive_reliable.specs.Steps.{Fits, lane_spot, piece_refusal}
use Rattle.receive_reliable.specs.declared.ReceiveChannelReliable.{ReceiveChannelReliable}
use Rattle.channel.specs.declared.Store.{Store}
use Rattle.channel.specs.declared.Store.TheVariants.{Small, Lanes}
use Rattle.receive_reliable.proofs.Valid.{new-valid, message-valid, lane-valid, without-cell-valid, without-lane-valid}
use Rattle.receive_reliable.proofs.Spots.{cell-here, lane_here, Entered, spot-cell, open-fits, fresh-fits}
use Rattle.receive_reliable.proofs.Gives.{fits-taken}
use Rattle.delivery.specs.World.{Bytes, Handed, message, slice, Receiving, receives}
use Rattle.delivery.proofs.Lists.{same_some, at_more, drop-splice-add, never, places-apart}
use Rattle.delivery.proofs.Spots as spots
use Rattle.delivery.proofs.Spots.{stores-hold, slice-placed}

-- message id of all that was queued
abbrev pub Queued : List Bytes → ℕ → Bytes → Type 0
Queued q id msg = get_elem? q id ≡ some msg

-- piece i of num of a queued message
pub record PieceOf (q : List Bytes) (id num i : ℕ) (bs : Bytes) : Type 0 where
  pub msg : Bytes
  pub queued : Queued q id msg
  pub long : SLICE_SIZE < length msg
  pub num-is : num ≡ pieces_of (length msg)
  pub low : i < num
  pub bytes : bs ≡ piece_of msg i

-- what a packet may hand to the receiver
abbrev pub Sound : List Bytes → Handed → Type 0
Sound q (message id bs) = Queued q id bs × (length bs ≤ SLICE_SIZE)
Sound q (slice id num i bs) = PieceOf q id num i bs

-- ---- what is here

module _ (q : List Bytes) (s : ReceiveChannelReliable) (small lanes : Bytes) where
  pub record CellHas (j : ℕ) : Type 0 where
    pub room : stores_hold_of s.settings (length small) (length lanes) ≡ true
    pub bytes : Queued q (get_or s.cell_ids j 0) (take (get_or s.cell_lens j 0) (drop (j * SLICE_SIZE) small))

  pub record LaneHas (l : ℕ) : Type 0 where
    pub room : stores_hold_of s.settings (length small) (length lanes) ≡ true
    pub msg : Bytes
    pub queued : Queued q (get_or s.lane_ids l 0) msg
    pub long : SLICE_SIZE < length msg
    pub whole : get_or s.whole l false ≡ true → (get_or s.lane_lens l 0 ≡ length msg) × (take (length msg) (drop (l * lane_len_of s.settings) lanes) ≡ msg)
    pub part : get_or s.whole l false ≡ false
        → ((constructor_at s l).num_slices ≡ pieces_of (length msg)) × Holds (constructor_at s l) msg (drop (l * lane_len_of s.settings) lanes)

  pub record Has : Type 0 where
    pub valid : Valid s
    pub cells : (j : ℕ) → j < SLOTS → get_or s.cells j false ≡ true → CellHas j
    pub lane : (l : ℕ) → l < LANES → get_or s.lanes l false ≡ true → LaneHas l

-- a new one holds nothing
pub has_new : (st : Settings) (small lanes : Bytes) → Good st → Has [] (new_of st) small lanes
unfolding new_of
has_new st small lanes g =
    record { valid = new-valid st g; cells = λ j h e. never _ e (none-held SLOTS j); lane = λ l h e. never _ e (none-held LANES l) }

-- what is here is so when more is queued
pub has_more : (q more : List Bytes) (s : ReceiveChannelReliable) (small lanes : Bytes) → Has q s small lanes → Has (q ++ more) s small lanes
has_more q more s small lanes h =
    record {
      valid = h.valid;
      cells = λ j low e. let x = h.cells j low e in record { room = x.room; bytes = at_more q more _ x.bytes };
      lane = λ l low e.
          let x = h.lane l low e in
          record { room = x.room; msg = x.msg; queued = at_more q more _ x.queued; long = x.long; whole = x.whole; part = x.part };
    }

blank-free : (id num i : ℕ) → get_or (c.blank_of id num).received i false ≡ false
unfolding c.blank_of
blank-free id num i = none-held PIECES i

blank-num : (id num : ℕ) → (c.blank_of id num).num_slices ≡ num
unfolding c.blank_of
blank-num id num = refl

module _ (q : List Bytes) (s : ReceiveChannelReliable) (small lanes : Bytes) (h : Has q s small lanes) where
  -- ---- a small message more

  module _ (id : ℕ) (bs : Bytes) (sound : Queued q id bs) where
    message-has-at : (i : ℕ) → message_spot s id (length bs) (length small) (length lanes) ≡ cell i
        → Has q (with_message_of s i id (length bs)) (splice (i * SLICE_SIZE) bs small) lanes
    unfolding with_message_of
    message-has-at i e =
        let v = h.valid in
        let t = spot-cell s v id (length bs) (length small) (length lanes) i e in
        let room = stores-hold s id (length small) (length lanes) t.0 in
        let long = length-splice (i * SLICE_SIZE) bs small in
        let room' : stores_hold_of s.settings (length (splice (i * SLICE_SIZE) bs small)) (length lanes) ≡ true = rw long room in
        let low : i < SLOTS = omega (arith, t.1.low, v.settings.slots-most) in
        let fits : i * SLICE_SIZE + length bs ≤ length small = omega (arith, t.1.low, t.1.short, t.0.small-room) in
        record {
          valid = message-valid s v id (length bs) i t.1;
          cells = λ j lowj held.
              by_place i j
              (λ eq. record {
                room = room';
                bytes =
                    ap (get_elem? q) (ap (λ (k : ℕ). get_or (set s.cell_ids i id) k 0) eq ∙ get_or-set_same s.cell_ids i id 0 (omega (arith, v.cell-ids-long)))
                    ∙ sound
                    ∙ ap some (sym (ap (λ (k : ℕ). take (get_or (set s.cell_lens i (length bs)) k 0) (drop (k * SLICE_SIZE) (splice (i * SLICE_SIZE) bs small))) eq
                    ∙ ap (λ (k : ℕ). take k (drop (i * SLICE_SIZE) (splice (i * SLICE_SIZE) bs small))) (get_or-set_same s.cell_lens i (length bs) 0 (omega (arith, v.cell-lens-long)))
                    ∙ part-here (i * SLICE_SIZE) bs small fits));
              })
              (λ ne.
              let x = h.cells j lowj (sym (get_or-set_other s.cells i j true false ne) ∙ held) in
              let n : ℕ = get_or s.cell_lens j 0 in
              let short : n ≤ SLICE_SIZE = (v.cell j lowj).small in
              let stays : take n (drop (j * SLICE_SIZE) (splice (i * SLICE_SIZE) bs small)) ≡ take n (drop (j * SLICE_SIZE) small) =
              by-test (ltb j i)
              (λ b. part-before (j * SLICE_SIZE) n (i * SLICE_SIZE) bs small (omega (arith, ltb-true j i b, short)))
              (λ b. part-after (j * SLICE_SIZE) n (i * SLICE_SIZE) bs small (omega (arith, ltb-false j i b, ne, t.1.short))) in
              record {
                room = room';
                bytes =
                    ap (get_elem? q) (get_or-set_other s.cell_ids i j id 0 ne) ∙ x.bytes
                    ∙ ap some (sym (ap (λ (k : ℕ). take k (drop (j * SLICE_SIZE) (splice (i * SLICE_SIZE) bs small))) (get_or-set_other s.cell_lens i j (length bs) 0 ne) ∙ stays));
              });
          lane = λ l lowl held.
              let x = h.lane l lowl held in
              record { room = room'; msg = x.msg; queued = x.queued; long = x.long; whole = x.whole; part = x.part };
        }

    pub message-has : Has q (message_state s id (length bs) (message_spot s id (length bs) (length small) (length lanes)))
        (message_bytes (message_spot s id (length bs) (length small) (length lanes)) bs small) lanes
    message-has = at (message_spot s id (length bs) (length small) (length lanes)) refl
      where
        at : (x : MessageSpot) → message_spot s id (length bs) (length small) (length lanes) ≡ x → Has q (message_state s id (length bs) x) (message_bytes x bs small) lanes
        at (cell i) e = message-has-at i e
        at (nowhere o) e = h

  -- ---- a piece more

  abbrev start : ℕ → ℕ
  start l = l * lane_len_of s.settings

  -- the part of another lane stays
  other-part : (m l i n : ℕ) (bs : Bytes) → (m ≡ l → ⊥) → n ≤ lane_len_of s.settings → i * SLICE_SIZE + length bs ≤ lane_len_of s.settings
      → take n (drop (start m) (splice (start l + i * SLICE_SIZE) bs lanes)) ≡ take n (drop (start m) lanes)
  other-part m l i n bs ne short fits =
      by-test (ltb m l)
      (λ b. let a = places-apart (lane_len_of s.settings) m l (ltb-true m l b) in part-before (start m) n (start l + i * SLICE_SIZE) bs lanes (omega arith))
      (λ b. let g = ltb-false m l b in let a = places-apart (lane_len_of s.settings) l m (omega arith) in part-after (start m) n (start l + i * SLICE_SIZE) bs lanes (omega arith))

  -- lane l with the constructor k, before a piece of msg comes
  module _ (l id i : ℕ) (k : SliceConstructor) (msg : Bytes) (f : Fits s l id k) (enter : Entered s id (length small) (length lanes)) (queued : Queued q id msg)
      (long : SLICE_SIZE < length msg) (num : k.num_slices ≡ pieces_of (length msg)) (holds : Holds k msg (drop (start l) lanes))
      (ok : piece_refusal s k i (length (piece_of msg i)) ≡ 0) where
    abbrev bs : Bytes
    bs = piece_of msg i

    abbrev k' : SliceConstructor
    k' = c.taken k i (length bs)

    abbrev lanes' : Bytes
    lanes' = pick (get_or k.received i false) lanes (splice (start l + i * SLICE_SIZE) bs lanes)

    piece-good : cv.Good k i (length bs) (lane_len_of s.settings)
    piece-good = cv.good k i (length bs) (lane_len_of s.settings) ok

    piece-fits : i * SLICE_SIZE + length bs ≤ lane_len_of s.settings
    piece-fits = cv.piece-room k i (length bs) (lane_len_of s.settings) piece-good

    long' : length lanes' ≡ length lanes
    long' = pick-cases (λ (x : Bytes). length x ≡ length lanes) (get_or k.received i false) (λ _. refl) (λ _. length-splice (start l + i * SLICE_SIZE) bs lanes)

    room' : stores_hold_of s.settings (length small) (length lanes') ≡ true
    room' = rw long' (stores-hold s id (length small) (length lanes) enter)

    -- its own lane
    own : drop (start l) lanes' ≡ c.lane_taken k i bs (drop (start l) lanes)
    unfolding c.lane_taken
    own = at (get_or k.received i false)
      where
        at : (b : Bool) → drop (start l) (pick b lanes (splice (start l + i * SLICE_SIZE) bs lanes)) ≡ pick b (drop (start l) lanes) (splice (i * SLICE_SIZE) bs (drop (start l) lanes))
        at true = refl
        at false = drop-splice-add (start l) (i * SLICE_SIZE) bs lanes

    holds' : Holds k' msg (drop (start l) lanes')
    holds' = rw own (holds-taken k f.valid msg (drop (start l) lanes) num holds i piece-good.low)

    fits' : Fits s l id k'
    fits' = fits-taken s l id k f i (length bs) ok

    -- another lane
    others : (m n : ℕ) → (m ≡ l → ⊥) → n ≤ lane_len_of s.settings → take n (drop (start m) lanes') ≡ take n (drop (start m) lanes)
    others m n ne short =
        pick-cases (λ (x : Bytes). take n (drop (start m) x) ≡ take n (drop (start m) lanes)) (get_or k.received i false) (λ _. refl)
        (λ _. other-part m l i n bs ne short piece-fits)

    low : l < LANES
    low = omega (arith, f.low, h.valid.settings.lanes-most)

    num' : k'.num_slices ≡ pieces_of (length msg)
    num' = cv.taken-num k i (length bs) ∙ num

    own_lane : LaneHas q (with_lane_of s l id k') small lanes' l
    unfolding with_lane_of c.answer_of
    own_lane =
        record {
          room = room';
          msg = msg;
          queued = ap (get_elem? q) (get_or-set_same s.lane_ids l id 0 (omega (arith, low, h.valid.lane-ids-long))) ∙ queued;
          long = long;
          whole = λ e.
              let w : is_whole k' ≡ true = sym (get_or-set_same s.whole l (is_whole k') false (omega (arith, low, h.valid.whole_long))) ∙ e in
              let a = whole-message k' fits'.valid msg (drop (start l) lanes') num' holds' (omega arith) (c.whole_len k') (rw w) in
              (get_or-set_same s.lane_lens l (lane_charge k') 0 (omega (arith, low, h.valid.lane-lens-long)) ∙ rw w a.0, rw (← a.0) a.1);
          part = λ e.
              let w : is_whole k' ≡ false = sym (get_or-set_same s.whole l (is_whole k') false (omega (arith, low, h.valid.whole_long))) ∙ e in
              let z : get_or (set s.constructors l (kept k')) l (c.blank_of 0 0) ≡ k'
              = get_or-set_same s.constructors l (kept k') (c.blank_of 0 0) (omega (arith, low, h.valid.constructors-long)) ∙ rw w in
              (ap (λ (x : SliceConstructor). x.num_slices) z ∙ num', subst (λ (x : SliceConstructor). Holds x msg (drop (start l) lanes')) (sym z) holds');
        }

    other-lane : (m : ℕ) → m < LANES → (m ≡ l → ⊥) → get_or s.lanes m false ≡ true → LaneHas q s small lanes m → LaneHas q (with_lane_of s l id k') small lanes' m
    unfolding with_lane_of
    other-lane m lowm ne held x =
        let ew = get_or-set_other s.whole l m (is_whole k') false ne in
        let en = get_or-set_other s.lane_lens l m (lane_charge k') 0 ne in
        let ek = get_or-set_other s.constructors l m (kept k') (c.blank_of 0 0) ne in
        record {
          room = room';
          msg = x.msg;
          queued = ap (get_elem? q) (get_or-set_other s.lane_ids l m id 0 ne) ∙ x.queued;
          long = x.long;
          whole = λ e.
              let w = x.whole (sym ew ∙ e) in
              let short : length x.msg ≤ lane_len_of s.settings = omega (arith, w.0, (h.valid.lane m lowm).long) in
              (en ∙ w.0, others m (length x.msg) ne short ∙ w.1);
          part = λ e.
              let w = x.part (sym ew ∙ e) in
              let g = h.valid.lane m lowm in (
                ap (λ (y : SliceConstructor). y.num_slices) ek ∙ w.0,
                subst (λ (y : SliceConstructor). Holds y x.msg (drop (start m) lanes')) (sym ek)
                    (holds-front (constructor_at s m) x.msg (drop (start m) lanes) (drop (start m) lanes')
                    (let d = length-drop (start m) lanes in let d' = length-drop (start m) lanes' in omega (arith, w.1.long, long'))
                    (others m ((constructor_at s m).num_slices * SLICE_SIZE) ne (omega (arith, (g.opened held (sym ew ∙ e)).3, g.long)))
                    w.1),
              );
        }

    pub piece-has : Has q (with_lane_of s l id k') small lanes'
    unfolding with_lane_of
    piece-has =
        record {
          valid = lane-valid s h.valid l id k' fits';
          cells = λ j lowj held. let x = h.cells j lowj held in record { room = room'; bytes = x.bytes };
          lane = λ m lowm held.
              by_place l m
              (λ e. subst (LaneHas q (with_lane_of s l id k') small lanes') (sym e) own_lane)
              (λ ne. let before = sym (get_or-set_other s.lanes l m true false ne) ∙ held in other-lane m lowm ne before (h.lane m lowm before));
        }

  -- a piece, wherever it goes
  module _ (id num i : ℕ) (bytes : Bytes) (sound : PieceOf q id num i bytes) where
    abbrev spot : SliceSpot
    spot = slice_spot s id num i (length bytes) (length small) (length lanes)

    -- a lane that is neither old nor held is not whole
    not-whole : ignores s id ≡ false → in_lane_of s id ≡ true → get_or s.whole (lane_of s id) false ≡ false
    unfolding ignores
    not-whole e f = at (ltb id s.oldest_pending_message_id) (in_cell_of s id) (rw f at e)
      where
        at : (a b : Bool) → pick a true (pick b true (get_or s.whole (lane_of s id) false)) ≡ false → get_or s.whole (lane_of s id) false ≡ false
        at true b e = never _ refl e
        at false true e = never _ refl e
        at false false e = e

    open-has : (l : ℕ) → l ≡ lane_of s id → ignores s id ≡ false → in_lane_of s id ≡ true → (constructor_at s l).num_slices ≡ num
        → lane_spot s id num (length small) (length lanes) ≡ opened l → piece_refusal s (constructor_at s l) i (length bytes) ≡ 0
        → Has q (with_lane_of s l id (c.taken (constructor_at s l) i (length bytes))) small
        (pick (get_or (constructor_at s l).received i false) lanes (splice (start l + i * SLICE_SIZE) bytes lanes))
    open-has l el ni il en ls ok =
        let f = open-fits s h.valid id num (length small) (length lanes) l ls in
        let there : Here s.lanes s.lane_ids id l = subst (Here s.lanes s.lane_ids id) (sym el) (lane_here s id h.valid il) in
        let low : l < LANES = omega (arith, f.1.low, h.valid.settings.lanes-most) in
        let x = h.lane l low there.held in
        let same : x.msg ≡ sound.msg = same_some (get_elem? q id) (ap (get_elem? q) (sym there.named) ∙ x.queued) sound.queued in
        let p = x.part (ap (λ (m : ℕ). get_or s.whole m false) el ∙ not-whole ni il) in
        subst (λ (b : Bytes). Has q (with_lane_of s l id (c.taken (constructor_at s l) i (length b))) small (pick (get_or (constructor_at s l).received i false) lanes (splice (start l + i * SLICE_SIZE) b lanes)))
        (sym sound.bytes)
        (piece-has l id i (constructor_at s l) sound.msg f.1 f.0 sound.queued sound.long (en ∙ sound.num-is)
        (subst (λ (m : Bytes). Holds (constructor_at s l) m (drop (start l) lanes)) same p.1)
        (subst (λ (b : Bytes). piece_refusal s (constructor_at s l) i (length b) ≡ 0) sound.bytes ok))

    fresh-has : (l : ℕ) → lane_spot s id num (length small) (length lanes) ≡ fresh l → piece_refusal s (c.blank_of id num) i (length bytes) ≡ 0
        → Has q (with_lane_of s l id (c.taken (c.blank_of id num) i (length bytes))) small (splice (start l + i * SLICE_SIZE) bytes lanes)
    fresh-has l ls ok =
        let f = fresh-fits s h.valid id num (length small) (length lanes) l ls in
        let w = lane-within s.settings l f.1.low in
        let d = length-drop (start l) lanes in
        let e : get_or (c.blank_of id num).received i false ≡ false = blank-free id num i in
        subst (λ (b : Bytes). Has q (with_lane_of s l id (c.taken (c.blank_of id num) i (length b))) small (splice (start l + i * SLICE_SIZE) b lanes)) (sym sound.bytes)
        (rw e at (piece-has l id i (c.blank_of id num) sound.msg f.1 f.0 sound.queued sound.long (blank-num id num ∙ sound.num-is)
        (holds-new id num sound.msg (drop (start l) lanes) (omega (arith, f.0.lane_room, f.1.most, blank-num id num)))
        (subst (λ (b : Bytes). piece_refusal s (c.blank_of id num) i (length b) ≡ 0) sound.bytes ok)))

    pub slice-has : Has q (slice_state s id num i (length bytes) spot) small (slice_bytes s i bytes spot lanes)
    slice-has = at (slice-placed s id num i (length bytes) (length small) (length lanes))
      where
        at : {x : SliceSpot} → spots.Placed s id num i (length bytes) (length small) (length lanes) x → Has q (slice_state s id num i (length bytes) x) small (slice_bytes s i bytes x lanes)
        at (spots.in-open l el ni il en ls ok) = open-has l el ni il en ls ok
        at (spots.in-fresh l el ni il ls ok) = fresh-has l ls ok
        at (spots.Placed.held-already e) = h
        at (spots.Placed.turned-away e) = h

  -- ---- a take

  without-cell-has : (i : ℕ) → i < SLOTS → s.oldest_pending_message_id < LIMIT → Has q (without_cell s i) small lanes
  unfolding without_cell
  without-cell-has i low old =
      record {
        valid = without-cell-valid s h.valid i low old;
        cells = λ j lowj held.
            by_place i j
            (λ e. never _ held (ap (λ (k : ℕ). get_or (set s.cells i false) k false) e ∙ get_or-set_same s.cells i false false (omega (arith, low, h.valid.cells-long))))
            (λ ne.
            let x = h.cells j lowj (sym (get_or-set_other s.cells i j false false ne) ∙ held) in
            record {
              room = x.room;
              bytes =
                  ap (get_elem? q) (get_or-set_other s.cell_ids i j 0 0 ne) ∙ x.bytes
                  ∙ ap (λ (k : ℕ). some (take k (drop (j * SLICE_SIZE) small))) (sym (get_or-set_other s.cell_lens i j 0 0 ne));
            });
        lane = λ l lowl held. let x = h.lane l lowl held in record { room = x.room; msg = x.msg; queued = x.queued; long = x.long; whole = x.whole; part = x.part };
      }

  without-lane-has : (l : ℕ) → l < LANES → get_or s.whole l false ≡ true → s.oldest_pending_message_id < LIMIT → Has q (without_lane s l) small lanes
  unfolding without_lane
  without-lane-has l low whole old =
      record {
        valid = without-lane-valid s h.valid l low whole old;
        cells = λ j lowj held. let x = h.cells j lowj held in record { room = x.room; bytes = x.bytes };
        lane = λ m lowm held.
            by_place l m
            (λ e. never _ held (ap (λ (k : ℕ). get_or (set s.lanes l false) k false) e ∙ get_or-set_same s.lanes l false false (omega (arith, low, h.valid.lanes-long))))
            (λ ne.
            let x = h.lane m lowm (sym (get_or-set_other s.lanes l m false false ne) ∙ held) in
            let ew = get_or-set_other s.whole l m false false ne in
            record {
              room = x.room;
              msg = x.msg;
              queued = ap (get_elem? q) (get_or-set_other s.lane_ids l m 0 0 ne) ∙ x.queued;
              long = x.long;
              whole = λ e. let w = x.whole (sym ew ∙ e) in (get_or-set_other s.lane_lens l m 0 0 ne ∙ w.0, w.1);
              part = λ e. x.part (sym ew ∙ e);
            });
      }

  abbrev oldest : ℕ
  oldest = s.oldest_pending_message_id

  -- what a take does: nothing, or it hands out the message with the oldest pending id
  pub data Takes : ReceiveChannelReliable → r.Waiting → Type 0 where
    nothing-waits : Takes s r.none-waiting
    hands : {s' : ReceiveChannelReliable} {w : r.Waiting} (store : Store) (place len : ℕ) → w ≡ r.message oldest store place len → stores_hold_of s.settings (length small) (length lanes) ≡ true
        → Queued q oldest (r.part_at w small lanes) → s'.oldest_pending_message_id ≡ oldest + 1 → Has q s' small lanes → Takes s' w

  from_cell : in_cell_of s oldest ≡ true → Takes (without_cell s (cell_of s oldest)) (r.message oldest Small (cell_of s oldest * SLICE_SIZE) (get_or s.cell_lens (cell_of s oldest) 0))
  unfolding without_cell
  from_cell e =
      let low = ltb-true (cell_of s oldest) SLOTS e in
      let found = cell-here s oldest h.valid e in
      let x = h.cells (cell_of s oldest) low found.held in
      let below : oldest < LIMIT = rw found.named at (h.valid.cell (cell_of s oldest) low).id_below in
      hands Small (cell_of s oldest * SLICE_SIZE) (get_or s.cell_lens (cell_of s oldest) 0) refl x.room
      (ap (get_elem? q) (sym found.named) ∙ x.bytes) refl (without-cell-has (cell_of s oldest) low below)

  from-lane : in_lane_of s oldest ≡ true → get_or s.whole (lane_of s oldest) false ≡ true
      → Takes (without_lane s (lane_of s oldest)) (r.message oldest Lanes (lane_of s oldest * lane_len_of s.settings) (get_or s.lane_lens (lane_of s oldest) 0))
  unfolding without_lane
  from-lane e f =
      let low = ltb-true (lane_of s oldest) LANES e in
      let found = lane_here s oldest h.valid e in
      let x = h.lane (lane_of s oldest) low found.held in
      let w = x.whole f in
      let below : oldest < LIMIT = rw found.named at (h.valid.lane (lane_of s oldest) low).id_below in
      hands Lanes (lane_of s oldest * lane_len_of s.settings) (get_or s.lane_lens (lane_of s oldest) 0) refl x.room
      (ap (get_elem? q) (sym found.named) ∙ x.queued
      ∙ ap some (sym (ap (λ (n : ℕ). take n (drop (lane_of s oldest * lane_len_of s.settings) lanes)) w.0 ∙ w.1))) refl (without-lane-has (lane_of s oldest) low f below)

  take-tests : (a b w : Bool) → in_cell_of s oldest ≡ a → in_lane_of s oldest ≡ b → get_or s.whole (lane_of s oldest) false ≡ w
      → Takes (pick a (without_cell s (cell_of s oldest)) (pick (pick a true (pick b w false)) (without_lane s (lane_of s oldest)) s))
      (pick a (r.message oldest Small (cell_of s oldest * SLICE_SIZE) (get_or s.cell_lens (cell_of s oldest) 0))
      (pick (pick a true (pick b w false)) (r.message oldest Lanes (lane_of s oldest * lane_len_of s.settings) (get_or s.lane_lens (lane_of s oldest) 0)) r.none-waiting))
  take-tests true b w ea eb ew = from_cell ea
  take-tests false true true ea eb ew = from-lane eb ew
  take-tests false true false ea eb ew = nothing-waits
  take-tests false false w ea eb ew = nothing-waits

  pub takes-so : Takes (after_take s) (r.waiting s)
  unfolding after_take r.waiting
  takes-so = take-tests (in_cell_of s oldest) (in_lane_of s oldest) (get_or s.whole (lane_of s oldest) false) refl refl refl

-- ---- all that a packet hands over

pub receives-has : (q : List Bytes) (e : Receiving) (x : Handed) → Sound q x → Has q e.state e.small e.lanes
    → Has q (receives e x).state (receives e x).small (receives e x).lanes
unfolding receives
receives-has q e (message id bs) sound h = message-has q e.state e.small e.lanes h id bs sound.0
receives-has q e (slice id num i bs) sound h = slice-has q e.state e.small e.lanes h id num i bs sound

pub all-has : (q : List Bytes) (xs : List Handed) (e : Receiving) → All (Sound q) xs → Has q e.state e.small e.lanes
    → Has q (reached receives e xs).state (reached receives e xs).small (reached receives e xs).lanes
unfolding reached All
all-has q [] e a h = h
all-has q (x ∷ xs) e a h = all-has q xs (receives e x) a.1 (receives-has q e x a.0 h)

-- and it awaits the same id
state-oldest : (s : ReceiveChannelReliable) (id n : ℕ) (x : MessageSpot) → (message_state s id n x).oldest_pending_message_id ≡ s.oldest_pending_message_id
unfolding with_message_of
state-oldest s id n (cell i) = refl
state-oldest s id n (nowhere o) = refl

slice-oldest : (s : ReceiveChannelReliable) (id num i n : ℕ) (x : SliceSpot) → (slice_state s id num i n x).oldest_pending_message_id ≡ s.oldest_pending_message_id
unfolding with_lane_of
slice-oldest s id num i n (opened l) = refl
slice-oldest s id num i n (fresh l) = refl
slice-oldest s id num i n (nothing o) = refl

receives-oldest : (e : Receiving) (x : Handed) → (receives e x).state.oldest_pending_message_id ≡ e.state.oldest_pending_message_id
unfolding receives
receives-oldest e (message id bs) = state-oldest e.state id (length bs) (message_spot e.state id (length bs) (length e.small) (length e.lanes))
receives-oldest e (slice id num i bs) = slice-oldest e.state id num i (length bs) (slice_spot e.state id num i (length bs) (length e.small) (length e.lanes))

pub all-oldest : (xs : List Handed) (e : Receiving) → (reached receives e xs).state.oldest_pending_message_id ≡ e.state.oldest_pending_message_id
unfolding reached
all-oldest [] e = refl
all-oldest (x ∷ xs) e = all-oldest xs (receives e x) ∙ receives-oldest e x

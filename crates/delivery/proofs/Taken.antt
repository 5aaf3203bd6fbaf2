-- What the receiver took stays with it until it is handed out: of each piece that it took or ignored, the message is old, or held whole, or open
-- with that piece in it. Assumes nothing.
use Prim.Native.Nat.{ℕ, ◌+◌, ◌≤◌, ◌<◌}
use mathlib.Core.Path.{◌≡◌, refl, sym, ap, ◌∙◌, subst}
use mathlib.Core.Bool.{Bool, true, false, not}
use mathlib.Core.Logic.{◌⊎◌, inl, inr}
use native.Mathlib.Omega.{arith}
use lib.Dec.{ltb}
use lib.ListN.{length, get_or, set}
use lib.Seq.{get_or-set_same, get_or-set_other}
use borrow.Author.Tests.{ltb-true, ltb-false, lt-ltb, not-true}
use Rattle.words.specs.Sizes.{SLOTS, LANES}
use Rattle.words.specs.Choice.{pick}
use Rattle.words.specs.Lists.{lowest_free_of, All}
use Rattle.words.proofs.Lists.{all_map, all_snoc, held-still, hit-below}
use Rattle.words.proofs.Tables.{by-test, by_place}
use Rattle.channel.proofs.Held.{Here}
use Rattle.slice_constructor.specs.declared.SliceConstructor.{SliceConstructor}
use Rattle.slice_constructor.specs.Collect as c
use Rattle.slice_constructor.proofs.Valid as cv
use Rattle.receive_reliable.specs.Receive.{cell_of, lane_of, in_cell_of, in_lane_of, is_held, ignores, constructor_at, is_whole, kept, MessageSpot, message_state, message_answer_of, with_message_of, SliceSpot, opened, fresh, slice_state, slice_answer_of, with_lane_of, without_cell, without_lane, after_take, Valid}
use Rattle.receive_reliable.specs.Steps.{lane_spot}
use Rattle.receive_reliable.specs.declared.ReceiveChannelReliable.{ReceiveChannelReliable}
use Rattle.receive_reliable.proofs.Spots.{cell-here, lane_here, spot-cell, open-fits, fresh-fits}
use Rattle.delivery.specs.World.{Bytes, Part, whole, piece, Handed, message, slice, Receiving, receives, took_now, ignored_now}
use Rattle.delivery.proofs.Lookup.{find-other, find-new, find-same}
use Rattle.delivery.proofs.Spots as spots
use Rattle.delivery.proofs.Spots.{message-kept, slice-placed}
use Rattle.delivery.proofs.Lists.{never}

-- ---- a piece that arrived

-- old, or held whole
abbrev pub HeldId : ReceiveChannelReliable → ℕ → Type 0
HeldId s id = (id < s.oldest_pending_message_id) ⊎ (is_held s id ≡ true)

abbrev pub ArrivedAt : ReceiveChannelReliable → Part → Type 0
ArrivedAt s (whole id) = HeldId s id
ArrivedAt s (piece id i) = HeldId s id ⊎ ((in_lane_of s id ≡ true) × (get_or (constructor_at s (lane_of s id)).received i false ≡ true))

abbrev pub id_of : Part → ℕ
id_of (whole id) = id
id_of (piece id i) = id

pub held-arrived : (s : ReceiveChannelReliable) (p : Part) → HeldId s (id_of p) → ArrivedAt s p
held-arrived s (whole id) h = h
held-arrived s (piece id i) h = inl h

-- the search for an id finds the same in both
record SameFor (s t : ReceiveChannelReliable) (id : ℕ) : Type 0 where
  old : s.oldest_pending_message_id ≤ t.oldest_pending_message_id
  in_cells : cell_of t id ≡ cell_of s id
  in-lanes : lane_of t id ≡ lane_of s id
  all_here : in_lane_of s id ≡ true → get_or t.whole (lane_of s id) false ≡ get_or s.whole (lane_of s id) false
  put-together : in_lane_of s id ≡ true → constructor_at t (lane_of s id) ≡ constructor_at s (lane_of s id)

module _ (s t : ReceiveChannelReliable) (id : ℕ) (same : SameFor s t id) where
  lane-same : in_lane_of t id ≡ in_lane_of s id
  lane-same = ap (λ (l : ℕ). ltb l LANES) same.in-lanes

  held_same : is_held s id ≡ true → is_held t id ≡ true
  held_same h =
      by-test (in_lane_of s id)
      (λ e. let q : is_held t id ≡ is_held s id
      = rw (ap (λ (i : ℕ). ltb i SLOTS) same.in_cells, same.in-lanes, same.all_here e) in q ∙ h)
      (λ e. let q : is_held t id ≡ is_held s id
      = ap (λ (b : Bool). pick b true (pick (in_lane_of t id) (get_or t.whole (lane_of t id) false) false)) (ap (λ (i : ℕ). ltb i SLOTS) same.in_cells)
      ∙ ap (λ (b : Bool). pick (in_cell_of s id) true (pick b (get_or t.whole (lane_of t id) false) false)) (lane-same ∙ e)
      ∙ sym (ap (λ (b : Bool). pick (in_cell_of s id) true (pick b (get_or s.whole (lane_of s id) false) false)) e) in q ∙ h)

  held_on : HeldId s id → HeldId t id
  held_on (inl h) = inl (omega (arith, same.old))
  held_on (inr h) = inr (held_same h)

still-arrived : (s t : ReceiveChannelReliable) (p : Part) → SameFor s t (id_of p) → ArrivedAt s p → ArrivedAt t p
still-arrived s t (whole id) same h = held_on s t id same h
still-arrived s t (piece id i) same (inl h) = inl (held_on s t id same h)
still-arrived s t (piece id i) same (inr h) =
    inr (
      lane-same s t id same ∙ h.0,
      ap (λ (l : ℕ). get_or (constructor_at t l).received i false) same.in-lanes ∙ ap (λ (k : SliceConstructor). get_or k.received i false) (same.put-together h.0) ∙ h.1,
    )

-- where an id is neither old nor held
pub not-held : (s : ReceiveChannelReliable) (id : ℕ) → ignores s id ≡ false → HeldId s id → ⊥
unfolding ignores
not-held s id e (inl h) = never _ (rw (lt-ltb _ _ h)) e
not-held s id e (inr h) = at (ltb id s.oldest_pending_message_id) (rw h at e)
  where
    at : (b : Bool) → pick b true true ≡ false → ⊥
    at true z = never _ refl z
    at false z = never _ refl z

is-held : (s : ReceiveChannelReliable) (id : ℕ) → ignores s id ≡ true → HeldId s id
unfolding ignores
is-held s id e = by-test (ltb id s.oldest_pending_message_id) (λ t. inl (ltb-true _ _ t)) (λ t. inr (rw t at e))

pub no_cell : (s : ReceiveChannelReliable) (id : ℕ) → ignores s id ≡ false → in_cell_of s id ≡ false
no_cell s id e = by-test (in_cell_of s id) (λ t. absurd (not-held s id e (inr (rw t)))) (λ t. t)

-- a lane of an id that is neither old nor held is not whole
pub open-part : (s : ReceiveChannelReliable) (id : ℕ) → ignores s id ≡ false → in_lane_of s id ≡ true → get_or s.whole (lane_of s id) false ≡ false
open-part s id ni il = by-test (get_or s.whole (lane_of s id) false) (λ t. absurd (not-held s id ni (inr (at (in_cell_of s id) t)))) (λ t. t)
  where
    at : (b : Bool) → get_or s.whole (lane_of s id) false ≡ true → pick b true (pick (in_lane_of s id) (get_or s.whole (lane_of s id) false) false) ≡ true
    at true t = refl
    at false t = rw il t

cell-next : (s : ReceiveChannelReliable) (i : ℕ) → (without_cell s i).oldest_pending_message_id ≡ s.oldest_pending_message_id + 1
unfolding without_cell
cell-next s i = refl

lane-next : (s : ReceiveChannelReliable) (l : ℕ) → (without_lane s l).oldest_pending_message_id ≡ s.oldest_pending_message_id + 1
unfolding without_lane
lane-next s l = refl

-- a piece that is taken is here
now-here : (k : SliceConstructor) → c.Valid k → (i n m : ℕ) → c.collect_refusal k i n m ≡ 0 → get_or (c.taken k i n).received i false ≡ true
now-here k v i n m ok = rw (cv.taken-received k i n) (get_or-set_same k.received i true false (cv.in_table k v i n m (cv.good k i n m ok)))

-- a lane that is fresh was free
pub fresh-free : (s : ReceiveChannelReliable) → Valid s → (l : ℕ) → l ≡ lowest_free_of s.lanes s.settings.lanes → l < s.settings.lanes → get_or s.lanes l false ≡ false
fresh-free s v l e low =
    rw e (not-true _ (hit-below not false s.lanes s.settings.lanes (omega (arith, v.settings.lanes-most, v.lanes-long)) (omega arith)))

module _ (s : ReceiveChannelReliable) (v : Valid s) where
  -- ---- a small message more

  module _ (i id n : ℕ) (low : i < SLOTS) (free : get_or s.cells i false ≡ false) where
    message-other : (x : ℕ) → (id ≡ x → ⊥) → SameFor s (with_message_of s i id n) x
    unfolding with_message_of
    message-other x ne =
        record {
          old = omega arith;
          in_cells = find-other s.cells s.cell_ids x i true id (v.cells-long ∙ sym v.cell-ids-long) (λ h. never _ h free) (λ _. ne);
          in-lanes = refl;
          all_here = λ _. refl;
          put-together = λ _. refl;
        }

    pub message-now : in_cell_of s id ≡ false → is_held (with_message_of s i id n) id ≡ true
    unfolding with_message_of
    message-now e =
        let z = find-new s.cells s.cell_ids id i (v.cells-long ∙ sym v.cell-ids-long) (omega (arith, v.cells-long)) (omega (arith, ltb-false (cell_of s id) SLOTS e, v.cells-long)) in
        let l : cell_of (with_message_of s i id n) id < SLOTS = omega arith in
        rw (lt-ltb _ _ l)

    -- each that arrived before is here still
    message-on : ignores s id ≡ false → (p : Part) → ArrivedAt s p → ArrivedAt (with_message_of s i id n) p
    message-on ni p h =
        by_place (id_of p) id
        (λ e. held-arrived (with_message_of s i id n) p (subst (HeldId (with_message_of s i id n)) e (inr (message-now (no_cell s id ni)))))
        (λ ne. still-arrived s (with_message_of s i id n) p (message-other (id_of p) ne) h)

  -- ---- a piece more, in lane l, which was the id's already or free

  module _ (l id : ℕ) (k : SliceConstructor) (low : l < LANES) (before : get_or s.lanes l false ≡ true → get_or s.lane_ids l 0 ≡ id) where
    abbrev t : ReceiveChannelReliable
    t = with_lane_of s l id k

    lane-other : (x : ℕ) → (id ≡ x → ⊥) → SameFor s t x
    unfolding with_lane_of
    lane-other x ne =
        record {
          old = omega arith;
          in_cells = refl;
          in-lanes = find-other s.lanes s.lane_ids x l true id (v.lanes-long ∙ sym v.lane-ids-long) (λ h q. ne (sym (before h) ∙ q)) (λ _. ne);
          all_here = λ e. get_or-set_other s.whole l (lane_of s x) (is_whole k) false (apart e);
          put-together = λ e. get_or-set_other s.constructors l (lane_of s x) (kept k) (c.blank_of 0 0) (apart e);
        }
      where
        apart : in_lane_of s x ≡ true → lane_of s x ≡ l → ⊥
        apart e q =
            let h : Here s.lanes s.lane_ids x l = subst (Here s.lanes s.lane_ids x) q (lane_here s x v e) in
            ne (sym (before h.held) ∙ h.named)

    -- the lane of the id is l then
    lane-now : (lane_of s id ≡ l) ⊎ (in_lane_of s id ≡ false) → lane_of t id ≡ l
    unfolding with_lane_of
    lane-now (inl e) = at (in_lane_of s id) refl
      where
        at : (b : Bool) → in_lane_of s id ≡ b → lane_of t id ≡ l
        at true q =
            let h : Here s.lanes s.lane_ids id l = subst (Here s.lanes s.lane_ids id) e (lane_here s id v q) in
            find-same s.lanes s.lane_ids id l h.held h.named ∙ e
        at false q = absurd (omega (arith, ltb-false (lane_of s id) LANES q))
    lane-now (inr e) =
        find-new s.lanes s.lane_ids id l (v.lanes-long ∙ sym v.lane-ids-long) (omega (arith, v.lanes-long)) (omega (arith, ltb-false (lane_of s id) LANES e, v.lanes-long))

    module _ (mine : (lane_of s id ≡ l) ⊎ (in_lane_of s id ≡ false)) where
      in-lane-now : in_lane_of t id ≡ true
      in-lane-now = let z = lane-now mine in lt-ltb (lane_of t id) LANES (omega arith)

      -- whole, or with the pieces of k
      piece-now : (i : ℕ) → get_or k.received i false ≡ true → ArrivedAt t (piece id i)
      unfolding with_lane_of
      piece-now i h =
          let z = lane-now mine in
          let ew = get_or-set_same s.whole l (is_whole k) false (omega (arith, v.whole_long)) in
          let ek = get_or-set_same s.constructors l (kept k) (c.blank_of 0 0) (omega (arith, v.constructors-long)) in
          by-test (is_whole k)
          (λ w. inl (inr (held (ap (λ (m : ℕ). get_or (set s.whole l (is_whole k)) m false) z ∙ ew ∙ w))))
          (λ w. inr (
            in-lane-now,
            ap (λ (m : ℕ). get_or (get_or (set s.constructors l (kept k)) m (c.blank_of 0 0)).received i false) z
                ∙ ap (λ (x : SliceConstructor). get_or x.received i false) ek ∙ rw w h,
          ))
        where
          held : get_or t.whole (lane_of t id) false ≡ true → is_held t id ≡ true
          held e = at (in_cell_of t id) (in_lane_of t id) in-lane-now e
            where
              at : (a b : Bool) → b ≡ true → get_or t.whole (lane_of t id) false ≡ true → pick a true (pick b (get_or t.whole (lane_of t id) false) false) ≡ true
              at true b q e = refl
              at false true q e = e
              at false false q e = never _ q refl

      -- each that arrived before is here still
      lane-on : ignores s id ≡ false → (in_lane_of s id ≡ true → (j : ℕ) → get_or (constructor_at s (lane_of s id)).received j false ≡ true → get_or k.received j false ≡ true)
          → (p : Part) → ArrivedAt s p → ArrivedAt t p
      lane-on ni keeps p h =
          by_place (id_of p) id (λ e. own p e h) (λ ne. still-arrived s t p (lane-other (id_of p) ne) h)
        where
          own : (p : Part) → id ≡ id_of p → ArrivedAt s p → ArrivedAt t p
          own (whole x) e h = absurd (not-held s id ni (subst (HeldId s) (sym e) h))
          own (piece x j) e (inl h) = absurd (not-held s id ni (subst (HeldId s) (sym e) h))
          own (piece x j) e (inr h) =
              let y : (in_lane_of s id ≡ true) × (get_or (constructor_at s (lane_of s id)).received j false ≡ true)
              = subst (λ (m : ℕ). (in_lane_of s m ≡ true) × (get_or (constructor_at s (lane_of s m)).received j false ≡ true)) (sym e) h in
              subst (λ (m : ℕ). ArrivedAt t (piece m j)) e (piece-now j (keeps y.0 j y.1))

  -- ---- a take

  abbrev oldest : ℕ
  oldest = s.oldest_pending_message_id

  cell-gone : in_cell_of s oldest ≡ true → (x : ℕ) → (oldest ≡ x → ⊥) → SameFor s (without_cell s (cell_of s oldest)) x
  unfolding without_cell
  cell-gone e x ne =
      let h = cell-here s oldest v e in
      record {
        old = omega arith;
        in_cells = find-other s.cells s.cell_ids x (cell_of s oldest) false 0 (v.cells-long ∙ sym v.cell-ids-long) (λ _ q. ne (sym h.named ∙ q)) (λ b _. never _ b refl);
        in-lanes = refl;
        all_here = λ _. refl;
        put-together = λ _. refl;
      }

  lane-gone : in_lane_of s oldest ≡ true → (x : ℕ) → (oldest ≡ x → ⊥) → SameFor s (without_lane s (lane_of s oldest)) x
  unfolding without_lane
  lane-gone e x ne =
      let h = lane_here s oldest v e in
      record {
        old = omega arith;
        in_cells = refl;
        in-lanes = find-other s.lanes s.lane_ids x (lane_of s oldest) false 0 (v.lanes-long ∙ sym v.lane-ids-long) (λ _ q. ne (sym h.named ∙ q)) (λ b _. never _ b refl);
        all_here = λ f. get_or-set_other s.whole (lane_of s oldest) (lane_of s x) false false (λ q. ne (sym h.named ∙ ap (λ (m : ℕ). get_or s.lane_ids m 0) (sym q) ∙ (lane_here s x v f).named));
        put-together = λ _. refl;
      }

  gone-on : (t : ReceiveChannelReliable) → t.oldest_pending_message_id ≡ oldest + 1 → ((x : ℕ) → (oldest ≡ x → ⊥) → SameFor s t x) → (p : Part) → ArrivedAt s p → ArrivedAt t p
  gone-on t e same p h =
      by_place (id_of p) oldest
      (λ q. held-arrived t p (inl (omega arith)))
      (λ ne. still-arrived s t p (same (id_of p) ne) h)

  pub take_on : (p : Part) → ArrivedAt s p → ArrivedAt (after_take s) p
  unfolding after_take
  take_on p h = at (in_cell_of s oldest) (in_lane_of s oldest) (get_or s.whole (lane_of s oldest) false) refl refl
    where
      at : (a b w : Bool) → in_cell_of s oldest ≡ a → in_lane_of s oldest ≡ b
          → ArrivedAt (pick a (without_cell s (cell_of s oldest)) (pick (pick a true (pick b w false)) (without_lane s (lane_of s oldest)) s)) p
      at true b w ea eb = gone-on (without_cell s (cell_of s oldest)) (cell-next s (cell_of s oldest)) (cell-gone ea) p h
      at false true true ea eb = gone-on (without_lane s (lane_of s oldest)) (lane-next s (lane_of s oldest)) (lane-gone eb) p h
      at false true false ea eb = h
      at false false w ea eb = h

-- ---- the logs

pub record LogHas (e : Receiving) : Type 0 where
  pub took : All (ArrivedAt e.state) e.took
  pub ignored : All (ArrivedAt e.state) e.ignored

module _ (e : Receiving) (v : Valid e.state) where
  abbrev s : ReceiveChannelReliable
  s = e.state

  -- ---- what arrived before is here still

  pub message-onward : (id : ℕ) (bs : Bytes) {x : MessageSpot} → spots.Kept s id (length bs) (length e.small) (length e.lanes) x → (p : Part) → ArrivedAt s p
      → ArrivedAt (message_state s id (length bs) x) p
  message-onward id bs (spots.in_cell i ni q) p h =
      let c = (spot-cell s v id (length bs) (length e.small) (length e.lanes) i q).1 in
      message-on s v i id (length bs) (omega (arith, c.low, v.settings.slots-most)) c.free ni p h
  message-onward id bs (spots.Kept.held-already q) p h = h
  message-onward id bs (spots.Kept.turned-away n) p h = h

  -- the lane of a piece that goes on with k
  pub record Goes (id l : ℕ) (k : SliceConstructor) : Type 0 where
    pub low : l < LANES
    pub before : get_or s.lanes l false ≡ true → get_or s.lane_ids l 0 ≡ id
    pub mine : (lane_of s id ≡ l) ⊎ (in_lane_of s id ≡ false)
    pub keeps : in_lane_of s id ≡ true → (j : ℕ) → get_or (constructor_at s (lane_of s id)).received j false ≡ true → get_or k.received j false ≡ true
    pub valid : c.Valid k

  pub goes-open : (id num l : ℕ) → l ≡ lane_of s id → in_lane_of s id ≡ true → lane_spot s id num (length e.small) (length e.lanes) ≡ opened l → Goes id l (constructor_at s l)
  goes-open id num l el il ls =
      let f = (open-fits s v id num (length e.small) (length e.lanes) l ls).1 in
      let there : Here s.lanes s.lane_ids id l = subst (Here s.lanes s.lane_ids id) (sym el) (lane_here s id v il) in
      record {
        low = omega (arith, f.low, v.settings.lanes-most);
        before = λ _. there.named;
        mine = inl (sym el);
        keeps = λ _ j y. ap (λ (m : ℕ). get_or (constructor_at s m).received j false) el ∙ y;
        valid = f.valid;
      }

  pub goes-fresh : (id num l : ℕ) → l ≡ lowest_free_of s.lanes s.settings.lanes → in_lane_of s id ≡ false → lane_spot s id num (length e.small) (length e.lanes) ≡ fresh l
      → Goes id l (c.blank_of id num)
  goes-fresh id num l el il ls =
      let f = (fresh-fits s v id num (length e.small) (length e.lanes) l ls).1 in
      record {
        low = omega (arith, f.low, v.settings.lanes-most);
        before = λ q. never _ q (fresh-free s v l el f.low);
        mine = inr il;
        keeps = λ q. never _ q il;
        valid = f.valid;
      }

  module _ (id i l n m : ℕ) (k : SliceConstructor) (g : Goes id l k) (ok : c.collect_refusal k i n m ≡ 0) where
    on-lane : ignores s id ≡ false → (p : Part) → ArrivedAt s p → ArrivedAt (with_lane_of s l id (c.taken k i n)) p
    on-lane ni =
        lane-on s v l id (c.taken k i n) g.low g.before g.mine ni
        (λ q j y. rw (cv.taken-received k i n) (held-still k.received i j (g.keeps q j y)))

    pub now-on-lane : ArrivedAt (with_lane_of s l id (c.taken k i n)) (piece id i)
    now-on-lane = piece-now s v l id (c.taken k i n) g.low g.before g.mine i (now-here k g.valid i n m ok)

  pub slice-onward : (id num i : ℕ) (bs : Bytes) {x : SliceSpot} → spots.Placed s id num i (length bs) (length e.small) (length e.lanes) x → (p : Part) → ArrivedAt s p
      → ArrivedAt (slice_state s id num i (length bs) x) p
  slice-onward id num i bs (spots.in-open l el ni il en ls ok) p h = on-lane id i l (length bs) _ (constructor_at s l) (goes-open id num l el il ls) ok ni p h
  slice-onward id num i bs (spots.in-fresh l el ni il ls ok) p h = on-lane id i l (length bs) _ (c.blank_of id num) (goes-fresh id num l el il ls) ok ni p h
  slice-onward id num i bs (spots.Placed.held-already q) p h = h
  slice-onward id num i bs (spots.Placed.turned-away n) p h = h

  pub receives-on : (x : Handed) (p : Part) → ArrivedAt s p → ArrivedAt (receives e x).state p
  unfolding receives
  receives-on (message id bs) p h = message-onward id bs (message-kept s id (length bs) (length e.small) (length e.lanes)) p h
  receives-on (slice id num i bs) p h = slice-onward id num i bs (slice-placed s id num i (length bs) (length e.small) (length e.lanes)) p h

  -- ---- what is taken or ignored now

  module _ (h : LogHas e) where
    message-logs : (id : ℕ) (bs : Bytes) {x : MessageSpot} → spots.Kept s id (length bs) (length e.small) (length e.lanes) x
        → All (ArrivedAt (message_state s id (length bs) x)) e.took → All (ArrivedAt (message_state s id (length bs) x)) e.ignored
        → All (ArrivedAt (message_state s id (length bs) x)) (took_now (message_answer_of x) (whole id) e.took)
        × All (ArrivedAt (message_state s id (length bs) x)) (ignored_now (message_answer_of x) (whole id) e.ignored)
    message-logs id bs (spots.in_cell i ni q) a b =
        let p = (spot-cell s v id (length bs) (length e.small) (length e.lanes) i q).1 in
        (all_snoc _ e.took (whole id) a (inr (message-now s v i id (length bs) (omega (arith, p.low, v.settings.slots-most)) p.free (no_cell s id ni))), b)
    message-logs id bs (spots.Kept.held-already q) a b = (a, all_snoc _ e.ignored (whole id) b (is-held s id q))
    message-logs id bs (spots.Kept.turned-away n) a b = (a, b)

    slice-logs : (id num i : ℕ) (bs : Bytes) {x : SliceSpot} → spots.Placed s id num i (length bs) (length e.small) (length e.lanes) x
        → All (ArrivedAt (slice_state s id num i (length bs) x)) e.took → All (ArrivedAt (slice_state s id num i (length bs) x)) e.ignored
        → All (ArrivedAt (slice_state s id num i (length bs) x)) (took_now (slice_answer_of x) (piece id i) e.took)
        × All (ArrivedAt (slice_state s id num i (length bs) x)) (ignored_now (slice_answer_of x) (piece id i) e.ignored)
    slice-logs id num i bs (spots.in-open l el ni il en ls ok) a b =
        (all_snoc _ e.took (piece id i) a (now-on-lane id i l (length bs) _ (constructor_at s l) (goes-open id num l el il ls) ok), b)
    slice-logs id num i bs (spots.in-fresh l el ni il ls ok) a b =
        (all_snoc _ e.took (piece id i) a (now-on-lane id i l (length bs) _ (c.blank_of id num) (goes-fresh id num l el il ls) ok), b)
    slice-logs id num i bs (spots.Placed.held-already q) a b = (a, all_snoc _ e.ignored (piece id i) b (inl (is-held s id q)))
    slice-logs id num i bs (spots.Placed.turned-away n) a b = (a, b)

    pub receives-logs : (x : Handed) → LogHas (receives e x)
    unfolding receives
    receives-logs (message id bs) =
        let k = message-kept s id (length bs) (length e.small) (length e.lanes) in
        let p = message-logs id bs k (all_map _ _ (message-onward id bs k) e.took h.took) (all_map _ _ (message-onward id bs k) e.ignored h.ignored) in
        record { took = p.0; ignored = p.1 }
    receives-logs (slice id num i bs) =
        let k = slice-placed s id num i (length bs) (length e.small) (length e.lanes) in
        let p = slice-logs id num i bs k (all_map _ _ (slice-onward id num i bs k) e.took h.took) (all_map _ _ (slice-onward id num i bs k) e.ignored h.ignored) in
        record { took = p.0; ignored = p.1 }

-- What a place, a held message and a look say of the state. Assumes nothing.
use Rattle.std.specs.Prelude.{Option, Some, None}
use Prim.Native.Nat.{ℕ, ◌+◌, ◌*◌, ◌≤◌, ◌<◌}
use mathlib.Core.Path.{◌≡◌, refl, sym, ap, ◌∙◌}
use mathlib.Core.Bool.{Bool, true, false, not}
use mathlib.Core.List.{[], ◌∷◌}
use native.Mathlib.Omega.{arith}
use borrow.Author.Tests.{ltb-true, ltb-false, leb-false, eqb-true, eqb-false, not-true, not-false}
use lib.Dec.{ltb, leb, eqb}
use lib.ListN.{get_or}
use Rattle.words.specs.Sizes.{SLICE_SIZE, SLOTS, LANES, LIMIT}
use Rattle.words.specs.Choice.{pick}
use Rattle.words.specs.Lists.{All, lowest_free_of}
use Rattle.words.proofs.Lists.{hit-below, none-refused}
use Rattle.channel.specs.Settings.{small_len_of, lane_len_of, lanes_len_of, stores_hold_of}
use Rattle.channel.proofs.Good.{lane-within, stores-room}
use Rattle.channel.proofs.Held.{Here, found}
use Rattle.slice_constructor.specs.Collect as c
use Rattle.slice_constructor.proofs.Valid as cv
use Rattle.receive_reliable.specs.Receive.{cell_of, lane_of, in_cell_of, in_lane_of, is_held, ignores, Outcome, ignored, refused, entry_refusal, message_refusal, cell, nowhere, message_spot, SliceSpot, opened, fresh, nothing, count_refusal, fresh_refusal, constructor_at, placed, open_spot, fresh_spot, slice_spot, Waiting, message, none-waiting, refusing, waiting, look_at, after_take, without_cell, without_lane, Valid}
use Rattle.receive_reliable.specs.Steps.{held_by_of, held_in, whole_of, open_of, shown_at, open_lane, fresh_lane, lane_spot, Fits}
use Rattle.receive_reliable.specs.declared.ReceiveChannelReliable.{ReceiveChannelReliable}
use Rattle.channel.specs.declared.Opened.{Opened}
use Rattle.channel.specs.declared.Store.{Store}
use Rattle.channel.specs.declared.Store.TheVariants.{Small, Lanes}
use Rattle.receive_reliable.specs.declared.Held.{Held}
use Rattle.receive_reliable.specs.declared.Held.TheVariants as held
use Rattle.receive_reliable.proofs.Valid.{CellSpot, lane-used}
use Rattle.words.proofs.Tables.{clash}

-- ---- a message that is held

at_small : (a b w : Bool) (m l n i : ℕ) → pick a (Some (held.At Small m)) (pick b (pick w (Some (held.At Lanes l)) (Some (held.Open (record { lane = l; charge = n })))) None) ≡ Some (held.At Small i)
    → (a ≡ true) × (m ≡ i)
at_small true b w m l n i e = (refl, cc)
at_small false true true m l n i e = clash (cc)
at_small false true false m l n i e = clash (cc)
at_small false false w m l n i e = clash (cc)

at-lanes : (a b w : Bool) (m l n i : ℕ) → pick a (Some (held.At Small m)) (pick b (pick w (Some (held.At Lanes l)) (Some (held.Open (record { lane = l; charge = n })))) None) ≡ Some (held.At Lanes i)
    → (a ≡ false) × (b ≡ true) × (w ≡ true) × (l ≡ i)
at-lanes true b w m l n i e = clash (cc)
at-lanes false true true m l n i e = (refl, refl, refl, cc)
at-lanes false true false m l n i e = clash (cc)
at-lanes false false w m l n i e = clash (cc)

at_open : (a b w : Bool) (m l n i x : ℕ) → pick a (Some (held.At Small m)) (pick b (pick w (Some (held.At Lanes l)) (Some (held.Open (record { lane = l; charge = n })))) None) ≡ Some (held.Open (record { lane = i; charge = x }))
    → (a ≡ false) × (b ≡ true) × (w ≡ false) × (l ≡ i) × (n ≡ x)
at_open true b w m l n i x e = clash (cc)
at_open false true true m l n i x e = clash (cc)
at_open false true false m l n i x e =
    let o : ◌≡◌ {A = Opened} (record { lane = l; charge = n }) (record { lane = i; charge = x }) = cc in
    (refl, refl, refl, ap (λ (p : Opened). p.lane) o, ap (λ (p : Opened). p.charge) o)
at_open false false w m l n i x e = clash (cc)

at-nothing : (a b w : Bool) (m l n : ℕ) → pick a (Some (held.At Small m)) (pick b (pick w (Some (held.At Lanes l)) (Some (held.Open (record { lane = l; charge = n })))) None) ≡ None
    → (a ≡ false) × (b ≡ false)
at-nothing true b w m l n e = clash (cc)
at-nothing false true true m l n e = clash (cc)
at-nothing false true false m l n e = clash (cc)
at-nothing false false w m l n e = (refl, refl)

-- two tests of which neither holds
neither : (a b : Bool) → pick a true b ≡ false → (a ≡ false) × (b ≡ false)
neither true b e = clash (cc)
neither false b e = (refl, e)

module _ (s : ReceiveChannelReliable) (id : ℕ) where
  in_small : (i : ℕ) → held_in s id ≡ Some (held.At Small i) → (in_cell_of s id ≡ true) × (cell_of s id ≡ i)
  unfolding held_by_of
  in_small i e = at_small (in_cell_of s id) (in_lane_of s id) (get_or s.whole (lane_of s id) false) (cell_of s id) (lane_of s id) (get_or s.lane_lens (lane_of s id) 0) i e

  in-lanes : (l : ℕ) → held_in s id ≡ Some (held.At Lanes l) → (in_cell_of s id ≡ false) × (in_lane_of s id ≡ true) × (get_or s.whole (lane_of s id) false ≡ true) × (lane_of s id ≡ l)
  unfolding held_by_of
  in-lanes l e = at-lanes (in_cell_of s id) (in_lane_of s id) (get_or s.whole (lane_of s id) false) (cell_of s id) (lane_of s id) (get_or s.lane_lens (lane_of s id) 0) l e

  pub in-open : (l n : ℕ) → held_in s id ≡ Some (held.Open (record { lane = l; charge = n }))
      → (in_cell_of s id ≡ false) × (in_lane_of s id ≡ true) × (get_or s.whole (lane_of s id) false ≡ false) × (lane_of s id ≡ l) × (get_or s.lane_lens (lane_of s id) 0 ≡ n)
  unfolding held_by_of
  in-open l n e = at_open (in_cell_of s id) (in_lane_of s id) (get_or s.whole (lane_of s id) false) (cell_of s id) (lane_of s id) (get_or s.lane_lens (lane_of s id) 0) l n e

  in-neither : held_in s id ≡ None → (in_cell_of s id ≡ false) × (in_lane_of s id ≡ false)
  unfolding held_by_of
  in-neither e = at-nothing (in_cell_of s id) (in_lane_of s id) (get_or s.whole (lane_of s id) false) (cell_of s id) (lane_of s id) (get_or s.lane_lens (lane_of s id) 0) e

  -- so a whole one is ignored
  pub held-ignored : (store : Store) (i : ℕ) → held_in s id ≡ Some (held.At store i) → is_held s id ≡ true
  held-ignored Small i e = rw (in_small i e).0
  held-ignored Lanes l e = let t = in-lanes l e in rw (t.0, t.1, t.2)

  -- and one that is open or not here is not
  pub absent : (h : Option Held) → held_in s id ≡ h → whole_of h ≡ None → (in_cell_of s id ≡ false) × (is_held s id ≡ false)
  absent (Some (held.At store i)) e k = clash (cc)
  absent (Some (held.Open o)) e k = let t = in-open o.lane o.charge e in (t.0, rw (t.0, t.1, t.2))
  absent None e k = let t = in-neither e in (t.0, rw (t.0, t.1))

  -- one that is neither whole nor open has no lane
  pub no-lane-here : is_held s id ≡ false → (h : Option Held) → held_in s id ≡ h → open_of h ≡ None → in_lane_of s id ≡ false
  no-lane-here f (Some (held.At store i)) e k = let t = held-ignored store i e in clash (cc)
  no-lane-here f (Some (held.Open o)) e k = clash (cc)
  no-lane-here f None e k = (in-neither e).1

  module _ (v : Valid s) where
    -- the cell of a held small message
    pub cell-here : in_cell_of s id ≡ true → Here s.cells s.cell_ids id (cell_of s id)
    cell-here e = found s.cells s.cell_ids id (v.cells-long ∙ sym v.cell-ids-long) (let l = ltb-true (cell_of s id) SLOTS e in omega (arith, v.cells-long))

    pub lane_here : in_lane_of s id ≡ true → Here s.lanes s.lane_ids id (lane_of s id)
    lane_here e = found s.lanes s.lane_ids id (v.lanes-long ∙ sym v.lane-ids-long) (let l = ltb-true (lane_of s id) LANES e in omega (arith, v.lanes-long))

    -- a lane that is not ignored is not whole
    pub not-whole : in_lane_of s id ≡ true → ignores s id ≡ false → get_or s.whole (lane_of s id) false ≡ false
    unfolding ignores
    not-whole e o = rw e at (neither (in_cell_of s id) _ (neither (ltb id s.oldest_pending_message_id) (is_held s id) o).1).1

    -- of one in cell i: the cell is one of those that the settings ask for, and the id one that may come
    pub small-held : (i : ℕ) → held_in s id ≡ Some (held.At Small i) → (i < s.settings.slots) × (id < LIMIT)
    small-held i e =
        let t = in_small i e in
        let low : i < SLOTS = rw (← t.1) (ltb-true (cell_of s id) SLOTS t.0) in
        let here : Here s.cells s.cell_ids id i = rw (← t.1) (cell-here t.0) in
        let g = v.cell i low in
        (g.within here.held, rw here.named at g.id_below)

    -- of one in lane l: it is whole besides
    pub lane-held : (l : ℕ) → held_in s id ≡ Some (held.At Lanes l) → (l < s.settings.lanes) × (id < LIMIT) × (get_or s.whole l false ≡ true)
    lane-held l e =
        let t = in-lanes l e in
        let low : l < LANES = rw (← t.3) (ltb-true (lane_of s id) LANES t.1) in
        let here : Here s.lanes s.lane_ids id l = rw (← t.3) (lane_here t.1) in
        let g = v.lane l low in
        (g.within here.held, rw here.named at g.id_below, rw (← t.3) t.2)

    -- of one that is open in lane l: its charge tells its pieces
    pub open-held : (l n : ℕ) → held_in s id ≡ Some (held.Open (record { lane = l; charge = n })) → (in_lane_of s id ≡ true) × (lane_of s id ≡ l) × (n ≡ SLICE_SIZE * (constructor_at s l).num_slices)
    open-held l n e =
        let t = in-open l n e in
        let low : l < LANES = rw (← t.3) (ltb-true (lane_of s id) LANES t.1) in
        let here : Here s.lanes s.lane_ids id l = rw (← t.3) (lane_here t.1) in
        let charge : get_or s.lane_lens l 0 ≡ n = rw (← t.3) t.4 in
        (t.1, t.3, sym charge ∙ ((v.lane l low).opened here.held (rw (← t.3) t.2)).3)

-- what is held whole is at a cell or lane
pub at-place : (h : Option Held) (store : Store) (i : ℕ) → whole_of h ≡ Some (store, i) → h ≡ Some (held.At store i)
at-place (Some (held.At x j)) store i e =
    let p : ◌≡◌ {A = Store × ℕ} (x, j) (store, i) = cc in
    ap (λ (q : Store × ℕ). Some (held.At q.0 q.1)) p
at-place (Some (held.Open o)) store i e = clash (cc)
at-place None store i e = clash (cc)

-- ---- a look and a take go by it

-- how long the store is that holds it
abbrev store_len : Store → ℕ → ℕ → ℕ
store_len Small small lane = small
store_len Lanes small lane = lane

module _ (s : ReceiveChannelReliable) where
  module _ (h : Option Held) (e : held_in s s.oldest_pending_message_id ≡ h) (k : whole_of h ≡ None) where
    pub waiting-nothing : waiting s ≡ none-waiting
    unfolding waiting
    waiting-nothing = let t = absent s s.oldest_pending_message_id h e k in rw (t.1, t.0)

    pub take-nothing : after_take s ≡ s
    unfolding after_take
    take-nothing = let t = absent s s.oldest_pending_message_id h e k in rw (t.1, t.0)

  pub take-small : (i : ℕ) → held_in s s.oldest_pending_message_id ≡ Some (held.At Small i) → after_take s ≡ without_cell s i
  unfolding after_take
  take-small i e = let t = in_small s s.oldest_pending_message_id i e in rw (t.0, t.1)

  pub take-lanes : (l : ℕ) → held_in s s.oldest_pending_message_id ≡ Some (held.At Lanes l) → after_take s ≡ without_lane s l
  unfolding after_take
  take-lanes l e = let t = in-lanes s s.oldest_pending_message_id l e in rw (held-ignored s s.oldest_pending_message_id Lanes l e, t.0, t.3)

  pub waiting-shown : (store : Store) (i : ℕ) → held_in s s.oldest_pending_message_id ≡ Some (held.At store i) → waiting s ≡ shown_at s store i
  unfolding waiting
  waiting-shown Small i e = let t = in_small s s.oldest_pending_message_id i e in rw (t.0, t.1)
  waiting-shown Lanes l e = let t = in-lanes s s.oldest_pending_message_id l e in rw (held-ignored s s.oldest_pending_message_id Lanes l e, t.0, t.3)

  module _ (small lane : ℕ) where
    pub look-refused : stores_hold_of s.settings small lane ≡ false → refusing 10 ≡ look_at s small lane
    unfolding look_at
    look-refused h = rw h

    pub look-shows : stores_hold_of s.settings small lane ≡ true → waiting s ≡ look_at s small lane
    unfolding look_at
    look-shows h = rw h

    message-tests : (b : Bool) (w : Waiting) (id place len : ℕ) (store : Store) → pick b w (refusing 10) ≡ message id store place len → (b ≡ true) × (w ≡ message id store place len)
    message-tests true w id place len store e = (refl, e)
    message-tests false w id place len store e = clash (cc)

    module _ (v : Valid s) (id place len : ℕ) (small-room : small_len_of s.settings ≤ small) (lane_room : lanes_len_of s.settings ≤ lane) where
      held-within : (h : Option Held) → held_in s s.oldest_pending_message_id ≡ h → (store : Store) → waiting s ≡ message id store place len → place + len ≤ store_len store small lane
      held-within None e store w = let n = waiting-nothing None e refl in clash (cc)
      held-within (Some (held.Open o)) e store w = let n = waiting-nothing (Some (held.Open o)) e refl in clash (cc)
      held-within (Some (held.At Small i)) e Lanes w = let n = waiting-shown Small i e in clash (cc)
      held-within (Some (held.At Lanes l)) e Small w = let n = waiting-shown Lanes l e in clash (cc)
      held-within (Some (held.At Small i)) e Small w =
          let n = waiting-shown Small i e in
          let start : i * SLICE_SIZE ≡ place = cc in
          let long : get_or s.cell_lens i 0 ≡ len = cc in
          let low = (small-held s s.oldest_pending_message_id v i e).0 in
          omega (arith, (v.cell i (omega (arith, v.settings.slots-most))).small)
      held-within (Some (held.At Lanes l)) e Lanes w =
          let n = waiting-shown Lanes l e in
          let start : l * lane_len_of s.settings ≡ place = cc in
          let long : get_or s.lane_lens l 0 ≡ len = cc in
          let low = (lane-held s s.oldest_pending_message_id v l e).0 in
          omega (arith, (v.lane l (omega (arith, v.settings.lanes-most))).long, lane-within s.settings l low)

    -- what is waiting lies within its store
    pub look-within : Valid s → (id place len : ℕ) (store : Store) → look_at s small lane ≡ message id store place len → place + len ≤ store_len store small lane
    unfolding look_at
    look-within v id place len store e =
        let t = message-tests (stores_hold_of s.settings small lane) (waiting s) id place len store e in
        let r = stores-room s.settings small lane t.0 in
        held-within v id place len r.0 r.1 (held_in s s.oldest_pending_message_id) refl store t.1

-- ---- what arrives

-- what is so of the stores and the id where neither is refused
pub record Entered (s : ReceiveChannelReliable) (id small lane : ℕ) : Type 0 where
  pub small-room : small_len_of s.settings ≤ small
  pub lane_room : lanes_len_of s.settings ≤ lane
  pub below : id < LIMIT

entered : (s : ReceiveChannelReliable) (id small lane : ℕ) → entry_refusal s id small lane ≡ 0 → Entered s id small lane
unfolding entry_refusal All
entered s id small lane e =
    let a = none-refused ((not (stores_hold_of s.settings small lane), 10) ∷ (leb LIMIT id, 13) ∷ []) refl e in
    let r = stores-room s.settings small lane (not-false _ a.0) in
    record { small-room = r.0; lane_room = r.1; below = leb-false _ _ a.1.0 }

cell-tests :
    (a b d : Bool) (x y : Outcome) (l i : ℕ)
    → pick a (pick b (nowhere ignored) (pick d (cell l) (nowhere y))) (nowhere x) ≡ cell i → (a ≡ true) × (d ≡ true) × (l ≡ i)
cell-tests true true d x y l i e = clash (cc)
cell-tests true false true x y l i e = (refl, refl, cc)
cell-tests true false false x y l i e = clash (cc)
cell-tests false b d x y l i e = clash (cc)

-- a small message that goes to cell i
pub spot-cell : (s : ReceiveChannelReliable) → Valid s → (id n small lane i : ℕ) → message_spot s id n small lane ≡ cell i → Entered s id small lane × CellSpot s id n i
unfolding message_spot message_refusal All
spot-cell s v id n small lane i e =
    let l : ℕ = lowest_free_of s.cells s.settings.slots in
    let t =
    cell-tests (eqb (entry_refusal s id small lane) 0) (ignores s id) (eqb (message_refusal s id n) 0)
    (refused (entry_refusal s id small lane)) (refused (message_refusal s id n)) l i e in
    let d = entered s id small lane (eqb-true _ _ t.0) in
    let a =
    none-refused (
    (ltb SLICE_SIZE n, 12) ∷
    (in_lane_of s id, 16) ∷
    (ltb s.settings.max_memory_usage_bytes (s.memory_usage_bytes + n), 7) ∷
    (leb s.settings.slots l, 11) ∷ []
    )
    refl (eqb-true _ _ t.1) in
    let low : l < s.settings.slots = leb-false _ _ a.1.1.1.0 in
    let hit : not (get_or s.cells l false) ≡ true = hit-below not false s.cells s.settings.slots (omega (arith, v.settings.slots-most, v.cells-long)) low in (
      d,
      record {
        low = rw (← t.2) low;
        free = rw (← t.2) (not-true _ hit);
        below = d.below;
        short = ltb-false _ _ a.0;
        memory = ltb-false _ _ a.1.1.0;
      },
    )

-- ---- a piece

-- the tests of a piece's lane, read downwards
abbrev ladder : Bool → Bool → Bool → Bool → Bool → Bool → SliceSpot → SliceSpot → Outcome → Outcome → Outcome → Outcome → SliceSpot
ladder a b d e f g l m w x y z =
    pick a (pick b (nothing ignored) (pick d (pick e (pick f l (nothing w)) (pick g m (nothing x))) (nothing y))) (nothing z)

open-tests : (a b d e f g : Bool) (w x y z : Outcome) (l m i : ℕ)
    → ladder a b d e f g (opened l) (fresh m) w x y z ≡ opened i → (a ≡ true) × (b ≡ false) × (d ≡ true) × (e ≡ true) × (f ≡ true) × (l ≡ i)
open-tests true false true true true g w x y z l m i h = (refl, refl, refl, refl, refl, cc)
open-tests true false true true false g w x y z l m i h = clash (cc)
open-tests true false true false f true w x y z l m i h = clash (cc)
open-tests true false true false f false w x y z l m i h = clash (cc)
open-tests true false false e f g w x y z l m i h = clash (cc)
open-tests true true d e f g w x y z l m i h = clash (cc)
open-tests false b d e f g w x y z l m i h = clash (cc)

fresh-tests : (a b d e f g : Bool) (w x y z : Outcome) (l m i : ℕ)
    → ladder a b d e f g (opened l) (fresh m) w x y z ≡ fresh i → (a ≡ true) × (d ≡ true) × (g ≡ true) × (m ≡ i)
fresh-tests true false true false f true w x y z l m i h = (refl, refl, refl, cc)
fresh-tests true false true false f false w x y z l m i h = clash (cc)
fresh-tests true false true true true g w x y z l m i h = clash (cc)
fresh-tests true false true true false g w x y z l m i h = clash (cc)
fresh-tests true false false e f g w x y z l m i h = clash (cc)
fresh-tests true true d e f g w x y z l m i h = clash (cc)
fresh-tests false b d e f g w x y z l m i h = clash (cc)

module _ (s : ReceiveChannelReliable) (v : Valid s) (id num small lane l : ℕ) where
  counted : count_refusal s num ≡ 0 → (1 ≤ num) × (num ≤ s.settings.pieces)
  unfolding count_refusal All
  counted e =
      let a = none-refused ((eqb num 0, 8) ∷ (ltb s.settings.pieces num, 12) ∷ []) refl e in
      let other : num ≡ 0 → ⊥ = eqb-false _ _ a.0 in
      (omega (arith, other), ltb-false _ _ a.1.0)

  -- in a lane that is open already
  pub open-fits : lane_spot s id num small lane ≡ opened l → Entered s id small lane × Fits s l id (constructor_at s l)
  unfolding lane_spot open_lane fresh_lane
  open-fits e =
      let m : ℕ = lane_of s id in
      let t =
      open-tests (eqb (entry_refusal s id small lane) 0) (ignores s id) (eqb (count_refusal s num) 0) (in_lane_of s id)
      (eqb (constructor_at s m).num_slices num) (eqb (fresh_refusal s num) 0)
      (refused 8) (refused (fresh_refusal s num)) (refused (count_refusal s num)) (refused (entry_refusal s id small lane))
      m (lowest_free_of s.lanes s.settings.lanes) l e in
      let d = entered s id small lane (eqb-true _ _ t.0) in
      let n = counted (eqb-true _ _ t.2) in
      let low : l < LANES = rw (← t.5) (ltb-true m LANES t.3) in
      let here : Here s.lanes s.lane_ids id l = rw (← t.5) (lane_here s id v t.3) in
      let whole : get_or s.whole l false ≡ false = rw (← t.5) (not-whole s id v t.3 t.1) in
      let g = v.lane l low in
      let o = g.opened here.held whole in
      let used = lane-used s v l low in
      let same : (constructor_at s l).num_slices ≡ num = rw (← t.5) (eqb-true _ _ t.4) in (
        d,
        record {
          low = g.within here.held;
          below = d.below;
          valid = g.constructor;
          named = o.0 ∙ here.named;
          one = o.1;
          most = omega (arith, n.1);
          room = omega (arith, o.3, v.usage-most);
        },
      )

  -- in a free one
  pub fresh-fits : lane_spot s id num small lane ≡ fresh l → Entered s id small lane × Fits s l id (c.blank_of id num)
  unfolding lane_spot open_lane fresh_lane fresh_refusal All c.blank_of
  fresh-fits e =
      let m : ℕ = lowest_free_of s.lanes s.settings.lanes in
      let t =
      fresh-tests (eqb (entry_refusal s id small lane) 0) (ignores s id) (eqb (count_refusal s num) 0) (in_lane_of s id)
      (eqb (constructor_at s (lane_of s id)).num_slices num) (eqb (fresh_refusal s num) 0)
      (refused 8) (refused (fresh_refusal s num)) (refused (count_refusal s num)) (refused (entry_refusal s id small lane))
      (lane_of s id) m l e in
      let d = entered s id small lane (eqb-true _ _ t.0) in
      let n = counted (eqb-true _ _ t.1) in
      let a =
      none-refused (
      (ltb s.settings.max_memory_usage_bytes (s.memory_usage_bytes + SLICE_SIZE * num), 7) ∷
      (leb s.settings.lanes m, 11) ∷ []
      )
      refl (eqb-true _ _ t.2) in
      let low : m < s.settings.lanes = leb-false _ _ a.1.0 in
      let hit : not (get_or s.lanes m false) ≡ true = hit-below not false s.lanes s.settings.lanes (omega (arith, v.settings.lanes-most, v.lanes-long)) low in
      let blank = (v.lane m (omega (arith, v.settings.lanes-most))).blank (not-true _ hit) in
      let free : get_or s.lane_lens l 0 ≡ 0 = rw (← t.3) blank.2 in
      let memory : s.memory_usage_bytes + SLICE_SIZE * num ≤ s.settings.max_memory_usage_bytes = ltb-false _ _ a.0 in (
        d,
        record {
          low = rw (← t.3) low;
          below = d.below;
          valid = cv.blank-valid id num d.below (omega (arith, n.1, v.settings.pieces-most));
          named = refl;
          one = n.0;
          most = n.1;
          room = omega arith;
        },
      )

-- where a piece goes is the lane for it, once its index and size are judged
module _ (s : ReceiveChannelReliable) (id num i n small lane : ℕ) where
  settle : SliceSpot → SliceSpot
  settle (opened l) = placed s (constructor_at s l) i n (opened l)
  settle (fresh l) = placed s (c.blank_of id num) i n (fresh l)
  settle (nothing o) = nothing o

  settle-tests : (a b d e f g : Bool) (w x y z : Outcome) (l m : ℕ)
      → settle (ladder a b d e f g (opened l) (fresh m) w x y z) ≡ ladder a b d e f g (settle (opened l)) (settle (fresh m)) w x y z
  unfolding settle
  settle-tests true false true true true g w x y z l m = refl
  settle-tests true false true true false g w x y z l m = refl
  settle-tests true false true false f true w x y z l m = refl
  settle-tests true false true false f false w x y z l m = refl
  settle-tests true false false e f g w x y z l m = refl
  settle-tests true true d e f g w x y z l m = refl
  settle-tests false b d e f g w x y z l m = refl

  settled : settle (lane_spot s id num small lane) ≡ slice_spot s id num i n small lane
  unfolding settle lane_spot open_lane fresh_lane slice_spot open_spot fresh_spot
  settled =
      settle-tests (eqb (entry_refusal s id small lane) 0) (ignores s id) (eqb (count_refusal s num) 0) (in_lane_of s id)
      (eqb (constructor_at s (lane_of s id)).num_slices num) (eqb (fresh_refusal s num) 0)
      (refused 8) (refused (fresh_refusal s num)) (refused (count_refusal s num)) (refused (entry_refusal s id small lane))
      (lane_of s id) (lowest_free_of s.lanes s.settings.lanes)

  module _ (l : ℕ) where
    pub spot-opened : lane_spot s id num small lane ≡ opened l → slice_spot s id num i n small lane ≡ placed s (constructor_at s l) i n (opened l)
    unfolding settle
    spot-opened e = sym settled ∙ ap settle e

    pub spot-fresh : lane_spot s id num small lane ≡ fresh l → slice_spot s id num i n small lane ≡ placed s (c.blank_of id num) i n (fresh l)
    unfolding settle
    spot-fresh e = sym settled ∙ ap settle e

  pub spot-nothing : (o : Outcome) → lane_spot s id num small lane ≡ nothing o → slice_spot s id num i n small lane ≡ nothing o
  unfolding settle
  spot-nothing o e = sym settled ∙ ap settle e

-- Demand 3: if all pieces sent in the u rounds arrive and none is refused, the receiver has handed the message out, or the next take after those
-- before it hands it out. Assumes nothing.
use Prim.Native.Nat.{ℕ, ◌≤◌, ◌<◌}
use mathlib.Core.Path.{◌≡◌, refl, sym, ap, ◌∙◌, subst}
use mathlib.Core.Bool.{Bool, true, false}
use mathlib.Core.List.{List, [], ◌∷◌, ◌++◌}
use mathlib.Core.Logic.{◌⊎◌, inl, inr}
use mathlib.Core.Option.{some}
use native.Mathlib.Omega.{arith}
use lib.Dec.{ltb}
use lib.ListN.{length, get_or, get_elem?}
use lib.Seq.{get_or-take}
use borrow.Author.Tests.{ltb-true, ltb-false}
use Rattle.words.specs.Sizes.{SLICE_SIZE, LANES}
use Rattle.words.specs.Choice.{pick}
use Rattle.words.specs.Pieces.{pieces_of}
use Rattle.words.specs.Lists.{All}
use Rattle.words.proofs.Tables.{by-test, clash}
use Rattle.channel.specs.Settings.{stores_hold_of}
use Rattle.slice_constructor.proofs.Whole.{each-whole}
use Rattle.receive_reliable.specs.Receive as r
use Rattle.receive_reliable.specs.Receive.{lane_of, in_cell_of, in_lane_of, is_held, constructor_at}
use Rattle.receive_reliable.specs.declared.ReceiveChannelReliable.{ReceiveChannelReliable}
use Rattle.channel.specs.declared.Store.{Store}
use Rattle.receive_reliable.proofs.Spots.{lane_here}
use Rattle.send_reliable.specs.declared.Kind.{Kind}
use Rattle.send_reliable.specs.declared.Kind.TheVariants.{Small, Sliced}
use Rattle.send_reliable.specs.declared.Row.{Row}
use Rattle.send_reliable.specs.Sender.{kind_of}
use Rattle.delivery.specs.World.{Bytes, Part, whole, piece, World, Setup, Accepted, new, Event, queues, rounds, arrives, looks, takes, hears, given_now, goes, spot_now, queueing, sending, part_now, out_at, taking, hearing, step, run}
use Rattle.delivery.specs.Window.{In, here, there, acked_at, unacknowledged, sent_in, acked_in}
use Rattle.delivery.specs.Statements.{after, Oldest, Enough, Arrived, Delivered, Arrival}
use Rattle.delivery.proofs.Lists.{in_map, same_some, at_more, at_low, at-get_or, never}
use Rattle.delivery.proofs.Head.{in-open}
use Rattle.delivery.proofs.Starve.{not-starved}
use Rattle.delivery.proofs.Receiver.{Queued, Has, Takes, nothing-waits, hands, takes-so}
use Rattle.delivery.proofs.Stored.{KindFits, RowHas}
use Rattle.delivery.proofs.Good.{Good, queued-more, new-good, run-good, arrive-queued, look-now}
use Rattle.delivery.proofs.Taken.{HeldId, ArrivedAt}
use Rattle.delivery.proofs.Acked.{AckedKind, AckedRow}
use Rattle.delivery.proofs.Logged.{Logged, new-logged, run-logged, run_on, run-took, acked-took}

-- ---- what was queued stays

step-queued : (ev : Event) (w : World) (id : ℕ) {msg : Bytes} → Queued w.queued id msg → Queued (step ev w).queued id msg
unfolding step queueing sending taking hearing
step-queued (queues msg) w id h = let m = queued-more (spot_now msg w.sender) msg w.queued in rw m.1 (at_more w.queued m.0 id h)
step-queued (rounds seq now allowance out table) w id {msg} h =
    by-test (goes w.sender.state (given_now seq now allowance w.sender) out table) (λ t. rw t h) (λ t. rw t h)
step-queued (arrives k ms rs) w id h = rw (arrive-queued (get_elem? w.wire k) ms rs w) h
step-queued looks w id h = h
step-queued takes w id h = h
step-queued (hears k) w id h = h

run-queued : (evs : List Event) (w : World) (id : ℕ) {msg : Bytes} → Queued w.queued id msg → Queued (run evs w).queued id msg
unfolding run
run-queued [] w id h = h
run-queued (ev ∷ evs) w id h = run-queued evs (step ev w) id (step-queued ev w id h)

-- ---- every piece arrived: the message is old or held whole

module _ (q : List Bytes) (s : ReceiveChannelReliable) (small lanes : Bytes) (h : Has q s small lanes) (id : ℕ) (msg : Bytes) (queued : Queued q id msg) where
  part-open : is_held s id ≡ false → in_lane_of s id ≡ true → get_or s.whole (lane_of s id) false ≡ false
  part-open e f = at (in_cell_of s id) (rw f at e)
    where
      at : (b : Bool) → pick b true (get_or s.whole (lane_of s id) false) ≡ false → get_or s.whole (lane_of s id) false ≡ false
      at true z = never _ refl z
      at false z = z

  none_open : is_held s id ≡ false → in_lane_of s id ≡ true → ((j : ℕ) → j < pieces_of (length msg) → get_or (constructor_at s (lane_of s id)).received j false ≡ true) → ⊥
  none_open e f all =
      let found = lane_here s id h.valid f in
      let low = ltb-true (lane_of s id) LANES f in
      let x = h.lane (lane_of s id) low found.held in
      let part = part-open e f in
      let g = h.valid.lane (lane_of s id) low in
      let same : x.msg ≡ msg = same_some (get_elem? q id) (ap (get_elem? q) (sym found.named) ∙ x.queued) queued in
      let num : (constructor_at s (lane_of s id)).num_slices ≡ pieces_of (length msg) = (x.part part).0 ∙ ap (λ (m : Bytes). pieces_of (length m)) same in
      let n = each-whole (constructor_at s (lane_of s id)) g.constructor (λ i l. all i (omega arith)) in
      omega (arith, n, (g.opened found.held part).2)

  all-arrived : 1 ≤ pieces_of (length msg) → ((j : ℕ) → j < pieces_of (length msg) → ArrivedAt s (piece id j)) → HeldId s id
  all-arrived some-piece all =
      by-test (ltb id s.oldest_pending_message_id) (λ t. inl (ltb-true _ _ t))
      (λ t. by-test (is_held s id) (λ u. inr u) (λ u.
      absurd (none_open u (lane t u (all 0 (omega arith))) (λ j l. here-is t u j (all j l)))))
    where
      neither : ltb id s.oldest_pending_message_id ≡ false → is_held s id ≡ false → HeldId s id → ⊥
      neither t u (inl k) = omega (arith, ltb-false id s.oldest_pending_message_id t)
      neither t u (inr k) = never _ k u

      lane : ltb id s.oldest_pending_message_id ≡ false → is_held s id ≡ false → ArrivedAt s (piece id 0) → in_lane_of s id ≡ true
      lane t u (inl k) = absurd (neither t u k)
      lane t u (inr k) = k.0

      here-is : ltb id s.oldest_pending_message_id ≡ false → is_held s id ≡ false → (j : ℕ) → ArrivedAt s (piece id j) → get_or (constructor_at s (lane_of s id)).received j false ≡ true
      here-is t u j (inl k) = absurd (neither t u k)
      here-is t u j (inr k) = k.1

-- ---- a held message comes out once those before it are taken

waits-tests : (b : Bool) (id p m q n : ℕ) (x y : Store) → pick b (r.message id x p m) (r.message id y q n) ≡ r.none-waiting → ⊥
waits-tests true id p m q n x y e = clash (cc)
waits-tests false id p m q n x y e = clash (cc)

waits : (s : ReceiveChannelReliable) → is_held s s.oldest_pending_message_id ≡ true → r.waiting s ≡ r.none-waiting → ⊥
unfolding r.waiting
waits s e z = waits-tests (in_cell_of s s.oldest_pending_message_id) _ _ _ _ _ _ _ (rw e at z)

module _ (w : World) (g : Good w) where
  -- what a take hands out, where something waits
  next-out : {s' : ReceiveChannelReliable} {x : r.Waiting} → Takes w.queued w.receiver.state w.receiver.small w.receiver.lanes g.received s' x
      → (x ≡ r.none-waiting → ⊥) → (part : Bytes)
      → (stores_hold_of w.receiver.state.settings (length w.receiver.small) (length w.receiver.lanes) ≡ true → part ≡ r.part_at x w.receiver.small w.receiver.lanes)
      → Queued w.queued w.receiver.state.oldest_pending_message_id part × (out_at x part w.out ≡ w.out ++ (part ∷ []))
  next-out nothing-waits n part look = absurd (n refl)
  next-out (hands store place len e room queued next has) n part look = (queued ∙ ap some (sym (look room)), ap (λ (y : r.Waiting). out_at y part w.out) e)

  comes-out : (id : ℕ) (msg : Bytes) → Queued w.queued id msg → is_held w.receiver.state id ≡ true → length w.out ≡ id → (step takes w).out ≡ w.out ++ (msg ∷ [])
  unfolding step taking
  comes-out id msg queued held e =
      let o : w.receiver.state.oldest_pending_message_id ≡ id = g.oldest ∙ e in
      let n = next-out (takes-so w.queued w.receiver.state w.receiver.small w.receiver.lanes g.received)
      (waits w.receiver.state (ap (is_held w.receiver.state) o ∙ held)) (part_now w.receiver) (look-now w.receiver) in
      let same : part_now w.receiver ≡ msg = same_some (get_elem? w.queued id) (ap (get_elem? w.queued) (sym o) ∙ n.0) queued in
      n.1 ∙ ap (λ (m : Bytes). w.out ++ (m ∷ [])) same

-- a message that is old or held is delivered
delivered : (w : World) → Good w → (id : ℕ) (msg : Bytes) → Queued w.queued id msg → HeldId w.receiver.state id → Delivered id w
delivered w g id msg queued h = record { queued = at_low w.queued id queued; comes = at h }
  where
    is-msg : get_or w.queued id [] ≡ msg
    is-msg = at-get_or w.queued id [] queued

    at : HeldId w.receiver.state id
        → ((id < length w.out) × (get_or w.out id [] ≡ get_or w.queued id []))
        ⊎ ((evs : List Event) → length (run evs w).out ≡ id → (step takes (run evs w)).out ≡ (run evs w).out ++ (get_or w.queued id [] ∷ []))
    at (inl l) =
        let low : id < length w.out = omega (arith, g.oldest) in
        inl (low, ap (λ (o : List Bytes). get_or o id []) g.prefix ∙ get_or-take (length w.out) w.queued id [] low)
    at (inr held) =
        inr (λ evs e.
        let w' = run evs w in
        let g' = run-good evs w g in
        let k = still evs g' e (run_on evs w g (whole id) (inr held)) in
        comes-out w' g' id msg (run-queued evs w id queued) k e ∙ ap (λ (m : Bytes). w'.out ++ (m ∷ [])) (sym is-msg))
      where
        still : (evs : List Event) → Good (run evs w) → length (run evs w).out ≡ id → HeldId (run evs w).receiver.state id → is_held (run evs w).receiver.state id ≡ true
        still evs g' e (inl l) = absurd (omega (arith, g'.oldest))
        still evs g' e (inr k) = k

-- ---- all together

all_in : {A : Type 0} (P : A → Type 0) (xs : List A) {x : A} → All P xs → In x xs → P x
unfolding All
all_in {A = A} P [] a x4 = elim x4 [ ]
all_in P (y ∷ xs) a (here e) = subst P (sym e) a.0
all_in P (y ∷ xs) a (there h) = all_in P xs a.1 h

module _ (u : Setup) (a : Accepted u) (past window later : List Event) (r : Row) (o : Oldest (after u past) r) (enough : Enough (after u past) r window)
    (arrived : Arrived (sent_in window (after u past)) (run later (run window (after u past)))) where
  abbrev w : World
  w = after u past

  abbrev w₁ : World
  w₁ = run window w

  abbrev w₂ : World
  w₂ = run later w₁

  good : Good w
  good = run-good past (new u) (new-good u a)

  good₁ : Good w₁
  good₁ = run-good window w good

  good₂ : Good w₂
  good₂ = run-good later w₁ good₁

  logged : Logged w
  logged = run-logged past (new u) (new-good u a) (new-logged u)

  logged₂ : Logged w₂
  logged₂ = run-logged later w₁ good₁ (run-logged window w good logged)

  row_has : RowHas w.queued w.sender.state.settings w.sender.small w.sender.lanes r
  unfolding All
  row_has = (subst (All (RowHas w.queued w.sender.state.settings w.sender.small w.sender.lanes)) o.1 good.stored.rows).0

  row-acked : AckedRow w.receiver.took w.sender.state r
  unfolding All
  row-acked = (subst (All (AckedRow w.receiver.took w.sender.state)) o.1 logged.acked.rows).0

  queued₂ : Queued w₂.queued r.id.0 row_has.msg
  queued₂ = run-queued later w₁ r.id.0 (run-queued window w r.id.0 row_has.queued)

  in-logs : (p : Part) → In p w₂.receiver.took ⊎ In p w₂.receiver.ignored → ArrivedAt w₂.receiver.state p
  in-logs p (inl h) = all_in (ArrivedAt w₂.receiver.state) w₂.receiver.took logged₂.logs.took h
  in-logs p (inr h) = all_in (ArrivedAt w₂.receiver.state) w₂.receiver.ignored logged₂.logs.ignored h

  -- a piece that was not acknowledged is sent and arrives, or is acknowledged and was taken
  served : (p : Part) → In p (unacknowledged w.sender.state r) → ArrivedAt w₂.receiver.state p
  served p i = at (not-starved u a past window r o enough p i)
    where
      at : In p (sent_in window w) ⊎ In p (acked_in window w) → ArrivedAt w₂.receiver.state p
      at (inl h) = in-logs p (arrived p h)
      at (inr h) = in-logs p (inl (run-took later w₁ p (acked-took window w p h)))

  held : (kd : Kind) → kind_of r ≡ kd → HeldId w₂.receiver.state r.id.0
  held (Small i t) e = served (whole r.id.0) (rw e (here refl))
  held (Sliced l b next) e =
      let long : SLICE_SIZE < r.len = (subst (KindFits w.sender.state.settings r.len) e row_has.fits).1 in
      let f = subst (AckedKind w.receiver.took w.sender.state r.id.0 r.len) e row-acked in
      all-arrived w₂.queued w₂.receiver.state w₂.receiver.small w₂.receiver.lanes good₂.received r.id.0 row_has.msg queued₂
      (omega (arith, row_has.len_is))
      (λ j low.
      let lowj : j < pieces_of r.len = omega (arith, row_has.len_is) in
      by-test (acked_at w.sender.state l j)
      (λ t. in-logs (piece r.id.0 j) (inl (run-took later w₁ (piece r.id.0 j) (run-took window w (piece r.id.0 j) (f j lowj t)))))
      (λ t. served (piece r.id.0 j) (rw e (in_map (piece r.id.0) (in-open (acked_at w.sender.state l) 0 (pieces_of r.len) j (omega arith) (omega arith) t)))))

  comes : Delivered r.id.0 w₂
  comes = delivered w₂ good₂ r.id.0 row_has.msg queued₂ (held (kind_of r) refl)

pub arrival : Arrival
arrival u a past window later r o enough arrived = comes u a past window later r o enough arrived

-- The oldest unacknowledged message is not starved. Assumes nothing.
use Prim.Native.Nat.{ℕ, ◌≤◌}
use mathlib.Core.Path.{◌≡◌, refl, sym, ap, ◌∙◌, subst}
use mathlib.Core.Bool.{Bool, true, false}
use mathlib.Core.List.{List, [], ◌∷◌, ◌++◌, append_assoc}
use mathlib.Core.Logic.{◌⊎◌, inl, inr}
use mathlib.Core.Option.{Option, none, some}
use native.Mathlib.Omega.{arith}
use lib.ListN.{length, get_elem?, length-append, length-map}
use borrow.Author.Tests.{eqb-true}
use Rattle.words.specs.Sizes.{SLICE_SIZE}
use Rattle.words.specs.Pieces.{pieces_of}
use Rattle.words.proofs.Tables.{by-test}
use Rattle.send_reliable.specs.declared.Kind.{Kind}
use Rattle.send_reliable.specs.declared.Kind.TheVariants.{Small, Sliced}
use Rattle.send_reliable.specs.declared.Row.{Row}
use Rattle.send_reliable.specs.declared.SendChannelReliable.{SendChannelReliable}
use Rattle.send_reliable.specs.Sender.{kind_of, live, PlacedKind}
use Rattle.send_reliable.specs.Round.{Given, packs, state_after}
use Rattle.delivery.specs.World.{Bytes, Part, whole, piece, World, new, Event, queues, rounds, arrives, looks, takes, hears, given_now, goes, written, queueing, sending, arriving, taking, hearing, ack_of, step}
use Rattle.delivery.specs.Window.{In, here, there, open_from, acked_at, open_of, sent_by, sent_now, sent_in, acked_now, acked_in, round_now, rounds_in, Spaced, SteadyNow, Steady}
use Rattle.delivery.specs.Statements.{after, NoStarvation}
use Rattle.std.proofs.lemmas.List.{append-nil}
use Rattle.delivery.proofs.Lists.{in_left, in_right, in-cases, in-length, from-map, parted, rem, rem-append, length-rem, in-rem}
use Rattle.delivery.proofs.Rotate.{queue-all, Rotates}
use Rattle.delivery.proofs.Turn.{all_parts, queue_kind, queue_of, part_kind_of, part_at, head-placed, Turns, turns}
use Rattle.delivery.proofs.Head.{Stays, Loses, queue-stays, small-heard, piece-heard}
use Rattle.delivery.proofs.Good.{Good, round-parts, new-good, step-good, run-good}

-- ---- the first of the waiting, and the pieces `todo` of its queue that are still to be served, y among them

record Tracked (p : Part) (evs : List Event) (w : World) : Type 0 where
  row : Row
  others : List Row
  rows : live w.sender.state ≡ row ∷ others
  y : ℕ
  named : p ≡ part_at row y
  todo : List ℕ
  done : List ℕ
  queue : queue_of w.sender.state row ≡ todo ++ done
  enough : length todo ≤ rounds_in evs w
  waits : In y todo

abbrev Now : Part → Event → World → Type 0
Now p ev w = In p (sent_now ev w) ⊎ In p (acked_now ev w)

abbrev Next : Part → Event → List Event → World → Type 0
Next p ev evs w = Now p ev w ⊎ Tracked p evs (step ev w)

-- the first row stays, and no round is counted
tracked-on : {p : Part} (ev : Event) (evs : List Event) (w : World) (t : Tracked p (ev ∷ evs) w) → Stays w.sender.state (step ev w).sender.state t.row → round_now ev w ≡ 0
    → Tracked p evs (step ev w)
unfolding rounds_in
tracked-on ev evs w t h z =
    record {
      row = t.row;
      others = h.rest;
      rows = h.head;
      y = t.y;
      named = t.named;
      todo = t.todo;
      done = t.done;
      queue = h.queue ∙ t.queue;
      enough = omega (arith, t.enough, z);
      waits = t.waits;
    }

same-sender : (p : Part) (ev : Event) (evs : List Event) (w : World) (t : Tracked p (ev ∷ evs) w) → (step ev w).sender.state ≡ w.sender.state → round_now ev w ≡ 0 → Tracked p evs (step ev w)
same-sender p ev evs w t e z =
    tracked-on ev evs w t (record { rest = t.others; head = ap live e ∙ t.rows; queue = ap (λ (s : SendChannelReliable). queue_of s t.row) e }) z

-- ---- a round

module _ (p : Part) (seq now allowance : ℕ) (out : Bytes) (table : List ℕ) (evs : List Event) (w : World) (good : Good w) where
  abbrev ev : Event
  ev = rounds seq now allowance out table

  abbrev g : Given
  g = given_now seq now allowance w.sender

  abbrev accepted : Bool
  accepted = goes w.sender.state g out table

  module _ (t : Tracked p (ev ∷ evs) w) where
    went : accepted ≡ true → (step ev w).sender.state ≡ state_after w.sender.state g
    unfolding step sending
    went e = rw e

    stayed : accepted ≡ false → (step ev w).sender.state ≡ w.sender.state
    unfolding step sending
    stayed e = rw e

    -- the packets on the wire say what was packed
    all-sent : accepted ≡ true → sent_by (written w.sender.state g out table) ≡ all_parts (packs w.sender.state g)
    all-sent e = round-parts w.queued w.sender.state g good.sender.valid good.stored out table (eqb-true _ _ e)

    round-goes : accepted ≡ true → SLICE_SIZE ≤ allowance → Spaced w.sender.state.resend_time w.last now → Next p ev evs w
    unfolding rounds_in
    round-goes e big sp = at (parted t.todo t.done law.sends rot.back (sym t.queue ∙ rot.before))
      where
        law : Turns w.sender.state (state_after w.sender.state g) t.row (all_parts (packs w.sender.state g))
        law = turns w.sender.state good.sender.valid t.row t.others t.rows g w.last good.sender.clocked sp big

        rot : Rotates (queue_of w.sender.state t.row) (queue_of (state_after w.sender.state g) law.row) law.sends
        rot = law.rotates

        served : In t.y law.sends → Now p ev w
        served h = inl (rw e (rw (all-sent e) (rw t.named (law.sent t.y h))))

        one : round_now ev w ≡ 1
        one = rw e

        fewer : (u : List ℕ) → t.todo ≡ law.sends ++ u → In t.y u → (1 ≤ length law.sends) ⊎ (queue_of w.sender.state t.row ≡ []) → length u ≤ rounds_in evs (step ev w)
        fewer u q h (inl l) = omega (arith, t.enough, one, ap length q ∙ length-append law.sends u, l)
        fewer u q h (inr l) =
            absurd (omega (arith, ap length q ∙ length-append law.sends u, sym (length-append t.todo t.done) ∙ ap length (sym t.queue ∙ l), in-length h))

        at : ((x : List ℕ) × (law.sends ≡ t.todo ++ x)) ⊎ ((u : List ℕ) × (t.todo ≡ law.sends ++ u) × (rot.back ≡ u ++ t.done)) → Next p ev evs w
        at (inl (x, q)) = inl (served (rw q (in_left x t.waits)))
        at (inr (u, q, b)) = next (in-cases law.sends u (subst (In t.y) q t.waits))
          where
            next : In t.y law.sends ⊎ In t.y u → Next p ev evs w
            next (inl h) = inl (served h)
            next (inr h) =
                inr (record {
                  row = law.row;
                  others = law.rest;
                  rows = ap live (went e) ∙ law.head;
                  y = t.y;
                  named = t.named ∙ sym (law.named t.y);
                  todo = u;
                  done = t.done ++ law.sends;
                  queue = ap (λ (s : SendChannelReliable). queue_of s law.row) (went e) ∙ rot.after ∙ rw b (append_assoc u t.done law.sends);
                  enough = fewer u q h rot.moves;
                  waits = h;
                })

    round-step : SteadyNow ev w → Next p ev evs w
    round-step st =
        by-test accepted
        (λ e. round-goes e (omega (arith, (st e).0)) (st e).1)
        (λ e. inr (same-sender p ev evs w t (stayed e) (rw e)))

-- ---- an ack

module _ (p : Part) (k : ℕ) (evs : List Event) (w : World) (good : Good w) (t : Tracked p (hears k ∷ evs) w) where
  abbrev s : SendChannelReliable
  s = w.sender.state

  heard-is : (o : Option Part) → get_elem? w.receiver.took k ≡ o → (step (hears k) w).sender.state ≡ ack_of o s
  unfolding step hearing
  heard-is o e = ap (λ (x : Option Part). ack_of x s) e

  -- what is heard of, and what it does
  heard : (q : Part) → get_elem? w.receiver.took k ≡ some q
      → (q ≡ part_at t.row t.y) ⊎ (Stays s (ack_of (some q) s) t.row ⊎ Loses s (ack_of (some q) s) t.row q) → Next p (hears k) evs w
  unfolding rounds_in
  heard q e (inl z) = inl (inr (rw e (here (t.named ∙ sym z))))
  heard q e (inr (inl z)) = inr (tracked-on (hears k) evs w t (subst (λ (x : SendChannelReliable). Stays s x t.row) (sym (heard-is (some q) e)) z) refl)
  heard q e (inr (inr z)) = at (in-rem z.lost t.waits)
    where
      queue-now : queue_of (step (hears k) w).sender.state z.row ≡ rem z.lost t.todo ++ rem z.lost t.done
      queue-now =
          ap (λ (x : SendChannelReliable). queue_of x z.row) (heard-is (some q) e) ∙ z.queue ∙ ap (rem z.lost) t.queue ∙ rem-append z.lost t.todo t.done

      at : (t.y ≡ z.lost) ⊎ In t.y (rem z.lost t.todo) → Next p (hears k) evs w
      at (inl f) = inl (inr (rw e (here (t.named ∙ ap (part_at t.row) f ∙ sym z.is-it))))
      at (inr h) =
          inr (record {
            row = z.row;
            others = z.rest;
            rows = ap live (heard-is (some q) e) ∙ z.head;
            y = t.y;
            named = t.named ∙ sym (z.named t.y);
            todo = rem z.lost t.todo;
            done = rem z.lost t.done;
            queue = queue-now;
            enough = omega (arith, t.enough, length-rem z.lost t.todo);
            waits = h;
          })

  in-queue : In t.y (queue_of s t.row)
  in-queue = rw t.queue (in_left t.done t.waits)

  ack-step : Next p (hears k) evs w
  ack-step = at (get_elem? w.receiver.took k) refl
    where
      at : (o : Option Part) → get_elem? w.receiver.took k ≡ o → Next p (hears k) evs w
      at none e = inr (same-sender p (hears k) evs w t (heard-is none e) refl)
      at (some (whole x)) e = heard (whole x) e (small-heard s good.sender.valid t.row t.others t.rows x t.y)
      at (some (piece x i)) e = heard (piece x i) e (piece-heard s good.sender.valid t.row t.others t.rows x i t.y in-queue)

-- ---- all together

track-step : (p : Part) (ev : Event) (evs : List Event) (w : World) → Good w → SteadyNow ev w → Tracked p (ev ∷ evs) w → Next p ev evs w
unfolding step queueing arriving taking
track-step p (queues msg) evs w good st t =
    inr (tracked-on (queues msg) evs w t (queue-stays w.sender.state good.sender.valid t.row t.others t.rows (length msg) _ _) refl)
track-step p (rounds seq now allowance out table) evs w good st t = round-step p seq now allowance out table evs w good t st
track-step p (arrives k ms rs) evs w good st t = inr (same-sender p (arrives k ms rs) evs w t (at (get_elem? w.wire k)) refl)
  where
    at : (o : Option Bytes) → (arriving o ms rs w).sender.state ≡ w.sender.state
    at none = refl
    at (some bs) = refl
track-step p looks evs w good st t = inr (same-sender p looks evs w t refl refl)
track-step p takes evs w good st t = inr (same-sender p takes evs w t refl refl)
track-step p (hears k) evs w good st t = ack-step p k evs w good t

abbrev Served : Part → List Event → World → Type 0
Served p evs w = In p (sent_in evs w) ⊎ In p (acked_in evs w)

track : (p : Part) (evs : List Event) (w : World) → Good w → Steady evs w → Tracked p evs w → Served p evs w
unfolding Steady rounds_in sent_in acked_in
track p [] w good st t = absurd (omega (arith, t.enough, in-length t.waits))
track p (ev ∷ evs) w good st t =
    at (track-step p ev evs w good st.0 t) (λ t'. track p evs (step ev w) (step-good ev w good) st.1 t')
  where
    later-on : Served p evs (step ev w) → Served p (ev ∷ evs) w
    later-on (inl h) = inl (in_right (sent_now ev w) h)
    later-on (inr h) = inr (in_right (acked_now ev w) h)

    at : Next p ev evs w → (Tracked p evs (step ev w) → Served p evs (step ev w)) → Served p (ev ∷ evs) w
    at (inl (inl h)) k = inl (in_left (sent_in evs (step ev w)) h)
    at (inl (inr h)) k = inr (in_left (acked_in evs (step ev w)) h)
    at (inr t') k = later-on (k t')

-- a piece that is not acknowledged waits in the queue
record Waits (s : SendChannelReliable) (n id : ℕ) (kd : Kind) (p : Part) (u : ℕ) : Type 0 where
  y : ℕ
  named : p ≡ part_kind_of id kd y
  waiting : In y (queue_kind s n kd)
  size : length (queue_kind s n kd) ≡ u

waits-kind : (s : SendChannelReliable) (r : Row) (kd : Kind) → PlacedKind s r.len kd → (p : Part) → In p (open_of s r kd) → Waits s r.len r.id.0 kd p (length (open_of s r kd))
waits-kind s r (Small i t) pl p (here e) = record { y = 0; named = e; waiting = here refl; size = refl }
waits-kind s r (Small i t) pl p (there h) = absurd (omega (arith, in-length h))
waits-kind s r (Sliced l a next) pl p h =
    let f = from-map (piece r.id.0) (open_from (acked_at s l) 0 (pieces_of r.len)) h in
    let q = queue-all (acked_at s l) next (pieces_of r.len) pl.6 in
    record { y = f.0; named = f.1; waiting = q.1 f.0 f.2; size = q.0 ∙ sym (length-map (open_from (acked_at s l) 0 (pieces_of r.len)) (piece r.id.0)) }

-- THE u ROUNDS
pub not-starved : NoStarvation
not-starved u a past window r o e p i =
    let w = after u past in
    let good = run-good past (new u) (new-good u a) in
    let q = waits-kind w.sender.state r (kind_of r) (head-placed w.sender.state good.sender.valid r o.0 o.1) p i in
    track p window w good e.steady
    (record {
      row = r;
      others = o.0;
      rows = o.1;
      y = q.y;
      named = q.named;
      todo = queue_of w.sender.state r;
      done = [];
      queue = sym (append-nil (queue_of w.sender.state r));
      enough = omega (arith, q.size, e.rounds);
      waits = q.waiting;
    })

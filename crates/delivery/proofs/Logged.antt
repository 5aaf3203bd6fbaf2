-- The logs of every world that a new pair can reach: what the receiver took or ignored stays with it until it is handed out, and what the sender
-- has marked as acknowledged was taken. Assumes nothing.
use Prim.Native.Nat.{ℕ, zero, suc}
use mathlib.Core.Path.{◌≡◌, refl, sym, subst}
use mathlib.Core.List.{List, [], ◌∷◌}
use mathlib.Core.Logic.{◌⊎◌, inl, inr}
use mathlib.Core.Option.{Option, none, some}
use native.Mathlib.Omega.{arith}
use lib.ListN.{length, get_elem?}
use Rattle.words.specs.Lists.{reached, All}
use Rattle.words.proofs.Lists.{all_map}
use Rattle.words.proofs.Tables.{pick-cases}
use Rattle.receive_reliable.specs.Receive as r
use Rattle.delivery.specs.World.{Bytes, Part, whole, piece, Handed, message, slice, Receiving, World, Setup, new, Event, queues, rounds, arrives, looks, takes, hears, given_now, goes, queueing, sending, handed, noting, fault_of, read_with, receives, took_now, arriving, taking, hearing, step, run}
use Rattle.delivery.specs.Window.{In, here, there, optional, acked_now, acked_in}
use Rattle.delivery.proofs.Lists.{in_left, in-cases}
use Rattle.delivery.proofs.Receiver.{Sound, Has, receives-has}
use Rattle.delivery.proofs.Good.{WireHas, Good, wire-sound, wire-at, step-good}
use Rattle.delivery.proofs.Taken.{ArrivedAt, LogHas, take_on, receives-on, receives-logs}
use Rattle.delivery.proofs.Acked.{AckedIn, acked-new, acked-more, queue-acked, ack-acked, round-acked}

pub record Logged (w : World) : Type 0 where
  pub logs : LogHas w.receiver
  pub acked : AckedIn w.receiver.took w.sender.state

-- ---- all that a packet hands over

all-logs : (q : List Bytes) (xs : List Handed) (e : Receiving) → All (Sound q) xs → Has q e.state e.small e.lanes → LogHas e → LogHas (reached receives e xs)
unfolding reached All
all-logs q [] e a h l = l
all-logs q (x ∷ xs) e a h l = all-logs q xs (receives e x) a.1 (receives-has q e x a.0 h) (receives-logs e h.valid l x)

all-on : (q : List Bytes) (xs : List Handed) (e : Receiving) → All (Sound q) xs → Has q e.state e.small e.lanes → (p : Part) → ArrivedAt e.state p
    → ArrivedAt (reached receives e xs).state p
unfolding reached All
all-on q [] e a h p k = k
all-on q (x ∷ xs) e a h p k = all-on q xs (receives e x) a.1 (receives-has q e x a.0 h) p (receives-on e h.valid x p k)

-- the log of what was taken grows
took_more : (o : r.Outcome) (p x : Part) (ps : List Part) → In p ps → In p (took_now o x ps)
took_more r.taken p x ps h = in_left (x ∷ []) h
took_more r.ignored p x ps h = h
took_more (r.refused e) p x ps h = h

pub receives-took : (e : Receiving) (x : Handed) (p : Part) → In p e.took → In p (receives e x).took
unfolding receives
receives-took e (message id bs) p h = took_more (r.message_answer_of (r.message_spot e.state id (length bs) (length e.small) (length e.lanes))) p (whole id) e.took h
receives-took e (slice id num i bs) p h = took_more (r.slice_answer_of (r.slice_spot e.state id num i (length bs) (length e.small) (length e.lanes))) p (piece id i) e.took h

pub all-took : (xs : List Handed) (e : Receiving) (p : Part) → In p e.took → In p (reached receives e xs).took
unfolding reached
all-took [] e p h = h
all-took (x ∷ xs) e p h = all-took xs (receives e x) p (receives-took e x p h)

at_in : {A : Type 0} (xs : List A) (k : ℕ) (x : A) → get_elem? xs k ≡ some x → In x xs
at_in [] k x e = absurd (let z : ◌≡◌ {A = ℕ} 0 1 = cc in omega arith)
at_in (y ∷ xs) zero x e = let q : x ≡ y = cc in here q
at_in (y ∷ xs) (suc k) x e = there (at_in xs k x e)

-- ---- in every world

pub new-logged : (u : Setup) → Logged (new u)
unfolding new All
new-logged u = record { logs = record { took = tt; ignored = tt }; acked = acked-new [] u.channel u.sending u.resend }

arrive-logged : (o : Option Bytes) (ms rs : List ℕ) (w : World) → Good w → Logged w → ((bs : Bytes) → o ≡ some bs → WireHas w.queued bs) → Logged (arriving o ms rs w)
unfolding arriving
arrive-logged none ms rs w g l h = l
arrive-logged (some bs) ms rs w g l h =
    let e = noting (fault_of (read_with bs ms rs)) w.receiver in
    record {
      logs = all-logs w.queued (handed bs ms rs) e (wire-sound w.queued bs (h bs refl) ms rs) g.received (record { took = l.logs.took; ignored = l.logs.ignored });
      acked = acked-more w.receiver.took _ w.sender.state (λ p i. all-took (handed bs ms rs) e p i) l.acked;
    }

pub step-logged : (ev : Event) (w : World) → Good w → Logged w → Logged (step ev w)
unfolding step queueing sending taking hearing
step-logged (queues msg) w g l = record { logs = l.logs; acked = queue-acked w.receiver.took w.sender.state g.sender.valid l.acked (length msg) _ _ }
step-logged (rounds seq now allowance out table) w g l =
    pick-cases Logged (goes w.sender.state (given_now seq now allowance w.sender) out table)
    (λ _. record { logs = l.logs; acked = round-acked w.receiver.took w.sender.state g.sender.valid l.acked (given_now seq now allowance w.sender) })
    (λ _. l)
step-logged (arrives k ms rs) w g l = arrive-logged (get_elem? w.wire k) ms rs w g l (λ bs e. wire-at w.queued w.wire k e g.wire)
step-logged looks w g l = l
step-logged takes w g l =
    record {
      logs = record {
        took = all_map _ _ (take_on w.receiver.state g.received.valid) w.receiver.took l.logs.took;
        ignored = all_map _ _ (take_on w.receiver.state g.received.valid) w.receiver.ignored l.logs.ignored;
      };
      acked = l.acked;
    }
step-logged (hears k) w g l =
    record {
      logs = l.logs;
      acked = ack-acked w.receiver.took w.sender.state g.sender.valid l.acked (get_elem? w.receiver.took k) (λ p e. at_in w.receiver.took k p e);
    }

-- what arrived stays
arrive-on : (o : Option Bytes) (ms rs : List ℕ) (w : World) → Good w → ((bs : Bytes) → o ≡ some bs → WireHas w.queued bs) → (p : Part) → ArrivedAt w.receiver.state p
    → ArrivedAt (arriving o ms rs w).receiver.state p
unfolding arriving
arrive-on none ms rs w g h p k = k
arrive-on (some bs) ms rs w g h p k = all-on w.queued (handed bs ms rs) (noting (fault_of (read_with bs ms rs)) w.receiver) (wire-sound w.queued bs (h bs refl) ms rs) g.received p k

step-on : (ev : Event) (w : World) → Good w → (p : Part) → ArrivedAt w.receiver.state p → ArrivedAt (step ev w).receiver.state p
unfolding step queueing sending taking hearing
step-on (queues msg) w g p k = k
step-on (rounds seq now allowance out table) w g p k =
    pick-cases (λ (x : World). ArrivedAt x.receiver.state p) (goes w.sender.state (given_now seq now allowance w.sender) out table) (λ _. k) (λ _. k)
step-on (arrives n ms rs) w g p k = arrive-on (get_elem? w.wire n) ms rs w g (λ bs e. wire-at w.queued w.wire n e g.wire) p k
step-on looks w g p k = k
step-on takes w g p k = take_on w.receiver.state g.received.valid p k
step-on (hears n) w g p k = k

arrive-took : (o : Option Bytes) (ms rs : List ℕ) (w : World) (p : Part) → In p w.receiver.took → In p (arriving o ms rs w).receiver.took
unfolding arriving
arrive-took none ms rs w p h = h
arrive-took (some bs) ms rs w p h = all-took (handed bs ms rs) (noting (fault_of (read_with bs ms rs)) w.receiver) p h

pub step-took : (ev : Event) (w : World) (p : Part) → In p w.receiver.took → In p (step ev w).receiver.took
unfolding step queueing sending taking hearing
step-took (queues msg) w p h = h
step-took (rounds seq now allowance out table) w p h =
    pick-cases (λ (x : World). In p x.receiver.took) (goes w.sender.state (given_now seq now allowance w.sender) out table) (λ _. h) (λ _. h)
step-took (arrives k ms rs) w p h = arrive-took (get_elem? w.wire k) ms rs w p h
step-took looks w p h = h
step-took takes w p h = h
step-took (hears k) w p h = h

pub run-took : (evs : List Event) (w : World) (p : Part) → In p w.receiver.took → In p (run evs w).receiver.took
unfolding run
run-took [] w p h = h
run-took (ev ∷ evs) w p h = run-took evs (step ev w) p (step-took ev w p h)

-- what the sender hears of was taken
now-took : (ev : Event) (w : World) (p : Part) → In p (acked_now ev w) → In p w.receiver.took
now-took (queues _) w p h = elim h [ ]
now-took (rounds _ _ _ _ _) w p h = elim h [ ]
now-took (arrives _ _ _) w p h = elim h [ ]
now-took looks w p h = elim h [ ]
now-took takes w p h = elim h [ ]
now-took (hears k) w p h = at (get_elem? w.receiver.took k) refl h
  where
    at : (o : Option Part) → get_elem? w.receiver.took k ≡ o → In p (optional o) → In p w.receiver.took
    at none e h = elim h [ ]
    at (some x) e (there h) = elim h [ ]
    at (some x) e (here q) = subst (λ (y : Part). In y w.receiver.took) (sym q) (at_in w.receiver.took k x e)

pub acked-took : (evs : List Event) (w : World) (p : Part) → In p (acked_in evs w) → In p (run evs w).receiver.took
unfolding run acked_in
acked-took [] w p h = elim h [ ]
acked-took (ev ∷ evs) w p h = at (in-cases (acked_now ev w) (acked_in evs (step ev w)) h) (λ k. acked-took evs (step ev w) p k)
  where
    at : In p (acked_now ev w) ⊎ In p (acked_in evs (step ev w)) → (In p (acked_in evs (step ev w)) → In p (run evs (step ev w)).receiver.took) → In p (run evs (step ev w)).receiver.took
    at (inl k) f = run-took evs (step ev w) p (step-took ev w p (now-took ev w p k))
    at (inr k) f = f k

pub run-logged : (evs : List Event) (w : World) → Good w → Logged w → Logged (run evs w)
unfolding run
run-logged [] w g l = l
run-logged (ev ∷ evs) w g l = run-logged evs (step ev w) (step-good ev w g) (step-logged ev w g l)

pub run_on : (evs : List Event) (w : World) → Good w → (p : Part) → ArrivedAt w.receiver.state p → ArrivedAt (run evs w).receiver.state p
unfolding run
run_on [] w g p k = k
run_on (ev ∷ evs) w g p k = run_on evs (step ev w) (step-good ev w g) p (step-on ev w g p k)

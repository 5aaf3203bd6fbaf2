-- All together: what the rounds of a window sent is in packets of the wire; where they arrive and there is room, it lands; and so the message is
-- delivered. Assumes nothing.
use Prim.Native.Nat.{ℕ, zero, suc, ◌+◌, ◌≤◌}
use mathlib.Core.Path.{◌≡◌, refl, sym, ap, ◌∙◌, subst}
use mathlib.Core.List.{List, [], ◌∷◌, ◌++◌}
use mathlib.Core.Logic.{◌⊎◌, inl, inr}
use mathlib.Core.Option.{Option, none, some}
use native.Mathlib.Omega.{arith}
use lib.ListN.{length, get_elem?, length-append}
use Rattle.words.proofs.Tables.{pick-cases, by-test}
use Rattle.packet.specs.Packet as reader
use Rattle.delivery.specs.World.{Bytes, Part, World, Setup, new, Event, queues, rounds, arrives, looks, takes, hears, given_now, goes, written, queueing, sending, handed, noting, fault_of, read_with, arriving, taking, hearing, step, run}
use Rattle.delivery.specs.Window.{In, here, there, parts_said, sent_by, sent_now, sent_in}
use Rattle.delivery.specs.Statements.{after, Arrived, Fits, Tabled, Delivery}
use Rattle.delivery.proofs.Lists.{in-cases, in-length, at_more, at_low}
use Rattle.delivery.proofs.Good.{Good, new-good, step-good, run-good}
use Rattle.delivery.proofs.Landing.{Landed, landed-on, land-good}
use Rattle.delivery.proofs.Arrival.{arrival}
use Rattle.delivery.proofs.Premise.{SetUp, new-set, step_set, none_more, run_more, step-unrefused}

-- ---- the wire only grows

arrive-wire : (o : Option Bytes) (ms rs : List ℕ) (w : World) → (arriving o ms rs w).wire ≡ w.wire
unfolding arriving
arrive-wire none ms rs w = refl
arrive-wire (some bs) ms rs w = refl

abbrev WireMore : World → World → Type 0
WireMore w w' = (more : List Bytes) × (w'.wire ≡ w.wire ++ more)

step-wire : (ev : Event) (w : World) → WireMore w (step ev w)
unfolding step queueing sending taking hearing
step-wire (queues msg) w = none_more w.wire
step-wire (rounds seq now allowance out table) w =
    pick-cases (WireMore w) (goes w.sender.state (given_now seq now allowance w.sender) out table)
    (λ _. (written w.sender.state (given_now seq now allowance w.sender) out table, refl)) (λ _. none_more w.wire)
step-wire (arrives k ms rs) w = let m = none_more w.wire in (m.0, arrive-wire (get_elem? w.wire k) ms rs w ∙ m.1)
step-wire looks w = none_more w.wire
step-wire takes w = none_more w.wire
step-wire (hears k) w = none_more w.wire

step-at : (ev : Event) (w : World) (k : ℕ) {bs : Bytes} → get_elem? w.wire k ≡ some bs → get_elem? (step ev w).wire k ≡ some bs
step-at ev w k e = let m = step-wire ev w in ap (λ (l : List Bytes). get_elem? l k) m.1 ∙ at_more w.wire m.0 k e

run_at : (evs : List Event) (w : World) (k : ℕ) {bs : Bytes} → get_elem? w.wire k ≡ some bs → get_elem? (run evs w).wire k ≡ some bs
unfolding run
run_at [] w k e = e
run_at (ev ∷ evs) w k e = run_at evs (step ev w) k (step-at ev w k e)

-- ---- what was sent is in a packet

at_right : {A : Type 0} (xs ys : List A) (j k : ℕ) → k ≡ length xs + j → get_elem? (xs ++ ys) k ≡ get_elem? ys j
at_right [] ys j k e = let z : k ≡ j = omega arith in ap (get_elem? ys) z
at_right (x ∷ xs) ys j zero e = absurd (omega arith)
at_right (x ∷ xs) ys j (suc k) e = at_right xs ys j k (omega arith)

record Said (p : Part) (ps : List Bytes) : Type 0 where
  place : ℕ
  packet : Bytes
  there : get_elem? ps place ≡ some packet
  says : In p (parts_said (reader.packet packet 0))

said-by : (ps : List Bytes) (p : Part) → In p (sent_by ps) → Said p ps
unfolding sent_by
said-by [] p h = elim h [ ]
said-by (b ∷ ps) p h = at (in-cases (parts_said (reader.packet b 0)) (sent_by ps) h) (λ i. said-by ps p i)
  where
    at : In p (parts_said (reader.packet b 0)) ⊎ In p (sent_by ps) → (In p (sent_by ps) → Said p ps) → Said p (b ∷ ps)
    at (inl i) f = record { place = 0; packet = b; there = refl; says = i }
    at (inr i) f = let s = f i in record { place = suc s.place; packet = s.packet; there = s.there; says = s.says }

-- in one of the wire, from a place on
record OnWire (p : Part) (from : ℕ) (w : World) : Type 0 where
  said : Said p w.wire
  late : from ≤ said.place

sent-now : (ev : Event) (w : World) (p : Part) → In p (sent_now ev w) → OnWire p (length w.wire) (step ev w)
unfolding step sending
sent-now (queues _) w p h = elim h [ ]
sent-now (arrives _ _ _) w p h = elim h [ ]
sent-now looks w p h = elim h [ ]
sent-now takes w p h = elim h [ ]
sent-now (hears _) w p h = elim h [ ]
sent-now (rounds seq now allowance out table) w p h =
    by-test (goes w.sender.state (given_now seq now allowance w.sender) out table)
    (λ t.
    let s = said-by (written w.sender.state (given_now seq now allowance w.sender) out table) p (rw t at h) in
    rw t (record {
      said = record { place = length w.wire + s.place; packet = s.packet; there = at_right w.wire _ s.place (length w.wire + s.place) refl ∙ s.there; says = s.says };
      late = omega arith;
    }))
    (λ t. absurd (let n = in-length (rw t at h) in omega arith))

sent-in : (evs : List Event) (w : World) (p : Part) → In p (sent_in evs w) → OnWire p (length w.wire) (run evs w)
unfolding run sent_in
sent-in [] w p h = elim h [ ]
sent-in (ev ∷ evs) w p h = at (in-cases (sent_now ev w) (sent_in evs (step ev w)) h) (λ i. sent-in evs (step ev w) p i)
  where
    at : In p (sent_now ev w) ⊎ In p (sent_in evs (step ev w)) → (In p (sent_in evs (step ev w)) → OnWire p (length (step ev w).wire) (run evs (step ev w)))
        → OnWire p (length w.wire) (run evs (step ev w))
    at (inl i) f =
        let o = sent-now ev w p i in
        let s = o.said in
        record { said = record { place = s.place; packet = s.packet; there = run_at evs (step ev w) s.place s.there; says = s.says }; late = o.late }
    at (inr i) f =
        let o = f i in
        let m = step-wire ev w in
        let n : length (step ev w).wire ≡ length w.wire + length m.0 = ap length m.1 ∙ length-append w.wire m.0 in
        record { said = o.said; late = omega (arith, o.late) }

-- ---- a packet that arrives lands, and what landed stays

arrive-stays : (o : Option Bytes) (ms rs : List ℕ) (w : World) (p : Part) → Landed p w.receiver → Landed p (arriving o ms rs w).receiver
unfolding arriving
arrive-stays none ms rs w p h = h
arrive-stays (some bs) ms rs w p h = landed-on (handed bs ms rs) (noting (fault_of (read_with bs ms rs)) w.receiver) p h

step_stays : (ev : Event) (w : World) (p : Part) → Landed p w.receiver → Landed p (step ev w).receiver
unfolding step queueing sending taking hearing
step_stays (queues msg) w p h = h
step_stays (rounds seq now allowance out table) w p h =
    pick-cases (λ (x : World). Landed p x.receiver) (goes w.sender.state (given_now seq now allowance w.sender) out table) (λ _. h) (λ _. h)
step_stays (arrives k ms rs) w p h = arrive-stays (get_elem? w.wire k) ms rs w p h
step_stays looks w p h = h
step_stays takes w p h = h
step_stays (hears k) w p h = h

run-stays : (evs : List Event) (w : World) (p : Part) → Landed p w.receiver → Landed p (run evs w).receiver
unfolding run
run-stays [] w p h = h
run-stays (ev ∷ evs) w p h = run-stays evs (step ev w) p (step_stays ev w p h)

lands-later :
    (u : Setup) (evs : List Event) (w : World) → Good w → SetUp u w → Tabled evs w → Fits u (run evs w).queued
    → (k : ℕ) (ms rs : List ℕ) (bs : Bytes) → get_elem? w.wire k ≡ some bs → In (arrives k ms rs) evs → Arrived (parts_said (reader.packet bs 0)) (run evs w)
unfolding run Tabled
lands-later u [] w g t tabled f k ms rs bs e x7 p i = elim x7 [ ]
lands-later u (ev ∷ evs) w g t tabled f k ms rs bs e (here q) p i =
    let m = run_more (ev ∷ evs) w in
    let same = step-unrefused u ev w g t tabled.0 m.0 (subst (Fits u) m.1 f) in
    let here = land-good w g k ms rs bs e (subst (λ (x : Event). (step x w).receiver.refused ≡ w.receiver.refused) (sym q) same) p i in
    run-stays evs (step ev w) p (subst (λ (x : Event). Landed p (step x w).receiver) q here)
lands-later u (ev ∷ evs) w g t tabled f k ms rs bs e (there h) p i =
    lands-later u evs (step ev w) (step-good ev w g) (step_set u ev w g t) tabled.1 f k ms rs bs (step-at ev w k e) h p i

-- ---- all of it

run-set : (u : Setup) (evs : List Event) (w : World) → Good w → SetUp u w → SetUp u (run evs w)
unfolding run
run-set u [] w g t = t
run-set u (ev ∷ evs) w g t = run-set u evs (step ev w) (step-good ev w g) (step_set u ev w g t)

pub delivery : Delivery
delivery u a past window later r o enough all-arrive f tabled =
    let w = after u past in
    let w₁ = run window w in
    let g = run-good past (new u) (new-good u a) in
    let t = run-set u past (new u) (new-good u a) (new-set u) in
    arrival u a past window later r o enough
    (λ p i.
    let s = sent-in window w p i in
    let k = all-arrive s.said.place s.late (at_low w₁.wire s.said.place s.said.there) in
    lands-later u later w₁ (run-good window w g) (run-set u window w g t) tabled f s.said.place k.0 k.1 s.said.packet s.said.there k.2 p s.said.says)

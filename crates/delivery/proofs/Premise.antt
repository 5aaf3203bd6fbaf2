-- The premise of demand 3's last sentence is met: where the receiver has room for all that was ever queued, no arrival is refused. Assumes nothing.
use Prim.Native.Nat.{ℕ, zero, suc, ◌+◌, ◌*◌, ◌≤◌}
use mathlib.Core.Path.{◌≡◌, refl, sym, ap, ◌∙◌, subst}
use mathlib.Core.Bool.{Bool, true, false}
use mathlib.Core.List.{List, [], ◌∷◌, ◌++◌, append_assoc}
use mathlib.Core.Option.{Option, none, some}
use native.Mathlib.Omega.{arith}
use lib.ListN.{length, get_elem?, replicate}
use Rattle.words.specs.Sizes.{SLICE_SIZE, SLOTS, LANES}
use Rattle.words.specs.Choice.{pick}
use Rattle.words.specs.Lists.{holds, total, All, Pairs}
use Rattle.words.proofs.Lists.{all_snoc, all-at}
use Rattle.words.proofs.Tables.{pick-cases}
use Rattle.channel.specs.declared.Settings.{Settings}
use Rattle.octets.specs.Reader.{Res, ok, fault}
use Rattle.packet.specs.Packet as reader
use Rattle.receive_reliable.specs.Receive as r
use Rattle.receive_reliable.specs.declared.ReceiveChannelReliable.{ReceiveChannelReliable}
use Rattle.send_reliable.specs.declared.SendChannelReliable.{SendChannelReliable}
use Rattle.send_reliable.specs.Sender.{new_of, Valid}
use Rattle.send_reliable.specs.Queue as q
use Rattle.send_reliable.specs.Queue.{Spot, cell, lane, spot_of, state_at, add_small, add_sliced}
use Rattle.send_reliable.specs.Round.{state_after}
use Rattle.delivery.specs.World.{Bytes, Part, whole, piece, World, Setup, new, Event, queues, rounds, arrives, looks, takes, hears, given_now, goes, spot_now, queued_at, queueing, sending, handed, noting, fault_of, read_with, arriving, taking, ack_of, hearing, step, run}
use Rattle.delivery.specs.Statements.{Fits, TabledNow, Tabled, PremiseHolds}
use Rattle.std.proofs.lemmas.List.{append-nil}
use Rattle.delivery.proofs.Lists.{at_low, at-get_or}
use Rattle.delivery.proofs.Good.{WireHas, Good, queued-more, wire-sound, wire-at, new-good, step-good, arrive-queued}
use Rattle.delivery.proofs.Counts.{charge_of, small_of, sliced_of, Counts, counts-more, take-counts}
use Rattle.delivery.proofs.Unrefused.{Roomy, all-counts, all-const, all-unrefused}
use Rattle.delivery.proofs.Cases.{spot-cases, small_cases, piece-cases}

-- ---- the sender's settings stay

stays-queue : (s : SendChannelReliable) (n : ℕ) (x : Spot) → (state_at s n x).settings ≡ s.settings
unfolding add_small add_sliced
stays-queue s n (q.cell i) = refl
stays-queue s n (q.lane l) = refl
stays-queue s n (q.refused e) = refl

stays-ack : (s : SendChannelReliable) (o : Option Part) → (ack_of o s).settings ≡ s.settings
stays-ack s none = refl
stays-ack s (some (whole x)) = small_cases s x (λ (t : SendChannelReliable). t.settings ≡ s.settings) refl (λ i t low e. refl)
stays-ack s (some (piece x i)) = piece-cases s x (λ (t : SendChannelReliable). t.settings ≡ s.settings) refl i (λ l a next _ _. refl) (λ l a next _ _. refl)

-- each queued message is within the piece limit
abbrev Short : Settings → Bytes → Type 0
Short st m = length m ≤ st.pieces * SLICE_SIZE

queue-short : (s : SendChannelReliable) → Valid s → (msg : Bytes) (small lanes : ℕ) (ms : List Bytes) → All (Short s.settings) ms
    → All (Short s.settings) (queued_at (spot_of s (length msg) small lanes) msg ms)
queue-short s v msg small lanes ms a =
    spot-cases s v (length msg) small lanes (λ (x : Spot). All (Short s.settings) (queued_at x msg ms))
    (λ i c _. all_snoc (Short s.settings) ms msg a (omega (arith, c.short, v.settings.pieces-one)))
    (λ l c _. all_snoc (Short s.settings) ms msg a c.limit)
    (λ _. a)

-- ---- what stays as it was set up

pub record SetUp (u : Setup) (w : World) : Type 0 where
  pub sending : w.sender.state.settings ≡ u.sending
  pub receiving : w.receiver.state.settings ≡ u.receiving
  pub small : length w.receiver.small ≡ length u.receiver-small
  pub lanes : length w.receiver.lanes ≡ length u.receiver-lanes
  pub short : All (Short u.sending) w.queued
  pub counts : Counts w.queued w.receiver.state

take-settings : (s : ReceiveChannelReliable) → (r.after_take s).settings ≡ s.settings
unfolding r.after_take r.without_cell r.without_lane
take-settings s =
    pick-cases (λ (x : ReceiveChannelReliable). x.settings ≡ s.settings) (r.in_cell_of s s.oldest_pending_message_id) (λ _. refl)
    (λ _. pick-cases (λ (x : ReceiveChannelReliable). x.settings ≡ s.settings) (r.is_held s s.oldest_pending_message_id) (λ _. refl) (λ _. refl))

none-holds : (n : ℕ) → holds (replicate n false) ≤ 0
unfolding holds
none-holds zero = omega arith
none-holds (suc n) = none-holds n

pub new-set : (u : Setup) → SetUp u (new u)
unfolding new new_of r.new_of All total Pairs
new-set u =
    record {
      sending = refl;
      receiving = refl;
      small = refl;
      lanes = refl;
      short = tt;
      counts = record { ids = []; apart = tt; low = tt; started = tt; memory = omega arith; cells = none-holds SLOTS; lanes = none-holds LANES };
    }

arrive-set : (u : Setup) (o : Option Bytes) (ms rs : List ℕ) (w : World) → Good w → SetUp u w → ((bs : Bytes) → o ≡ some bs → WireHas w.queued bs) → SetUp u (arriving o ms rs w)
unfolding arriving
arrive-set u none ms rs w g t h = t
arrive-set u (some bs) ms rs w g t h =
    let e = noting (fault_of (read_with bs ms rs)) w.receiver in
    let c = all-const (handed bs ms rs) e in
    record {
      sending = t.sending;
      receiving = c.settings ∙ t.receiving;
      small = c.small ∙ t.small;
      lanes = c.lanes ∙ t.lanes;
      short = t.short;
      counts = all-counts w.queued (handed bs ms rs) e (wire-sound w.queued bs (h bs refl) ms rs) g.received t.counts;
    }

pub step_set : (u : Setup) (ev : Event) (w : World) → Good w → SetUp u w → SetUp u (step ev w)
unfolding step queueing sending taking hearing state_after
step_set u (queues msg) w g t =
    let m = queued-more (spot_now msg w.sender) msg w.queued in
    record {
      sending = stays-queue w.sender.state (length msg) (spot_now msg w.sender) ∙ t.sending;
      receiving = t.receiving;
      small = t.small;
      lanes = t.lanes;
      short =
          subst (λ (st : Settings). All (Short st) (queued_at (spot_now msg w.sender) msg w.queued)) t.sending
          (queue-short w.sender.state g.sender.valid msg (length w.sender.small) (length w.sender.lanes) w.queued
          (subst (λ (st : Settings). All (Short st) w.queued) (sym t.sending) t.short));
      counts = rw m.1 (counts-more w.queued m.0 w.receiver.state t.counts);
    }
step_set u (rounds seq now allowance out table) w g t =
    pick-cases (SetUp u) (goes w.sender.state (given_now seq now allowance w.sender) out table)
    (λ _. record { sending = t.sending; receiving = t.receiving; small = t.small; lanes = t.lanes; short = t.short; counts = t.counts })
    (λ _. t)
step_set u (arrives k ms rs) w g t = arrive-set u (get_elem? w.wire k) ms rs w g t (λ bs e. wire-at w.queued w.wire k e g.wire)
step_set u looks w g t = t
step_set u takes w g t =
    record {
      sending = t.sending;
      receiving = take-settings w.receiver.state ∙ t.receiving;
      small = t.small;
      lanes = t.lanes;
      short = t.short;
      counts = take-counts w.queued w.receiver.state g.received.valid t.counts;
    }
step_set u (hears k) w g t =
    record {
      sending = stays-ack w.sender.state (get_elem? w.receiver.took k) ∙ t.sending;
      receiving = t.receiving;
      small = t.small;
      lanes = t.lanes;
      short = t.short;
      counts = t.counts;
    }

-- ---- more is queued, and so it takes more

total-append : (f : Bytes → ℕ) (xs ys : List Bytes) → total f (xs ++ ys) ≡ total f xs + total f ys
unfolding total
total-append f [] ys = omega arith
total-append f (x ∷ xs) ys = let r = total-append f xs ys in omega arith

abbrev pub More : World → World → Type 0
More w w' = (more : List Bytes) × (w'.queued ≡ w.queued ++ more)

pub none_more : (ms : List Bytes) → (more : List Bytes) × (ms ≡ ms ++ more)
none_more ms = ([], sym (append-nil ms))

step-more : (ev : Event) (w : World) → More w (step ev w)
unfolding step queueing sending taking hearing
step-more (queues msg) w = queued-more (spot_now msg w.sender) msg w.queued
step-more (rounds seq now allowance out table) w =
    pick-cases (More w) (goes w.sender.state (given_now seq now allowance w.sender) out table) (λ _. none_more w.queued) (λ _. none_more w.queued)
step-more (arrives k ms rs) w = let m = none_more w.queued in (m.0, arrive-queued (get_elem? w.wire k) ms rs w ∙ m.1)
step-more looks w = none_more w.queued
step-more takes w = none_more w.queued
step-more (hears k) w = none_more w.queued

pub run_more : (evs : List Event) (w : World) → More w (run evs w)
unfolding run
run_more [] w = none_more w.queued
run_more (ev ∷ evs) w =
    let a = step-more ev w in
    let b = run_more evs (step ev w) in
    (a.0 ++ b.0, b.1 ∙ ap (λ (l : List Bytes). l ++ b.0) a.1 ∙ append_assoc w.queued a.0 b.0)

-- ---- an arrival where there is room for all that is ever queued

roomy : (u : Setup) (w : World) → Good w → SetUp u w → (more : List Bytes) → Fits u (w.queued ++ more)
    → Roomy w.queued w.receiver.state.settings (length w.receiver.small) (length w.receiver.lanes)
roomy u w g t more f =
    rw (t.receiving, t.small, t.lanes) (record {
      memory = let z = total-append charge_of w.queued more in omega (arith, f.memory);
      few-small = let z = total-append small_of w.queued more in omega (arith, f.small);
      few-sliced = let z = total-append sliced_of w.queued more in omega (arith, f.sliced);
      stores = f.stores;
      numbers = omega (arith, g.stored.next, g.sender.valid.next-most);
      short = λ id msg queued.
          let l = at_low w.queued id queued in
          let x = subst (Short u.sending) (at-get_or w.queued id [] queued) (all-at (Short u.sending) w.queued id [] l t.short) in
          omega (arith, f.pieces);
    })

no-fault : (bs : Bytes) (ms rs : List ℕ) (p : reader.Packet) (used : ℕ) → reader.packet bs 0 ≡ ok p used → reader.holds p (length ms) (length rs) ≡ true → fault_of (read_with bs ms rs) ≡ []
unfolding reader.judged
no-fault bs ms rs p used e t =
    ap (λ (x : Res reader.Packet). fault_of (reader.judged x (length ms) (length rs))) e ∙ ap (λ (b : Bool). fault_of (pick b (ok p used) (fault 11))) t

arrive-unrefused : (o : Option Bytes) (ms rs : List ℕ) (w : World) → Good w → Counts w.queued w.receiver.state
    → Roomy w.queued w.receiver.state.settings (length w.receiver.small) (length w.receiver.lanes)
    → ((bs : Bytes) → o ≡ some bs → WireHas w.queued bs)
    → ((bs : Bytes) (p : reader.Packet) (used : ℕ) → o ≡ some bs → reader.packet bs 0 ≡ ok p used → reader.holds p (length ms) (length rs) ≡ true)
    → (arriving o ms rs w).receiver.refused ≡ w.receiver.refused
unfolding arriving
arrive-unrefused none ms rs w g c room h tabled = refl
arrive-unrefused (some bs) ms rs w g c room h tabled =
    let b = (h bs refl).back in
    let n = no-fault bs ms rs b.packet-read b.used b.reads (tabled bs b.packet-read b.used refl b.reads) in
    let e = noting (fault_of (read_with bs ms rs)) w.receiver in
    all-unrefused w.queued (handed bs ms rs) e (wire-sound w.queued bs (h bs refl) ms rs) g.received c room
    ∙ ap (λ (l : List ℕ). w.receiver.refused ++ l) n ∙ append-nil w.receiver.refused

pub step-unrefused : (u : Setup) (ev : Event) (w : World) → Good w → SetUp u w → TabledNow ev w → (more : List Bytes) → Fits u (w.queued ++ more)
    → (step ev w).receiver.refused ≡ w.receiver.refused
unfolding step queueing sending taking hearing
step-unrefused u (queues msg) w g t tabled more f = refl
step-unrefused u (rounds seq now allowance out table) w g t tabled more f =
    pick-cases (λ (x : World). x.receiver.refused ≡ w.receiver.refused) (goes w.sender.state (given_now seq now allowance w.sender) out table) (λ _. refl) (λ _. refl)
step-unrefused u (arrives k ms rs) w g t tabled more f =
    arrive-unrefused (get_elem? w.wire k) ms rs w g t.counts (roomy u w g t more f) (λ bs e. wire-at w.queued w.wire k e g.wire) tabled
step-unrefused u looks w g t tabled more f = refl
step-unrefused u takes w g t tabled more f = refl
step-unrefused u (hears k) w g t tabled more f = refl

run-unrefused : (u : Setup) (evs : List Event) (w : World) → Good w → SetUp u w → Tabled evs w → Fits u (run evs w).queued → (run evs w).receiver.refused ≡ w.receiver.refused
unfolding run Tabled
run-unrefused u [] w g t tabled f = refl
run-unrefused u (ev ∷ evs) w g t tabled f =
    let m = run_more (ev ∷ evs) w in
    run-unrefused u evs (step ev w) (step-good ev w g) (step_set u ev w g t) tabled.1 f
    ∙ step-unrefused u ev w g t tabled.0 m.0 (subst (Fits u) m.1 f)

pub premise_holds : PremiseHolds
unfolding new
premise_holds u a evs f tabled = run-unrefused u evs (new u) (new-good u a) (new-set u) tabled f

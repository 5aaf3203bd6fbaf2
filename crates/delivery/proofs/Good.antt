-- What is true in every world that a new pair can reach, and that what is handed out is a beginning of what was queued. Assumes nothing.
use Prim.Native.Nat.{ℕ, zero, suc, ◌+◌, ◌≤◌, ◌<◌}
use mathlib.Core.Path.{◌≡◌, refl, sym, ap, ◌∙◌, subst}
use mathlib.Core.Bool.{Bool, true}
use mathlib.Core.List.{List, [], ◌∷◌, ◌++◌, map}
use mathlib.Core.Option.{Option, none, some}
use native.Mathlib.Omega.{arith}
use lib.ListN.{length, get_elem?, take, drop, length-append, length-take}
use borrow.Author.Tests.{eqb-true, eq-eqb, ne_eqb}
use Rattle.words.specs.Sizes.{LIMIT}
use Rattle.words.specs.Choice.{pick}
use Rattle.words.specs.Lists.{All}
use Rattle.words.proofs.Lists.{all_map, all_append}
use Rattle.words.proofs.Tables.{by-test}
use Rattle.channel.specs.Settings.{stores_hold_of}
use Rattle.channel.proofs.Good.{good}
use Rattle.packet.specs.Packet as reader
use Rattle.pack.specs.Pack.{Item, Pack, group, single}
use Rattle.pack.specs.Encode.{Lent, packets_bytes}
use Rattle.receive_reliable.specs.Receive as r
use Rattle.receive_reliable.specs.declared.ReceiveChannelReliable.{ReceiveChannelReliable}
use Rattle.send_reliable.specs.Queue as q
use Rattle.send_reliable.specs.Round.{Given, chosen, packs, lent, refusal_of}
use Rattle.send_reliable.specs.Sender.{Valid}
use Rattle.send_reliable.specs.declared.SendChannelReliable.{SendChannelReliable}
use Rattle.delivery.specs.World.{Bytes, Part, whole, piece, Handed, message, slice, Receiving, World, Setup, Accepted, new, Event, queues, rounds, arrives, looks, takes, hears, given_now, goes, spot_now, queued_at, queueing, written, sending, handed, noting, fault_of, read_with, arriving, part_now, out_at, taking, hearing, step, run}
use Rattle.delivery.specs.Window.{sent_by}
use Rattle.delivery.proofs.Turn.{part_of, parts_in, all_parts}
use Rattle.std.proofs.lemmas.List.{append-nil, take-append-le}
use Rattle.delivery.proofs.Lists.{none≢some, at_more, take_next}
use Rattle.delivery.proofs.Sender.{round-judged}
use Rattle.delivery.proofs.Keeps.{round_room}
use Rattle.delivery.proofs.Clock.{SenderGood, good_new, good-step}
use Rattle.delivery.proofs.Receiver as receiver
use Rattle.delivery.proofs.Receiver.{Queued, Sound, Has, has_more, Takes, nothing-waits, hands, takes-so, all-has, all-oldest}
use Rattle.delivery.proofs.Stored as stored
use Rattle.delivery.proofs.Stored.{SenderHas, queue-has, ack-has, round-has}
use Rattle.delivery.proofs.Items.{SmallHas, PackHas, FewIn, chosen-items, packs-has, packs-few}
use Rattle.delivery.proofs.Read as read
use Rattle.delivery.proofs.Read.{small_handed, handed_pack, part_handed, ReadsBack, cut-back}

-- a packet on the wire: it reads back as what was queued
pub record WireHas (q : List Bytes) (bs : Bytes) : Type 0 where
  pub says : List Handed
  pub back : ReadsBack bs says
  pub sound : All (Sound q) says

pub record Good (w : World) : Type 0 where
  pub sender : SenderGood w
  pub stored : SenderHas w.queued w.sender.state w.sender.small w.sender.lanes
  pub wire : All (WireHas w.queued) w.wire
  pub received : Has w.queued w.receiver.state w.receiver.small w.receiver.lanes
  pub oldest : w.receiver.state.oldest_pending_message_id ≡ length w.out
  pub prefix : w.out ≡ take (length w.out) w.queued

-- ---- more is queued

sound_more : (q more : List Bytes) (x : Handed) → Sound q x → Sound (q ++ more) x
sound_more q more (message id bs) h = (at_more q more id h.0, h.1)
sound_more q more (slice id num i bs) h = record { msg = h.msg; queued = at_more q more id h.queued; long = h.long; num-is = h.num-is; low = h.low; bytes = h.bytes }

wire-more : (q more : List Bytes) (bs : Bytes) → WireHas q bs → WireHas (q ++ more) bs
wire-more q more bs h = record { says = h.says; back = h.back; sound = all_map (Sound q) (Sound (q ++ more)) (sound_more q more) h.says h.sound }

pub queued-more : (x : q.Spot) (msg : Bytes) (ms : List Bytes) → (more : List Bytes) × (queued_at x msg ms ≡ ms ++ more)
queued-more (q.cell i) msg ms = (msg ∷ [], refl)
queued-more (q.lane l) msg ms = (msg ∷ [], refl)
queued-more (q.refused e) msg ms = ([], sym (append-nil ms))

out-low : (w : World) → Good w → length w.out ≤ length w.queued
out-low w g = let n = length-take (length w.out) w.queued in let e = ap length g.prefix in omega arith

-- ---- the packets of a round

handed-sound : (q : List Bytes) (small lanes : Bytes) (p : Pack) → PackHas q small lanes p → All (Sound q) (handed_pack small lanes p)
unfolding All
handed-sound q small lanes (group is) h = each is h
  where
    each : (is : List Item) → All (SmallHas q small) is → All (Sound q) (map (small_handed small) is)
    each [] a = tt
    each (x ∷ is) a = ((a.0.queued, let n = length-take x.len (drop x.place small) in omega (arith, a.0.short)), each is a.1)
handed-sound q small lanes (single x) h = (h.queued, tt)

packets-wire : (q : List Bytes) (l : Lent) → l.ids ≡ true → l.channel < 256 → (ps : List Pack) (seq : ℕ) → seq + length ps ≤ LIMIT
    → All (PackHas q l.small l.lanes) ps → All FewIn ps → All (WireHas q) (packets_bytes l seq ps)
unfolding packets_bytes All
packets-wire q l e c [] seq h a f = tt
packets-wire q l e c (p ∷ ps) seq h a f = (
  record { says = handed_pack l.small l.lanes p; back = read.arrives q l e c seq p (omega arith) a.0 f.0; sound = handed-sound q l.small l.lanes p a.0 },
  packets-wire q l e c ps (seq + 1) (omega arith) a.1 f.1,
)

parts-handed : (q : List Bytes) (small lanes : Bytes) (p : Pack) → PackHas q small lanes p → map part_handed (handed_pack small lanes p) ≡ parts_in p
unfolding All
parts-handed q small lanes (group is) h = each is h
  where
    each : (is : List Item) → All (SmallHas q small) is → map part_handed (map (small_handed small) is) ≡ map part_of is
    each [] a = refl
    each (x ∷ is) a =
        ap (λ (l : List Part). whole x.id ∷ l) (each is a.1)
        ∙ ap (λ (b : Bool). pick b (whole x.id) (piece x.id x.index) ∷ map part_of is) (sym (eq-eqb x.num 0 a.0.num-is))
parts-handed q small lanes (single x) h =
    let z : x.num ≡ 0 → ⊥ = λ e. omega (arith, h.low) in
    ap (λ (b : Bool). pick b (whole x.id) (piece x.id x.index) ∷ []) (sym (ne_eqb x.num 0 z))

packets-parts : (q : List Bytes) (l : Lent) → l.ids ≡ true → l.channel < 256 → (ps : List Pack) (seq : ℕ) → seq + length ps ≤ LIMIT
    → All (PackHas q l.small l.lanes) ps → All FewIn ps → sent_by (packets_bytes l seq ps) ≡ all_parts ps
unfolding packets_bytes All sent_by all_parts
packets-parts q l e c [] seq h a f = refl
packets-parts q l e c (p ∷ ps) seq h a f =
    let b = read.arrives q l e c seq p (omega arith) a.0 f.0 in
    ap (λ (x : List Part). x ++ sent_by (packets_bytes l (seq + 1) ps)) (b.parts ∙ parts-handed q l.small l.lanes p a.0)
    ∙ ap (λ (x : List Part). parts_in p ++ x) (packets-parts q l e c ps (seq + 1) (omega arith) a.1 f.1)

module _ (q : List Bytes) (s : SendChannelReliable) (g : Given) (v : Valid s) (h : SenderHas q s g.small g.lanes) (out table : List ℕ)
    (e : refusal_of s g (length out) (length table) ≡ 0) where
  -- what a round writes is its packets, encoded
  round-written : (written s g out table ≡ packets_bytes (lent s g) g.seq (packs s g)) × (g.seq + length (packs s g) ≤ LIMIT)
  unfolding written
  round-written = cut-back (lent s g) g.seq (packs s g) out table (round-judged s g (length out) (length table) e).1

  round-packs : All (PackHas q g.small g.lanes) (packs s g)
  round-packs =
      let room = round_room s v g (length out) (length table) e in
      packs-has q g.small g.lanes (chosen s g).items (chosen-items q s g.small g.lanes v h room.0 room.1 g)

  round-wire : All (WireHas q) (written s g out table)
  round-wire =
      subst (All (WireHas q)) (sym round-written.0)
      (packets-wire q (lent s g) refl h.channel (packs s g) g.seq round-written.1 round-packs (packs-few (chosen s g).items))

  -- and what it sends is in them
  pub round-parts : sent_by (written s g out table) ≡ all_parts (packs s g)
  round-parts = ap sent_by round-written.0 ∙ packets-parts q (lent s g) refl h.channel (packs s g) g.seq round-written.1 round-packs (packs-few (chosen s g).items)

-- ---- what an arriving packet hands over

pub wire-sound : (q : List Bytes) (bs : Bytes) → WireHas q bs → (ms rs : List ℕ) → All (Sound q) (handed bs ms rs)
unfolding All
wire-sound q bs h ms rs =
    by-test (reader.holds h.back.packet-read (length ms) (length rs))
    (λ t. rw (h.back.hands ms rs t) h.sound)
    (λ t. rw (h.back.stops ms rs t) tt)

pub wire-at : (q : List Bytes) (ws : List Bytes) (k : ℕ) {bs : Bytes} → get_elem? ws k ≡ some bs → All (WireHas q) ws → WireHas q bs
unfolding All
wire-at q [] k e a = absurd (none≢some e)
wire-at q (b ∷ ws) zero {bs} e a = let z : b ≡ bs = cc in subst (WireHas q) z a.0
wire-at q (b ∷ ws) (suc k) e a = wire-at q ws k e a.1

-- with stores that hold, a look gives what waits
pub look-now : (e : Receiving) → stores_hold_of e.state.settings (length e.small) (length e.lanes) ≡ true → part_now e ≡ r.part_at (r.waiting e.state) e.small e.lanes
unfolding r.look_at
look-now e t = rw t

pub arrive-queued : (o : Option Bytes) (ms rs : List ℕ) (w : World) → (arriving o ms rs w).queued ≡ w.queued
unfolding arriving
arrive-queued none ms rs w = refl
arrive-queued (some bs) ms rs w = refl

-- ---- in every world

pub new-good : (u : Setup) → Accepted u → Good (new u)
unfolding new All r.new_of
new-good u a =
    record {
      sender = good_new u a;
      stored = stored.has_new u.channel u.sending u.resend u.sender-small u.sender-lanes a.channel;
      wire = tt;
      received = receiver.has_new u.receiving u.receiver-small u.receiver-lanes (good u.receiving a.receiving);
      oldest = refl;
      prefix = refl;
    }

queue-good : (msg : Bytes) (w : World) → Good w → Good (step (queues msg) w)
unfolding step queueing
queue-good msg w g =
    let m = queued-more (spot_now msg w.sender) msg w.queued in
    record {
      sender = good-step (queues msg) w g.sender;
      stored = queue-has w.queued w.sender.state w.sender.small w.sender.lanes g.sender.valid g.stored msg;
      wire = rw m.1 (all_map (WireHas w.queued) (WireHas (w.queued ++ m.0)) (wire-more w.queued m.0) w.wire g.wire);
      received = rw m.1 (has_more w.queued m.0 w.receiver.state w.receiver.small w.receiver.lanes g.received);
      oldest = g.oldest;
      prefix = rw m.1 (g.prefix ∙ sym (take-append-le (length w.out) w.queued m.0 (out-low w g)));
    }

round-good : (seq now allowance : ℕ) (out : Bytes) (table : List ℕ) (w : World) → Good w → Good (step (rounds seq now allowance out table) w)
unfolding step sending
round-good seq now allowance out table w g =
    by-test (goes w.sender.state (given_now seq now allowance w.sender) out table)
    (λ t.
    let gv = given_now seq now allowance w.sender in
    let sg = good-step (rounds seq now allowance out table) w g.sender in
    rw t (record {
      sender = rw t at sg;
      stored = round-has w.queued w.sender.state w.sender.small w.sender.lanes g.sender.valid g.stored gv;
      wire = all_append (WireHas w.queued) w.wire (written w.sender.state gv out table) g.wire
          (round-wire w.queued w.sender.state gv g.sender.valid g.stored out table (eqb-true _ _ t));
      received = g.received;
      oldest = g.oldest;
      prefix = g.prefix;
    }))
    (λ t. rw t g)

arrive-good : (o : Option Bytes) (ms rs : List ℕ) (w : World) → Good w → ((bs : Bytes) → o ≡ some bs → WireHas w.queued bs) → Good (arriving o ms rs w)
unfolding arriving
arrive-good none ms rs w g h = g
arrive-good (some bs) ms rs w g h =
    record {
      sender = record { valid = g.sender.valid; clocked = g.sender.clocked };
      stored = g.stored;
      wire = g.wire;
      received = all-has w.queued (handed bs ms rs) (noting (fault_of (read_with bs ms rs)) w.receiver) (wire-sound w.queued bs (h bs refl) ms rs) g.received;
      oldest = all-oldest (handed bs ms rs) (noting (fault_of (read_with bs ms rs)) w.receiver) ∙ g.oldest;
      prefix = g.prefix;
    }

-- what a take hands out is the next of what was queued
module _ (w : World) (g : Good w) where
  abbrev s : ReceiveChannelReliable
  s = w.receiver.state

  abbrev small : Bytes
  small = w.receiver.small

  abbrev lanes : Bytes
  lanes = w.receiver.lanes

  take-good-by : {s' : ReceiveChannelReliable} {x : r.Waiting} → Takes w.queued s small lanes g.received s' x → (part : Bytes)
      → (stores_hold_of s.settings (length small) (length lanes) ≡ true → part ≡ r.part_at x small lanes)
      → Has w.queued s' small lanes × (s'.oldest_pending_message_id ≡ length (out_at x part w.out)) × (out_at x part w.out ≡ take (length (out_at x part w.out)) w.queued)
  take-good-by nothing-waits part look = (g.received, g.oldest, g.prefix)
  take-good-by {s'} (hands store place len e room queued next has) part look =
      subst (λ (y : r.Waiting). Has w.queued s' small lanes × (s'.oldest_pending_message_id ≡ length (out_at y part w.out)) × (out_at y part w.out ≡ take (length (out_at y part w.out)) w.queued)) (sym e)
      (has, simp length-append (omega (arith, next, g.oldest)), more)
    where
      at : Queued w.queued (length w.out) part
      at = ap (get_elem? w.queued) (sym g.oldest) ∙ queued ∙ ap some (sym (look room))

      more : w.out ++ (part ∷ []) ≡ take (length (w.out ++ (part ∷ []))) w.queued
      more =
          let n : length (w.out ++ (part ∷ [])) ≡ length w.out + 1 = length-append w.out (part ∷ []) in
          ap (λ (l : List Bytes). l ++ (part ∷ [])) g.prefix ∙ sym (take_next w.queued (length w.out) at) ∙ ap (λ (k : ℕ). take k w.queued) (sym n)

  abbrev taken : List Bytes
  taken = out_at (r.waiting s) (part_now w.receiver) w.out

  take-so : Has w.queued (r.after_take s) small lanes × ((r.after_take s).oldest_pending_message_id ≡ length taken) × (taken ≡ take (length taken) w.queued)
  take-so = take-good-by (takes-so w.queued s small lanes g.received) (part_now w.receiver) (look-now w.receiver)

  -- what is handed out next is what comes after all that was
  take-oldest : (taking w).receiver.state.oldest_pending_message_id ≡ length (taking w).out
  unfolding taking
  take-oldest = take-so.1

  take-good : Good (taking w)
  unfolding taking
  take-good =
      record {
        sender = record { valid = g.sender.valid; clocked = g.sender.clocked };
        stored = g.stored;
        wire = g.wire;
        received = take-so.0;
        oldest = take-oldest;
        prefix = take-so.2;
      }

hear-good : (k : ℕ) (w : World) → Good w → Good (step (hears k) w)
unfolding step hearing
hear-good k w g =
    record {
      sender = good-step (hears k) w g.sender;
      stored = ack-has w.queued w.sender.state w.sender.small w.sender.lanes g.sender.valid g.stored (get_elem? w.receiver.took k);
      wire = g.wire;
      received = g.received;
      oldest = g.oldest;
      prefix = g.prefix;
    }

pub step-good : (ev : Event) (w : World) → Good w → Good (step ev w)
unfolding step
step-good (queues msg) w g = queue-good msg w g
step-good (rounds seq now allowance out table) w g = round-good seq now allowance out table w g
step-good (arrives k ms rs) w g = arrive-good (get_elem? w.wire k) ms rs w g (λ bs e. wire-at w.queued w.wire k e g.wire)
step-good looks w g = g
step-good takes w g = take-good w g
step-good (hears k) w g = hear-good k w g

pub run-good : (evs : List Event) (w : World) → Good w → Good (run evs w)
unfolding run
run-good [] w g = g
run-good (ev ∷ evs) w g = run-good evs (step ev w) (step-good ev w g)

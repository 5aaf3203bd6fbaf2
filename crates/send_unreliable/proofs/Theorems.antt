-- What follows from the promises: what the usage is, that the lowest free cell and lane are taken, what a round spends, that it empties the
-- queue, that a message or round that is not taken changes nothing, and that each call has one outcome only.
-- That what is queued is what goes is in `Held`. Assumes nothing.
use Prim.Native.Nat.{ℕ, ◌+◌, ◌≤◌}
use mathlib.Core.Path.{◌≡◌, refl, sym, ap, ◌∙◌}
use mathlib.Core.Bool.{Bool, true, false, not}
use mathlib.Core.List.{List, [], ◌∷◌, map}
use native.Mathlib.Omega.{arith}
use borrow.Author.Tests.{lt-ltb, le-ltb, leb-true, leb-false}
use lib.Dec.{ltb, eqb}
use lib.ListN.{length}
use Rattle.words.specs.Choice.{pick}
use Rattle.words.specs.Lists.{lowest_free_of, total}
use Rattle.words.proofs.Tables.{clash}
use Rattle.words.proofs.Unique.{told-apart, refusal_of, refusal-undone}
use Rattle.channel.specs.Settings.{least_settings}
use Rattle.channel.specs.declared.Settings.{Settings}
use Rattle.std.specs.Prelude.{Result, Ok, Err}
use Rattle.words.specs.declared.Refusal.{Refusal}
use Rattle.channel.proofs.Unique.{one-setup}
use Rattle.pack.specs.Pack.{Item, payload}
use Rattle.pack.specs.Round.{Sums, sent, refused, went_of, sums}
use Rattle.pack.specs.declared.Written.{Written}
use Rattle.pack.proofs.Theorems.{payload-kept}
use Rattle.pack.proofs.Round.{one-went}
use Rattle.send_unreliable.specs.Sender.{Made, Queued, empty_of, waiting, is_small, Valid, available, can_send_of, MadeGives, Spot, cell, lane, dropped, entry_refusal, spot_of, state_at, Outcome, taken, drop, refusing, queue_of, answer_at, small_at_of, lanes_at, QueueGives}
use Rattle.send_unreliable.specs.Sender as sender
use Rattle.send_unreliable.specs.Round.{Round, Given, pieces_from, go, starting, select, packs, lent, RoundGives}
use Rattle.send_unreliable.specs.Round as rounds
use Rattle.send_unreliable.specs.Laws.{cells_taken, lanes_taken}
use Rattle.send_unreliable.specs.declared.SendChannelUnreliable.{SendChannelUnreliable}
use Rattle.send_unreliable.specs.declared.Queue.{Queue}
use Rattle.send_unreliable.specs.declared.Queue.TheVariants as queue
use Rattle.send_unreliable.proofs.Lists.{total-same}
use Rattle.send_unreliable.proofs.Chosen.{sliced-is, spent_all}
use Rattle.send_unreliable.proofs.Lowest.{lowest-taken}

module _ (s : SendChannelUnreliable) (v : Valid s) where
  -- ---- the usage is the length of all waiting messages, and never passes the maximum

  pub usage-is : s.memory_usage_bytes ≡ total (λ n. n) (waiting s)
  usage-is = v.usage

  pub usage-within : s.memory_usage_bytes ≤ s.settings.max_memory_usage_bytes
  usage-within = v.usage-most

  -- what is available and what is used are the maximum
  pub available-is : s.memory_usage_bytes + available s ≡ s.settings.max_memory_usage_bytes
  available-is = let h = v.usage-most in omega arith

  -- ---- the lowest free cell and lane are taken

  pub lowest-cell : lowest_free_of (cells_taken s) s.settings.slots ≡ s.small
  lowest-cell = let h = v.small_is in let m = v.small-most in lowest-taken is_small s.settings.slots (waiting s) (omega arith) ∙ sym h

  pub lowest-lane : lowest_free_of (lanes_taken s) s.settings.lanes ≡ s.sliced
  lowest-lane =
      let e : total (λ n. pick (not (is_small n)) 1 0) (waiting s) ≡ s.sliced = total-same _ _ (λ n. not-one (is_small n)) (waiting s) ∙ sliced-is s v in
      let m = v.sliced-most in
      lowest-taken (λ n. not (is_small n)) s.settings.lanes (waiting s) (omega arith) ∙ e where
        not-one : (b : Bool) → ◌≡◌ {A = ℕ} (pick (not b) 1 0) (pick b 0 1)
        not-one true = refl
        not-one false = refl

-- ---- dropped exactly where `can_send_message` says no, unless it was refused before

module _ (s : SendChannelUnreliable) (n small lanes : ℕ) (e : entry_refusal s n small lanes ≡ 0) where
  pub no-room-drops : can_send_of s n ≡ false → spot_of s n small lanes ≡ dropped
  unfolding spot_of
  no-room-drops h = rw (e, lt-ltb s.settings.max_memory_usage_bytes (s.memory_usage_bytes + n) (leb-false _ _ h))

  room-tests : (a b c : Bool) → pick a (pick b cell (sender.refused 11)) (pick c lane (sender.refused 11)) ≡ dropped → ⊥
  room-tests true true c e = clash (cc)
  room-tests true false c e = clash (cc)
  room-tests false b true e = clash (cc)
  room-tests false b false e = clash (cc)

  pub room-keeps : can_send_of s n ≡ true → spot_of s n small lanes ≡ dropped → ⊥
  unfolding spot_of
  room-keeps h d = room-tests (is_small n) (ltb s.small s.settings.slots) (ltb s.sliced s.settings.lanes) (rw (e, le-ltb s.settings.max_memory_usage_bytes (s.memory_usage_bytes + n) (leb-true _ _ h)) at d)

-- ---- what a round spends

module _ (s : SendChannelUnreliable) (g : Given) (out table out' table' : List ℕ) (r : Round) (w : RoundGives s g out table out' table' r) where
  abbrev number : ℕ
  number = rounds.refusal_of s g (length out) (length table)

  -- sent, where nothing is refused
  sent-tests : (b : Bool) (x y : Sums) (e : ℕ) → sent x ≡ pick b (sent y) (refused e) → (b ≡ true) × (x ≡ y)
  sent-tests true x y e h = (refl, cc)
  sent-tests false x y e h = clash (cc)

  module _ (x : Sums) (h : went_of r.answer ≡ sent x) where
    was-sent : (eqb number 0 ≡ true) × (x ≡ sums (lent s g) g.seq g.allowance (packs s g))
    was-sent = sent-tests (eqb number 0) x _ number (sym h ∙ w.went.answer)

    -- the payload bytes of its packets, which are those of the items that it chose
    pub spends-payload : x.spent ≡ payload (packs s g)
    unfolding sums
    spends-payload = ap (λ (y : Sums). y.spent) was-sent.1

    pub spends-items : x.spent ≡ total (λ (i : Item). i.len) (select s g.allowance).items
    spends-items = spends-payload ∙ payload-kept false (select s g.allowance).items

    -- with what is left it is the allowance, so it is never more
    pub spends-within : (select s g.allowance).left + x.spent ≡ g.allowance
    unfolding select total
    spends-within = rw spends-items (spent_all s.settings (waiting s) _ ∙ omega arith)

    -- ---- and it empties the queue

    pub round-empties : r.state ≡ empty_of s.channel_id s.settings (select s g.allowance).id
    round-empties = w.state ∙ rw was-sent.0

    pub none-waits : waiting r.state ≡ []
    unfolding empty_of
    none-waits = ap waiting round-empties

  -- ---- a round that is refused changes no state, no byte and no entry

  refused-tests : (b : Bool) (y : Sums) (d e : ℕ) → refused d ≡ pick b (sent y) (refused e) → b ≡ false
  refused-tests true y d e h = clash (cc)
  refused-tests false y d e h = refl

  pub round-not-sent : (e : ℕ) → went_of r.answer ≡ refused e → (r.state ≡ s) × (out' ≡ out) × (table' ≡ table)
  round-not-sent e h =
      let f = refused-tests (eqb number 0) _ e number (sym h ∙ w.went.answer) in
      (w.state ∙ rw f, w.went.bytes ∙ rw f, w.went.entries ∙ rw f)

-- ---- a message that is not taken changes no state and no byte

spot-kept : (s : SendChannelUnreliable) (msg small lanes : List ℕ) (spot : Spot) → (answer_at spot ≡ taken → ⊥)
    → (state_at s (length msg) spot ≡ s) × (small_at_of s spot msg small ≡ small) × (lanes_at s spot msg lanes ≡ lanes)
spot-kept s msg small lanes cell n = absurd (n refl)
spot-kept s msg small lanes lane n = absurd (n refl)
spot-kept s msg small lanes dropped n = (refl, refl, refl)
spot-kept s msg small lanes (sender.refused e) n = (refl, refl, refl)

pub message-not-taken : (s : SendChannelUnreliable) (msg small lanes small' lanes' : List ℕ) (r : Queued) → QueueGives s msg small lanes small' lanes' r
    → (queue_of r.answer ≡ taken → ⊥) → (r.state ≡ s) × (small' ≡ small) × (lanes' ≡ lanes)
message-not-taken s msg small lanes small' lanes' r g n =
    let k = spot-kept s msg small lanes (spot_of s (length msg) (length small) (length lanes)) (λ e. n (g.answer ∙ e)) in
    (g.state ∙ k.0, g.small-store ∙ k.1, g.lane-store ∙ k.2)

-- ---- one outcome only; the other calls' promises are equations of their answer

abbrev queue_from : Outcome → Result Queue Refusal
queue_from taken = Ok queue.Taken
queue_from drop = Ok queue.Dropped
queue_from (refusing n) = Err (refusal_of n)

queue-undone : (a : Result Queue Refusal) → queue_from (queue_of a) ≡ a
queue-undone (Ok queue.Taken) = refl
queue-undone (Ok queue.Dropped) = refl
queue-undone (Err e) = ap Err (refusal-undone e)

pub one-made : (channel : ℕ) (s : Settings) (r q : Made) → MadeGives channel s r → MadeGives channel s q → r ≡ q
one-made channel s r q x y =
    ap (λ (b : Result (Unit {0}) Refusal). record { answer = b; state = r.state }) (one-setup r.answer q.answer (x.number ∙ sym y.number))
    ∙ ap (λ (u : SendChannelUnreliable). record { answer = q.answer; state = u }) (x.state ∙ sym y.state)

pub one-queued : (s : SendChannelUnreliable) (msg small lanes small₁ lanes₁ small₂ lanes₂ : List ℕ) (r q : Queued)
    → QueueGives s msg small lanes small₁ lanes₁ r → QueueGives s msg small lanes small₂ lanes₂ q → (r ≡ q) × (small₁ ≡ small₂) × (lanes₁ ≡ lanes₂)
one-queued s msg small lanes small₁ lanes₁ small₂ lanes₂ r q x y = (
  ap (λ (b : Result Queue Refusal). record { answer = b; state = r.state }) (told-apart queue_of queue_from queue-undone r.answer q.answer (x.answer ∙ sym y.answer))
      ∙ ap (λ (u : SendChannelUnreliable). record { answer = q.answer; state = u }) (x.state ∙ sym y.state),
  x.small-store ∙ sym y.small-store,
  x.lane-store ∙ sym y.lane-store,
)

pub one-round : (s : SendChannelUnreliable) (g : Given) (out table out₁ table₁ out₂ table₂ : List ℕ) (r q : Round)
    → RoundGives s g out table out₁ table₁ r → RoundGives s g out table out₂ table₂ q → (r ≡ q) × (out₁ ≡ out₂) × (table₁ ≡ table₂)
one-round s g out table out₁ table₁ out₂ table₂ r q x y =
    let a = one-went _ _ _ _ _ out table out₁ table₁ out₂ table₂ r.answer q.answer x.went y.went in (
      ap (λ (b : Result Written Refusal). record { answer = b; state = r.state }) a.0
          ∙ ap (λ (u : SendChannelUnreliable). record { answer = q.answer; state = u }) (x.state ∙ sym y.state),
      a.1,
      a.2,
    )

-- ---- both sides of the line: a message of 1,201 bytes is dropped at an allowance of 1,200, and goes in two pieces at 1,201

pub one-too-long : (go least_settings (starting 1200 0) 1201).items ≡ []
unfolding go
one-too-long = refl

pub just-covered : map (λ (i : Item). i.len) (go least_settings (starting 1201 0) 1201).items ≡ 1200 ∷ 1 ∷ []
unfolding go pieces_from
just-covered = refl

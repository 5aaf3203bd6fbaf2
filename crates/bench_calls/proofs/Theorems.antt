-- Each promise that is a relation admits one outcome. Assumes nothing.
use Prim.Native.Nat.{ℕ, zero, suc}
use mathlib.Core.Path.{◌≡◌, refl, sym, ap, ◌∙◌, subst}
use mathlib.Core.List.{List}
use Rattle.packet_ack.specs.declared.Range.{Range}
use Rattle.pack.specs.Round.{went_of}
use Rattle.send_reliable.specs.declared.SendChannelReliable.{SendChannelReliable}
use Rattle.send_unreliable.specs.Round.{Round, RoundGives}
use Rattle.send_unreliable.specs.declared.SendChannelUnreliable.{SendChannelUnreliable}
use Rattle.bench_calls.specs.Times.{Times, none, more, Left, Held, held, Filled, UsageLeft}
use Rattle.bench_calls.specs.Packets.{used_of, ReadGives}
use Rattle.bench_calls.specs.Ends.{ALLOWANCE, packets_said, SrNew, SrQueues, SrAcks, SrAcksPiece, sr_usage, SrMessages, SrPieces, Sending, sending, SrSends, SrSent, SrRounds, SuNew, SuQueues, SuUsage, SuRound, RrNew, RrHears, RrCollects, RrTakes, rr_usage, RrMessages, RrPieces, RuNew, RuHears, RuCollects, RuTakes, ru_usage, RuMessages, RuPieces}

abbrev One : {S : Type 0} → (S → Type 0) → Type 0
One {S} P = (s t : S) → P s → P t → s ≡ t

abbrev OneStep : {S : Type 0} → (ℕ → S → S → Type 0) → Type 0
OneStep {S} Step = (k : ℕ) (a : S) → One (Step k a)

both : {A : Type 0} {x y z : A} → x ≡ z → y ≡ z → x ≡ y
both p q = p ∙ sym q

-- ---- any calls

module _ {S : Type 0} {Step : ℕ → S → S → Type 0} (one : OneStep Step) where
  times : (n : ℕ) (a b c : S) → Times Step n a b → Times Step n a c → b ≡ c
  times zero a b c none none = refl
  times (suc n) a b c (more {t = d} x y) (more {t = e} z w) = one n d b c y (rw (times n a d e x z) w)

-- two promises of an answer with the same state
left : {R S : Type 0} {P Q : R → Type 0} {state_of : R → S} (t : S) → ((r : R) → P r → state_of r ≡ t) → ((r : R) → Q r → state_of r ≡ t) → {a b : S} → Left P state_of a → Left Q state_of b → a ≡ b
left t p q x y = both (x.state ∙ p x.answer x.gives) (y.state ∙ q y.answer y.gives)

same-held : {S : Type 0} {a b : Held S} → a.state ≡ b.state → a.small ≡ b.small → a.lanes ≡ b.lanes → a ≡ b
same-held p q r i = record { state = p i; small = q i; lanes = r i }

module _ {S : Type 0} {New : S → Type 0} {Fill : ℕ → Held S → Held S → Type 0} (one-new : One New) (one-fill : OneStep Fill) (n : ℕ) (small lanes sm la sm' la' : List ℕ) where
  filled : {s t : S} → Filled New Fill n small lanes sm la s → Filled New Fill n small lanes sm' la' t → held s sm la ≡ held t sm' la'
  filled {s} {t} x y = times one-fill n (held x.new small lanes) (held s sm la) (held t sm' la') x.fills (rw (one-new x.new y.new x.made y.made) y.fills)

  module _ {Drain : ℕ → S → S → Type 0} (one-drain : OneStep Drain) (m : ℕ) (usage : S → ℕ) where
    usage-left : (r q : ℕ) → UsageLeft New Fill n Drain m usage small lanes sm la r → UsageLeft New Fill n Drain m usage small lanes sm' la' q → (r ≡ q) × (sm ≡ sm') × (la ≡ la')
    usage-left r q x y =
        let h = filled x.filled y.filled in
        let full : x.full ≡ y.full = ap (λ (e : Held S). e.state) h in
        let rest = times one-drain m x.full x.rest y.rest x.drained (rw full y.drained) in
        (x.answer ∙ ap usage rest ∙ sym y.answer, ap (λ (e : Held S). e.small) h, ap (λ (e : Held S). e.lanes) h)

-- ---- the calls of the library

sr-new : One SrNew
sr-new s t = left _ (λ r p. p.state) (λ r p. p.state)

su-new : One SuNew
su-new s t = left _ (λ r p. p.state) (λ r p. p.state)

rr-new : One RrNew
rr-new s t = left _ (λ r p. p.state) (λ r p. p.state)

ru-new : One RuNew
ru-new s t = left _ (λ r p. p.state) (λ r p. p.state)

sr-queues : (msg : List ℕ) → OneStep (SrQueues msg)
sr-queues msg k a b c x y =
    same-held (left _ (λ r p. p.state) (λ r p. p.state) x y) (both x.gives.small-store y.gives.small-store) (both x.gives.lane-store y.gives.lane-store)

su-queues : (msg : List ℕ) → OneStep (SuQueues msg)
su-queues msg k a b c x y =
    same-held (left _ (λ r p. p.state) (λ r p. p.state) x y) (both x.gives.small-store y.gives.small-store) (both x.gives.lane-store y.gives.lane-store)

rr-hears : (msg : List ℕ) → OneStep (RrHears msg)
rr-hears msg k a b c x y = same-held (left _ (λ r p. p.state) (λ r p. p.state) x.0 y.0) (both x.0.gives.bytes y.0.gives.bytes) (both x.1 y.1)

ru-hears : (msg : List ℕ) → OneStep (RuHears msg)
ru-hears msg k a b c x y = same-held (left _ (λ r p. p.state) (λ r p. p.state) x.0 y.0) (both x.0.gives.bytes y.0.gives.bytes) (both x.1 y.1)

rr-collects : (n : ℕ) (piece : List ℕ) → OneStep (RrCollects n piece)
rr-collects n piece k a b c x y = same-held (left _ (λ r p. p.state) (λ r p. p.state) x.0 y.0) (both x.1 y.1) (both x.0.gives.bytes y.0.gives.bytes)

ru-collects : (n : ℕ) (piece : List ℕ) → OneStep (RuCollects n piece)
ru-collects n piece k a b c x y = same-held (left _ (λ r p. p.state) (λ r p. p.state) x.0 y.0) (both x.1 y.1) (both x.0.gives.bytes y.0.gives.bytes)

sr-acks : OneStep SrAcks
sr-acks k a b c = left _ (λ r p. p.state) (λ r p. p.state)

sr-acks-piece : OneStep SrAcksPiece
sr-acks-piece k a b c = left _ (λ r p. p.state) (λ r p. p.state)

rr-takes : OneStep RrTakes
rr-takes k a b c = left _ (λ r p. p.state) (λ r p. p.state)

ru-takes : OneStep RuTakes
ru-takes k a b c = left _ (λ r p. p.state) (λ r p. p.state)

sr-sends : (small lanes : List ℕ) → OneStep (SrSends small lanes)
sr-sends small lanes k a b c x y i =
    record {
      state = both (x.state ∙ x.gives.state) (y.state ∙ y.gives.state) i;
      out = both x.gives.went.bytes y.gives.went.bytes i;
      table = both x.gives.went.entries y.gives.went.entries i;
      packets = both (x.packets ∙ ap packets_said x.gives.went.answer) (y.packets ∙ ap packets_said y.gives.went.answer) i;
    }

-- ---- the promises: the same answer, and the same in all memory that was lent

-- of the stores alone
abbrev OneUsage : (List ℕ → List ℕ → List ℕ → List ℕ → ℕ → Type 0) → Type 0
OneUsage P = (small lanes sm la sm' la' : List ℕ) (r q : ℕ) → P small lanes sm la r → P small lanes sm' la' q → (r ≡ q) × (sm ≡ sm') × (la ≡ la')

pub sr-messages : (n m : ℕ) (msg : List ℕ) → OneUsage (SrMessages n m msg)
sr-messages n m msg small lanes sm la sm' la' = usage-left sr-new (sr-queues msg) n small lanes sm la sm' la' sr-acks m sr_usage

pub sr-pieces : (m : ℕ) (msg : List ℕ) → OneUsage (SrPieces m msg)
sr-pieces m msg small lanes sm la sm' la' = usage-left sr-new (sr-queues msg) 1 small lanes sm la sm' la' sr-acks-piece m sr_usage

pub rr-messages : (n m : ℕ) (msg : List ℕ) → OneUsage (RrMessages n m msg)
rr-messages n m msg small lanes sm la sm' la' = usage-left rr-new (rr-hears msg) n small lanes sm la sm' la' rr-takes m rr_usage

pub rr-pieces : (n m : ℕ) (piece : List ℕ) → OneUsage (RrPieces n m piece)
rr-pieces n m piece small lanes sm la sm' la' = usage-left rr-new (rr-collects n piece) n small lanes sm la sm' la' rr-takes m rr_usage

pub ru-messages : (n m : ℕ) (msg : List ℕ) → OneUsage (RuMessages n m msg)
ru-messages n m msg small lanes sm la sm' la' = usage-left ru-new (ru-hears msg) n small lanes sm la sm' la' ru-takes m ru_usage

pub ru-pieces : (n m : ℕ) (piece : List ℕ) → OneUsage (RuPieces n m piece)
ru-pieces n m piece small lanes sm la sm' la' = usage-left ru-new (ru-collects n piece) n small lanes sm la sm' la' ru-takes m ru_usage

pub su-messages : (n : ℕ) (msg : List ℕ) → OneUsage (SuUsage n msg)
su-messages n msg small lanes sm la sm' la' r q x y =
    let h = filled su-new (su-queues msg) n small lanes sm la sm' la' x.filled y.filled in (
      x.answer ∙ ap (λ (e : Held SendChannelUnreliable). e.state.memory_usage_bytes) h ∙ sym y.answer,
      ap (λ (e : Held SendChannelUnreliable). e.small) h,
      ap (λ (e : Held SendChannelUnreliable). e.lanes) h,
    )

-- and of what the rounds write to
abbrev OneRound : (List ℕ → List ℕ → List ℕ → List ℕ → List ℕ → List ℕ → List ℕ → List ℕ → ℕ → Type 0) → Type 0
OneRound P =
    (small lanes out table sm la ou ta sm' la' ou' ta' : List ℕ) (r q : ℕ)
    → P small lanes out table sm la ou ta r → P small lanes out table sm' la' ou' ta' q
    → (r ≡ q) × (sm ≡ sm') × (la ≡ la') × (ou ≡ ou') × (ta ≡ ta')

pub sr-round : (n rounds : ℕ) (msg : List ℕ) → OneRound (SrRounds n rounds msg)
sr-round n rounds msg small lanes out table sm la ou ta sm' la' ou' ta' r q x y =
    let h = filled sr-new (sr-queues msg) n small lanes sm la sm' la' x.filled y.filled in
    let z : SrSent sm la rounds x.full out table ou' ta' q = subst (λ (e : Held SendChannelReliable). SrSent e.small e.lanes rounds e.state out table ou' ta' q) (sym h) y.sends in
    let e = times (sr-sends sm la) rounds (sending x.full out table 0) (sending x.sends.rest ou ta r) (sending z.rest ou' ta' q) x.sends.rounds-sent z.rounds-sent in
    (ap (λ (e : Sending). e.packets) e, ap (λ (e : Held SendChannelReliable). e.small) h, ap (λ (e : Held SendChannelReliable). e.lanes) h, ap (λ (e : Sending). e.out) e, ap (λ (e : Sending). e.table) e)

abbrev Rounded : List ℕ → List ℕ → List ℕ → List ℕ → ℕ → Held SendChannelUnreliable → Type 0
Rounded out table ou ta r e = (o : Round) × RoundGives e.state (record { seq = 0; allowance = ALLOWANCE; small = e.small; lanes = e.lanes }) out table ou ta o × (r ≡ packets_said (went_of o.answer))

pub su-round : (n : ℕ) (msg : List ℕ) → OneRound (SuRound n msg)
su-round n msg small lanes out table sm la ou ta sm' la' ou' ta' r q x y =
    let h = filled su-new (su-queues msg) n small lanes sm la sm' la' x.filled y.filled in
    let z = subst (Rounded out table ou' ta' q) (sym h) (y.round, y.gives, y.answer) in (
      both (x.answer ∙ ap packets_said x.gives.went.answer) (z.2 ∙ ap packets_said z.1.went.answer),
      ap (λ (e : Held SendChannelUnreliable). e.small) h,
      ap (λ (e : Held SendChannelUnreliable). e.lanes) h,
      both x.gives.went.bytes z.1.went.bytes,
      both x.gives.went.entries z.1.went.entries,
    )

pub read : (bs ms : List ℕ) (rs : List Range) (m m' : List ℕ) (t t' : List Range) (r q : ℕ)
    → ReadGives bs ms rs m t r → ReadGives bs ms rs m' t' q → (r ≡ q) × (m ≡ m') × (t ≡ t')
read bs ms rs m m' t t' r q x y =
    (both (x.answer ∙ ap used_of x.gives.answer) (y.answer ∙ ap used_of y.gives.answer), both x.gives.messages y.gives.messages, both x.gives.ranges y.gives.ranges)

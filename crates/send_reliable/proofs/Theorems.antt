-- What follows from the promises of queueing and acknowledging: what the usage is, that each call has one outcome only, that a refusal and an
-- unknown id change nothing, where a queued message waits, and that an acknowledged one is gone. Assumes nothing.
use Prim.Native.Nat.{ℕ, ◌+◌, ◌*◌, ◌≤◌, ◌<◌}
use mathlib.Core.Path.{◌≡◌, refl, sym, ap, ◌∙◌}
use mathlib.Core.Bool.{Bool, false}
use mathlib.Core.List.{List, [], ◌∷◌, ◌++◌}
use native.Mathlib.Omega.{arith}
use borrow.Author.Tests.{lt-ltb, le-ltb, lt-leb, eq-eqb, ne_eqb}
use lib.Dec.{ltb, leb, eqb}
use lib.ListN.{length, get_or, set, take, drop}
use lib.Seq.{get_or-set_same}
use Rattle.words.specs.Sizes.{SLICE_SIZE, LIMIT}
use Rattle.words.specs.Pieces.{pieces_of}
use Rattle.words.specs.Lists.{total, splice, without, All, Pairs}
use Rattle.words.proofs.Lists.{all_map, all_others, first-is}
use Rattle.words.proofs.Tables.{clash, pick-cases, part-here}
use Rattle.words.proofs.Unique.{told-apart, refusal_of, refusal-undone}
use Rattle.channel.specs.Settings.{lane_len_of}
use Rattle.channel.specs.declared.Settings.{Settings}
use Rattle.channel.proofs.Unique.{one-setup}
use Rattle.channel.proofs.Good.{lane-within}
use Rattle.send_reliable.specs.declared.Kind.{Kind}
use Rattle.send_reliable.specs.declared.Kind.TheVariants.{Small, Sliced}
use Rattle.send_reliable.specs.declared.Row.{Row}
use Rattle.send_reliable.specs.declared.Piece.{Piece}
use Rattle.send_reliable.specs.declared.SendChannelReliable.{SendChannelReliable}
use Rattle.send_reliable.specs.declared.Ack.{Ack}
use Rattle.send_reliable.specs.declared.Ack.TheVariants as ack
use Rattle.std.specs.Prelude.{Some, Result, Ok, Err}
use Rattle.words.specs.declared.MessageId.{MessageId}
use Rattle.words.specs.declared.Refusal.{Refusal}
use Rattle.send_reliable.specs.Sender.{Sending, unsent, kind_of, as_row, no_row, live, piece_at, Placed, Before, Valid, Made, MadeGives}
use Rattle.send_reliable.specs.Queue as q
use Rattle.send_reliable.specs.Ack as a
use Rattle.send_reliable.specs.QueueSteps.{RowFits, found_of, RowAt}
use Rattle.words.proofs.Entries.{first-miss, pairs-map, pairs-at}
use Rattle.send_reliable.proofs.Valid.{live-long, live_more, in-live, live_at, row-placed, row-used, cell-low, lane_low, live-fewer, without-small-valid, without-sliced-valid}
use Rattle.send_reliable.proofs.Queueing.{spot-cell, spot-lane, cell-fits, lane-fits}
use Rattle.send_reliable.proofs.Acking.{row-found, piece-last}

-- ---- the usage, and the ids

module _ (s : SendChannelReliable) (v : Valid s) where
  -- the whole length of every unacknowledged message
  pub usage-is : s.memory_usage_bytes ≡ total (λ (r : Row). r.len) (live s)
  usage-is = v.usage

  -- never above the maximum, and what is left is available
  pub usage-within : s.memory_usage_bytes ≤ s.settings.max_memory_usage_bytes
  usage-within = v.usage-most

  pub memory-shared : s.memory_usage_bytes + q.available_memory_of s ≡ s.settings.max_memory_usage_bytes
  memory-shared = omega (arith, v.usage-most)

  -- ids rise, and all are below the next one
  pub ids-rise : Pairs (λ (x y : Row). x.id.0 < y.id.0) (live s)
  unfolding Before
  ids-rise = pairs-map Before (λ x y. x.id.0 < y.id.0) (λ x y b. b.0) (live s) v.rising

  pub ids-below : All (λ (r : Row). r.id.0 < s.next_reliable_message_id) (live s)
  unfolding Placed
  ids-below = all_map (Placed s) (λ r. r.id.0 < s.next_reliable_message_id) (λ r p. p.0) (live s) v.placed

-- ---- one outcome only

pub one-made : (channel : ℕ) (s : Settings) (resend : ℕ) (r p : Made) → MadeGives channel s resend r → MadeGives channel s resend p → r ≡ p
one-made channel s resend r p x y =
    ap (λ (b : Result (Unit {0}) Refusal). record { answer = b; state = r.state }) (one-setup r.answer p.answer (x.number ∙ sym y.number))
    ∙ ap (λ (t : SendChannelReliable). record { answer = p.answer; state = t }) (x.state ∙ sym y.state)

abbrev queue_from : q.Outcome → Result MessageId Refusal
queue_from (q.taken n) = Ok (record { 0 = n })
queue_from (q.refusing n) = Err (refusal_of n)

queue-undone : (b : Result MessageId Refusal) → queue_from (q.queue_of b) ≡ b
queue-undone (Ok id) = refl
queue-undone (Err e) = ap Err (refusal-undone e)

pub one-queue : (s : SendChannelReliable) (msg small lanes small₁ lanes₁ small₂ lanes₂ : List ℕ) (r p : q.Queued)
    → q.QueueGives s msg small lanes small₁ lanes₁ r → q.QueueGives s msg small lanes small₂ lanes₂ p → (r ≡ p) × (small₁ ≡ small₂) × (lanes₁ ≡ lanes₂)
one-queue s msg small lanes small₁ lanes₁ small₂ lanes₂ r p x y = (
  ap (λ (b : Result MessageId Refusal). record { answer = b; state = r.state }) (told-apart q.queue_of queue_from queue-undone r.answer p.answer (x.answer ∙ sym y.answer))
      ∙ ap (λ (t : SendChannelReliable). record { answer = p.answer; state = t }) (x.state ∙ sym y.state),
  x.small-store ∙ sym y.small-store,
  x.lane-store ∙ sym y.lane-store,
)

abbrev ack_from : a.Outcome → Result Ack Refusal
ack_from a.done = Ok ack.Done
ack_from a.unknown = Ok ack.Unknown
ack_from (a.refused n) = Err (refusal_of n)

ack-undone : (b : Result Ack Refusal) → ack_from (a.ack_of b) ≡ b
ack-undone (Ok ack.Done) = refl
ack-undone (Ok ack.Unknown) = refl
ack-undone (Err e) = ap Err (refusal-undone e)

pub one-ack : (z : a.After) (r p : a.Acked) → a.AckGives z r → a.AckGives z p → r ≡ p
one-ack z r p x y =
    ap (λ (b : Result Ack Refusal). record { answer = b; state = r.state }) (told-apart a.ack_of ack_from ack-undone r.answer p.answer (x.answer ∙ sym y.answer))
    ∙ ap (λ (t : SendChannelReliable). record { answer = p.answer; state = t }) (x.state ∙ sym y.state)

-- ---- a refusal, and an unknown id, change no state and no byte

module _ (s : SendChannelReliable) where
  spot-kept : (spot : q.Spot) (n : ℕ) (msg small lanes : List ℕ) → q.answer_at s spot ≡ q.refusing n
      → (q.state_at s (length msg) spot ≡ s) × (q.small_at_of spot msg small ≡ small) × (q.lanes_at s spot msg lanes ≡ lanes)
  spot-kept (q.cell i) n msg small lanes e = clash (cc)
  spot-kept (q.lane l) n msg small lanes e = clash (cc)
  spot-kept (q.refused m) n msg small lanes e = (refl, refl, refl)

  pub refused-queue-keeps : (n : ℕ) (msg small lanes small' lanes' : List ℕ) (r : q.Queued) → q.QueueGives s msg small lanes small' lanes' r
      → q.queue_of r.answer ≡ q.refusing n → (r.state ≡ s) × (small' ≡ small) × (lanes' ≡ lanes)
  refused-queue-keeps n msg small lanes small' lanes' r g e =
      let k = spot-kept (q.spot_of s (length msg) (length small) (length lanes)) n msg small lanes (sym g.answer ∙ e) in
      (g.state ∙ k.0, g.small-store ∙ k.1, g.lane-store ∙ k.2)

  -- all but `done` leave the state
  Leaves : a.After → Type 0
  Leaves z = (z.answer ≡ a.done → ⊥) → z.state ≡ s

  row-leaves : (x : ℕ) (f : ℕ → Row → a.After) → ((k : ℕ) (r : Row) → Leaves (f k r)) → Leaves (a.ack_row s x f)
  unfolding a.ack_row Leaves
  row-leaves x f h =
      pick-cases Leaves (leb LIMIT x) (λ _ _. refl)
      (λ _. pick-cases Leaves (ltb (a.row_of s x) s.count) (λ _. h (a.row_of s x) (get_or s.rows (a.row_of s x) no_row)) (λ _ _. refl))

  small-leaves : (k : ℕ) (r : Row) (kind : Kind) → Leaves (a.small_kind s k r kind)
  unfolding Leaves
  small-leaves k r (Small i t) n = absurd (n refl)
  small-leaves k r (Sliced l b next) n = refl

  piece-leaves : (k i : ℕ) (r : Row) (kind : Kind) → Leaves (a.piece_kind_of s k i r kind)
  unfolding Leaves
  piece-leaves k i r (Small j t) = λ _. refl
  piece-leaves k i r (Sliced l b next) = pick-cases Leaves (leb (pieces_of r.len) i) (λ _ _. refl) (λ _ n. absurd (n refl))

  pub undone-ack-keeps : (x : ℕ) (r : a.Acked) → a.AckGives (a.ack_small s x) r → (a.ack_of r.answer ≡ a.done → ⊥) → r.state ≡ s
  unfolding a.ack_small Leaves
  undone-ack-keeps x r g n = g.state ∙ row-leaves x (λ k w. a.small_kind s k w (kind_of w)) (λ k w. small-leaves k w (kind_of w)) (λ e. n (g.answer ∙ e))

  pub undone-piece-keeps : (x i : ℕ) (r : a.Acked) → a.AckGives (a.ack_piece s x i) r → (a.ack_of r.answer ≡ a.done → ⊥) → r.state ≡ s
  unfolding a.ack_piece Leaves
  undone-piece-keeps x i r g n = g.state ∙ row-leaves x (λ k w. a.piece_kind_of s k i w (kind_of w)) (λ k w. piece-leaves k i w (kind_of w)) (λ e. n (g.answer ∙ e))

-- ---- a queued message waits in the last row, under the next id

-- t is s with a message of n bytes more
pub record Added (s : SendChannelReliable) (n : ℕ) (t : SendChannelReliable) : Type 0 where
  pub kind : Kind
  pub rows : live t ≡ live s ++ (as_row (record { 0 = s.next_reliable_message_id }) n kind ∷ [])
  pub next : t.next_reliable_message_id ≡ s.next_reliable_message_id + 1
  pub usage : t.memory_usage_bytes ≡ s.memory_usage_bytes + n

added : (s : SendChannelReliable) → Valid s → (n : ℕ) → RowFits s n → (kind : Kind) (cells lanes : List Bool) (pieces : List Piece) → Added s n (q.add_row_of s n kind cells lanes pieces)
added s v n f kind cells lanes pieces = record { kind = kind; rows = live_more s v f.low n kind cells lanes pieces; next = refl; usage = refl }

module _ (s : SendChannelReliable) (v : Valid s) (msg small lanes : List ℕ) where
  spot-added : (spot : q.Spot) → q.spot_of s (length msg) (length small) (length lanes) ≡ spot → (id : ℕ) → q.answer_at s spot ≡ q.taken id
      → (id ≡ s.next_reliable_message_id) × Added s (length msg) (q.state_at s (length msg) spot)
  unfolding q.add_small q.add_sliced
  spot-added (q.cell i) h id e =
      (cc, added s v (length msg) (cell-fits s v (length msg) i (spot-cell s v (length msg) (length small) (length lanes) i h).0) (Small i unsent) _ _ _)
  spot-added (q.lane l) h id e =
      (cc, added s v (length msg) (lane-fits s v (length msg) l (spot-lane s v (length msg) (length small) (length lanes) l h).0) (Sliced l 0 0) _ _ _)
  spot-added (q.refused n) h id e = clash (cc)

  pub queued-last : (id : ℕ) (small' lanes' : List ℕ) (r : q.Queued) → q.QueueGives s msg small lanes small' lanes' r → q.queue_of r.answer ≡ q.taken id
      → (id ≡ s.next_reliable_message_id) × Added s (length msg) r.state
  queued-last id small' lanes' r g e =
      let k = spot-added (q.spot_of s (length msg) (length small) (length lanes)) refl id (sym g.answer ∙ e) in
      (k.0, rw g.state k.1)

  -- its bytes stand at the front of its cell, or of its lane
  pub queued-in-cell : (i : ℕ) → q.spot_of s (length msg) (length small) (length lanes) ≡ q.cell i → (small' lanes' : List ℕ) (r : q.Queued)
      → q.QueueGives s msg small lanes small' lanes' r → take (length msg) (drop (i * SLICE_SIZE) small') ≡ msg
  queued-in-cell i h small' lanes' r g =
      let p = spot-cell s v (length msg) (length small) (length lanes) i h in
      let e : small' ≡ splice (i * SLICE_SIZE) msg small = rw h at g.small-store in
      rw e (part-here (i * SLICE_SIZE) msg small (omega (arith, p.0.low, p.0.short, p.1)))

  pub queued-in-lane : (l : ℕ) → q.spot_of s (length msg) (length small) (length lanes) ≡ q.lane l → (small' lanes' : List ℕ) (r : q.Queued)
      → q.QueueGives s msg small lanes small' lanes' r → take (length msg) (drop (l * lane_len_of s.settings) lanes') ≡ msg
  queued-in-lane l h small' lanes' r g =
      let p = spot-lane s v (length msg) (length small) (length lanes) l h in
      let e : lanes' ≡ splice (l * lane_len_of s.settings) msg lanes = rw h at g.lane-store in
      rw e (part-here (l * lane_len_of s.settings) msg lanes (omega (arith, lane-within s.settings l p.0.low, p.0.limit, p.1)))

-- ---- a message whose last acknowledgement comes is gone

lower-other : (x y : ℕ) → x < y → eqb x y ≡ false
lower-other x y h = ne_eqb x y (λ (e : x ≡ y). omega arith)

higher-other : (x y : ℕ) → y < x → eqb x y ≡ false
higher-other x y h = ne_eqb x y (λ (e : x ≡ y). omega arith)

module _ (s : SendChannelReliable) (v : Valid s) (k : ℕ) (r : Row) (at : RowAt s k r) where
  id-low : r.id.0 < LIMIT
  unfolding Placed
  id-low = omega (arith, (row-placed s v k r at).0, v.next-most)

  -- it is found by its id
  pub found-by-id : found_of s r.id.0 ≡ Some (k, r)
  unfolding found_of Before
  found-by-id =
      let x : ℕ = r.id.0 in
      let i = in-live s v k r at in
      let here = live_at s v k r at in
      let e : a.row_of s x ≡ k =
      first-is (a.has_id x) no_row (live s) k i
      (λ j h. lower-other (get_or (live s) j no_row).id.0 x (rw here at (pairs-at Before (live s) j k no_row h i v.rising).0))
      (rw here (eq-eqb x x refl)) in
      rw (e, lt-ltb _ _ i, here)

  -- t is s without it: its memory is given back, and its id is unknown
  pub record Gone (t : SendChannelReliable) : Type 0 where
    pub rows : live t ≡ without k (live s)
    pub usage : t.memory_usage_bytes + r.len ≡ s.memory_usage_bytes
    pub unknown : (f : ℕ → Row → a.After) → a.ack_row t r.id.0 f ≡ a.after a.unknown t

  is-gone : (cells lanes : List Bool) → Valid (a.without s k r.len cells lanes) → Gone (a.without s k r.len cells lanes)
  unfolding Before a.ack_row
  is-gone cells lanes w =
      let t : SendChannelReliable = a.without s k r.len cells lanes in
      let x : ℕ = r.id.0 in
      let here = live_at s v k r at in
      let fewer = live-fewer s v k r at cells lanes in
      let others : All (λ (y : Row). a.has_id x y ≡ false) (without k (live s)) =
      all_others Before (Placed s) (λ y. a.has_id x y ≡ false) (live s) k no_row (in-live s v k r at) v.rising
      (λ y _ b. lower-other y.id.0 x (rw here at b.0))
      (λ y _ b. higher-other y.id.0 x (rw here at b.0))
      v.placed in
      let past : a.row_of t x ≡ t.count = first-miss (a.has_id x) (live t) (rw fewer others) ∙ live-long t w in
      record {
        rows = fewer;
        usage = omega (arith, row-used s v k r at);
        unknown = λ f. rw (lt-leb _ _ id-low, le-ltb (a.row_of t x) t.count (omega arith));
      }

  -- the ack of a small message frees its cell
  pub small-gone : (i : ℕ) (u : Sending) → kind_of r ≡ Small i u → (p : a.Acked) → a.AckGives (a.ack_small s r.id.0) p
      → (a.ack_of p.answer ≡ a.done) × (get_or p.state.cells i false ≡ false) × Gone p.state
  unfolding a.ack_small
  small-gone i u e p g =
      let t : SendChannelReliable = a.without s k r.len (set s.cells i false) s.lanes in
      let z : a.ack_small s r.id.0 ≡ a.after a.done t = row-found s v r.id.0 id-low _ k r found-by-id ∙ rw e in
      let es : p.state ≡ t = g.state ∙ ap (λ (w : a.After). w.state) z in (
        g.answer ∙ ap (λ (w : a.After). w.answer) z,
        rw es (get_or-set_same s.cells i false false (omega (arith, cell-low s v k r at i u e, v.cells-long))),
        rw es (is-gone (set s.cells i false) s.lanes (without-small-valid s v k r at i u e)),
      )

  -- the ack of the last piece of a sliced one frees its lane
  pub sliced-gone : (i l b next : ℕ) → kind_of r ≡ Sliced l b next → i < pieces_of r.len → (piece_at s l i).acked ≡ false → b + 1 ≡ pieces_of r.len
      → (p : a.Acked) → a.AckGives (a.ack_piece s r.id.0 i) p
      → (a.ack_of p.answer ≡ a.done) × (get_or p.state.lanes l false ≡ false) × Gone p.state
  unfolding a.ack_piece
  sliced-gone i l b next e low new last p g =
      let t : SendChannelReliable = a.without s k r.len s.cells (set s.lanes l false) in
      let z : a.ack_piece s r.id.0 i ≡ a.after a.done (a.with_ack s k i r l b next) = row-found s v r.id.0 id-low _ k r found-by-id ∙ rw (e, lt-leb _ _ low) in
      let es : p.state ≡ t = g.state ∙ ap (λ (w : a.After). w.state) z ∙ sym (piece-last s v k r at l b next e i new last) in (
        g.answer ∙ ap (λ (w : a.After). w.answer) z,
        rw es (get_or-set_same s.lanes l false false (omega (arith, lane_low s v k r at l b next e, v.lanes-long))),
        rw es (is-gone s.cells (set s.lanes l false) (without-sliced-valid s v k r at l b next e)),
      )

-- What a set-up gives, where a message that is queued goes, and what queueing gives. Assumes nothing.
use Prim.Native.Nat.{ℕ, ◌+◌, ◌-◌, ◌*◌, ◌≤◌, ◌<◌}
use mathlib.Core.Path.{◌≡◌, refl, sym, ap, ◌∙◌}
use mathlib.Core.Bool.{Bool, true, false, not}
use mathlib.Core.List.{List, [], ◌∷◌}
use native.Mathlib.Omega.{arith}
use borrow.Author.Tests.{ltb-true, ltb-false, leb-true, leb-false, eqb-true, not-true, not-false, lt-ltb, le-ltb, le-leb, lt-leb}
use lib.Dec.{ltb, leb, eqb}
use lib.ListN.{length, get_or, set, drop, replicate, length-drop, length-replicate}
use lib.Seq.{length-take-le}
use borrow.Rule.Slice.PartMut.{mid_of, put_mid}
use Rattle.words.specs.Sizes.{SLICE_SIZE, PIECES, LIMIT}
use Rattle.words.specs.Choice.{pick}
use Rattle.words.specs.Pieces.{pieces_of}
use Rattle.words.specs.Lists.{splice, lowest_free_of, All}
use Rattle.words.specs.Refusal.{number_of}
use Rattle.words.specs.declared.Refusal.{Refusal}
use Rattle.words.proofs.Lists.{holds-le, holds-lt, hit-below, none-refused}
use Rattle.words.proofs.Splice.{put_mid-splice}
use Rattle.words.proofs.Tables.{clash}
use Rattle.channel.specs.Settings.{setup_number, SettledGives, small_len_of, lane_len_of, lanes_len_of, stores_hold_of}
use Rattle.channel.specs.declared.Settings.{Settings}
use Rattle.channel.specs.declared.Settled.{Settled}
use Rattle.channel.proofs.Good.{stores-room}
use Rattle.std.specs.Prelude.{Ok, Err}
use Rattle.words.proofs.Unique.{numbered-above}
use Rattle.send_reliable.specs.declared.Kind.{Kind}
use Rattle.send_reliable.specs.declared.Kind.TheVariants.{Small, Sliced}
use Rattle.send_reliable.specs.declared.Row.{Row}
use Rattle.send_reliable.specs.declared.Piece.{Piece}
use Rattle.send_reliable.specs.declared.SendChannelReliable.{SendChannelReliable}
use Rattle.send_reliable.specs.Sender.{ROWS, unsent, as_row, no_piece, new_of, Valid, MadeGives}
use Rattle.send_reliable.specs.Queue.{queue_refusal, cell, lane, refused, free_spot, spot_of, add_row_of, add_small, add_sliced, QueueGives}
use Rattle.send_reliable.specs.QueueSteps.{Narrow, RowFits}
use Rattle.send_reliable.proofs.Valid.{new-valid, CellFree, LaneFree, add-small-valid, add-sliced-valid}

-- ---- a new sender

module _ (channel : ℕ) (s : Settings) (resend : ℕ) (d : Settled) (g : SettledGives s d) (t : SendChannelReliable) where
  pub made-ready : d.answer ≡ Ok tt → t ≡ new_of channel d.settings resend → MadeGives channel s resend (record { answer = Ok tt; state = t })
  made-ready e et =
      let z = sym g.number ∙ ap setup_number e in
      let k = rw z at g.settings in
      record { number = sym z; state = rw z (et ∙ ap (λ (x : Settings). new_of channel x resend) k); valid = rw et (new-valid channel d.settings resend g.good) }

  pub made-refused : (e : Refusal) → d.answer ≡ Err e → t ≡ new_of 0 d.settings 0 → MadeGives channel s resend (record { answer = Err e; state = t })
  made-refused e h et =
      let z = sym g.number ∙ ap setup_number h in
      let k = rw (z, numbered-above e) at g.settings in
      record { number = sym z; state = rw (z, numbered-above e) (et ∙ ap (λ (x : Settings). new_of 0 x 0) k); valid = rw et (new-valid 0 d.settings 0 g.good) }

-- ---- where a message goes, by the tests that led there

module _ (s : SendChannelReliable) (n small lanes : ℕ) where
  pub bad-store : stores_hold_of s.settings small lanes ≡ false → refused 10 ≡ spot_of s n small lanes
  unfolding spot_of queue_refusal
  bad-store h = rw h

  module _ (h : stores_hold_of s.settings small lanes ≡ true) where
    pub no_number : LIMIT ≤ s.next_reliable_message_id → refused 13 ≡ spot_of s n small lanes
    unfolding spot_of queue_refusal
    no_number m = rw (h, le-leb _ _ m)

    module _ (ids : s.next_reliable_message_id < LIMIT) where
      pub too_long : s.settings.pieces * SLICE_SIZE < n → refused 12 ≡ spot_of s n small lanes
      unfolding spot_of queue_refusal
      too_long m = rw (h, lt-leb _ _ ids, lt-ltb _ _ m)

      module _ (limit : n ≤ s.settings.pieces * SLICE_SIZE) where
        pub no-memory : s.settings.max_memory_usage_bytes < s.memory_usage_bytes + n → refused 7 ≡ spot_of s n small lanes
        unfolding spot_of queue_refusal
        no-memory m = rw (h, lt-leb _ _ ids, le-ltb _ _ limit, lt-ltb _ _ m)

        pub goes : s.memory_usage_bytes + n ≤ s.settings.max_memory_usage_bytes → free_spot s n ≡ spot_of s n small lanes
        unfolding spot_of queue_refusal
        goes m = rw (h, lt-leb _ _ ids, le-ltb _ _ limit, le-ltb _ _ m)

-- ---- what is so where it goes to a cell or a lane

cell-tests : (t u v w : Bool) (i l j k : ℕ)
    → pick t (pick u (pick v (cell i) (refused 11)) (pick w (lane l) (refused 11))) (refused j) ≡ cell k
    → (t ≡ true) × (u ≡ true) × (v ≡ true) × (i ≡ k)
cell-tests true true true w i l j k e = (refl, refl, refl, cc)
cell-tests true true false w i l j k e = clash (cc)
cell-tests true false v true i l j k e = clash (cc)
cell-tests true false v false i l j k e = clash (cc)
cell-tests false u v w i l j k e = clash (cc)

lane-tests : (t u v w : Bool) (i l j k : ℕ)
    → pick t (pick u (pick v (cell i) (refused 11)) (pick w (lane l) (refused 11))) (refused j) ≡ lane k
    → (t ≡ true) × (u ≡ false) × (w ≡ true) × (l ≡ k)
lane-tests true true true w i l j k e = clash (cc)
lane-tests true true false w i l j k e = clash (cc)
lane-tests true false v true i l j k e = (refl, refl, refl, cc)
lane-tests true false v false i l j k e = clash (cc)
lane-tests false u v w i l j k e = clash (cc)

module _ (s : SendChannelReliable) (v : Valid s) (n small lanes : ℕ) where
  -- no refusal: the stores hold it, there is an id for it, it is not too long, and there is memory
  judged : queue_refusal s n small lanes ≡ 0
      → (stores_hold_of s.settings small lanes ≡ true)
      × (s.next_reliable_message_id < LIMIT)
      × (n ≤ s.settings.pieces * SLICE_SIZE)
      × (s.memory_usage_bytes + n ≤ s.settings.max_memory_usage_bytes)
  unfolding queue_refusal All
  judged e =
      let a =
      none-refused (
      (not (stores_hold_of s.settings small lanes), 10) ∷
      (leb LIMIT s.next_reliable_message_id, 13) ∷
      (ltb (s.settings.pieces * SLICE_SIZE) n, 12) ∷
      (ltb s.settings.max_memory_usage_bytes (s.memory_usage_bytes + n), 7) ∷ []
      )
      refl e in
      (not-false _ a.0, leb-false _ _ a.1.0, ltb-false _ _ a.1.1.0, ltb-false _ _ a.1.1.1.0)

  -- the lowest free one is free
  low_free : (held : List Bool) (m : ℕ) → m ≤ length held → ltb (lowest_free_of held m) m ≡ true → get_or held (lowest_free_of held m) false ≡ false
  low_free held m h e = not-true _ (hit-below not false held m h (ltb-true _ _ e))

  pub spot-cell : (k : ℕ) → spot_of s n small lanes ≡ cell k → CellFree s n k × (small_len_of s.settings ≤ small)
  unfolding spot_of free_spot
  spot-cell k e =
      let i : ℕ = lowest_free_of s.cells s.settings.slots in
      let l : ℕ = lowest_free_of s.lanes s.settings.lanes in
      let t = cell-tests (eqb (queue_refusal s n small lanes) 0) (leb n SLICE_SIZE) (ltb i s.settings.slots) (ltb l s.settings.lanes) i l (queue_refusal s n small lanes) k e in
      let a = judged (eqb-true _ _ t.0) in (
        record {
          ids = a.1;
          memory = a.3;
          short = leb-true _ _ t.1;
          low = rw (← t.3) (ltb-true _ _ t.2);
          free = rw (← t.3) (low_free s.cells s.settings.slots (omega (arith, v.settings.slots-most, v.cells-long)) t.2);
        },
        (stores-room s.settings small lanes a.0).0,
      )

  pub spot-lane : (k : ℕ) → spot_of s n small lanes ≡ lane k → LaneFree s n k × (lanes_len_of s.settings ≤ lanes)
  unfolding spot_of free_spot
  spot-lane k e =
      let i : ℕ = lowest_free_of s.cells s.settings.slots in
      let l : ℕ = lowest_free_of s.lanes s.settings.lanes in
      let t = lane-tests (eqb (queue_refusal s n small lanes) 0) (leb n SLICE_SIZE) (ltb i s.settings.slots) (ltb l s.settings.lanes) i l (queue_refusal s n small lanes) k e in
      let a = judged (eqb-true _ _ t.0) in (
        record {
          ids = a.1;
          memory = a.3;
          long = leb-false _ _ t.1;
          limit = a.2;
          low = rw (← t.3) (ltb-true _ _ t.2);
          free = rw (← t.3) (low_free s.lanes s.settings.lanes (omega (arith, v.settings.lanes-most, v.lanes-long)) t.2);
        },
        (stores-room s.settings small lanes a.0).1,
      )

-- there is a row for it
module _ (s : SendChannelReliable) (v : Valid s) (n : ℕ) where
  pub cell-fits : (i : ℕ) → CellFree s n i → RowFits s n
  cell-fits i c =
      let f = holds-lt s.cells i (omega (arith, c.low, v.settings.slots-most, v.cells-long)) c.free in
      record { low = omega (arith, f, holds-le s.lanes, v.counted, v.cells-long, v.lanes-long); ids = c.ids; memory = omega (arith, c.memory, v.settings.max-most) }

  pub lane-fits : (l : ℕ) → LaneFree s n l → RowFits s n
  lane-fits l c =
      let f = holds-lt s.lanes l (omega (arith, c.low, v.settings.lanes-most, v.lanes-long)) c.free in
      record { low = omega (arith, f, holds-le s.cells, v.counted, v.cells-long, v.lanes-long); ids = c.ids; memory = omega (arith, c.memory, v.settings.max-most) }

-- ---- what queueing gives

module _ (s : SendChannelReliable) (v : Valid s) (msg small lanes : List ℕ) where
  pub queue-left : (e : Refusal) → spot_of s (length msg) (length small) (length lanes) ≡ refused (number_of e)
      → QueueGives s msg small lanes small lanes (record { answer = Err e; state = s })
  queue-left e h = record { answer = rw h; state = rw h; small-store = rw h; lane-store = rw h; valid = v }

  module _ (t : SendChannelReliable) (store : List ℕ) where
    pub queue-small : (i : ℕ) → spot_of s (length msg) (length small) (length lanes) ≡ cell i → store ≡ splice (i * SLICE_SIZE) msg small
        → t ≡ add_small s i (length msg)
        → QueueGives s msg small lanes store lanes (record { answer = Ok (record { 0 = s.next_reliable_message_id }); state = t })
    queue-small i h eb et =
        record {
          answer = rw h;
          state = rw h et;
          small-store = rw h eb;
          lane-store = rw h;
          valid = rw et (add-small-valid s v (length msg) i (spot-cell s v (length msg) (length small) (length lanes) i h).0);
        }

    pub queue-sliced : (l : ℕ) → spot_of s (length msg) (length small) (length lanes) ≡ lane l → store ≡ splice (l * lane_len_of s.settings) msg lanes
        → t ≡ add_sliced s l (length msg)
        → QueueGives s msg small lanes small store (record { answer = Ok (record { 0 = s.next_reliable_message_id }); state = t })
    queue-sliced l h eb et =
        record {
          answer = rw h;
          state = rw h et;
          small-store = rw h;
          lane-store = rw h eb;
          valid = rw et (add-sliced-valid s v (length msg) l (spot-lane s v (length msg) (length small) (length lanes) l h).0);
        }

-- ---- once a message's place is taken, and its row is not put yet

-- t with a row more, of a message of n bytes
abbrev pub with_row : SendChannelReliable → ℕ → Row → SendChannelReliable
with_row t n row =
    record {
      channel_id = t.channel_id;
      settings = t.settings;
      resend_time = t.resend_time;
      next_reliable_message_id = t.next_reliable_message_id + 1;
      memory_usage_bytes = t.memory_usage_bytes + n;
      latest = t.latest;
      count = t.count + 1;
      rows = set t.rows t.count row;
      cells = t.cells;
      lanes = t.lanes;
      pieces = t.pieces;
    }

-- t is s with these cells, lanes and pieces
abbrev pub with_places : SendChannelReliable → List Bool → List Bool → List Piece → SendChannelReliable
with_places s cells lanes pieces =
    record {
      channel_id = s.channel_id;
      settings = s.settings;
      resend_time = s.resend_time;
      next_reliable_message_id = s.next_reliable_message_id;
      memory_usage_bytes = s.memory_usage_bytes;
      latest = s.latest;
      count = s.count;
      rows = s.rows;
      cells = cells;
      lanes = lanes;
      pieces = pieces;
    }

-- in t and in the stores everything but the row of the message is as queueing gives it
pub record PutFor (s : SendChannelReliable) (msg small lanes : List ℕ) (t : SendChannelReliable) (kind : Kind) (small' lanes' : List ℕ) : Type 0 where
  pub narrow : Narrow (length msg) kind
  pub low : t.count < ROWS
  pub gives : (row : Row) → row ≡ as_row (record { 0 = s.next_reliable_message_id }) (length msg) kind
      → QueueGives s msg small lanes small' lanes' (record { answer = Ok (record { 0 = s.next_reliable_message_id }); state = with_row t (length msg) row })

module _ (s : SendChannelReliable) (v : Valid s) (msg small lanes store : List ℕ) where
  pub put-cell : (i : ℕ) → spot_of s (length msg) (length small) (length lanes) ≡ cell i → store ≡ splice (i * SLICE_SIZE) msg small
      → PutFor s msg small lanes (with_places s (set s.cells i true) s.lanes s.pieces) (Small i unsent) store lanes
  unfolding add_small
  put-cell i h eb =
      let p = (spot-cell s v (length msg) (length small) (length lanes) i h).0 in
      record {
        narrow = (p.short, omega (arith, p.low, v.settings.slots-most));
        low = (cell-fits s v (length msg) i p).low;
        gives = λ row e. queue-small s v msg small lanes _ store i h eb (ap (with_row (with_places s (set s.cells i true) s.lanes s.pieces) (length msg)) e);
      }

  pub put-lane : (l : ℕ) → spot_of s (length msg) (length small) (length lanes) ≡ lane l → store ≡ splice (l * lane_len_of s.settings) msg lanes
      → (pieces : List Piece) → pieces ≡ splice (l * PIECES) (replicate (pieces_of (length msg)) no_piece) s.pieces
      → PutFor s msg small lanes (with_places s s.cells (set s.lanes l true) pieces) (Sliced l 0 0) small store
  unfolding add_sliced
  put-lane l h eb pieces ep =
      let p = (spot-lane s v (length msg) (length small) (length lanes) l h).0 in
      record {
        narrow = (omega (arith, p.limit, v.settings.pieces-most), omega (arith, p.low, v.settings.lanes-most), omega arith, omega arith);
        low = (lane-fits s v (length msg) l p).low;
        gives = λ row e. queue-sliced s v msg small lanes _ store l h eb
            (ap (with_row (with_places s s.cells (set s.lanes l true) pieces) (length msg)) e ∙ ap (λ (ps : List Piece). add_row_of s (length msg) (Sliced l 0 0) s.cells (set s.lanes l true) ps) ep);
      }

-- ---- clearing the pieces of a lane

pub cleared : (ps ys : List Piece) (at num many : ℕ) (p : Piece) → p ≡ no_piece → num ≡ many → at + num ≤ length ps → ys ≡ replicate (length (mid_of at (at + num - at) ps)) p
    → put_mid at (at + num - at) ps ys ≡ splice at (replicate many no_piece) ps
cleared ps ys at num many p ep en h e =
    let k : at + num - at ≡ num = omega arith in
    let l : num ≤ length (drop at ps) = simp length-drop (omega arith) in
    let m : length (mid_of at (at + num - at) ps) ≡ many = rw k (length-take-le num (drop at ps) l ∙ en) in
    let r : ys ≡ replicate many no_piece = e ∙ rw (m, ep) in
    let n : at + num - at ≡ length (replicate many no_piece) = rw (length-replicate many no_piece) (omega arith) in
    put_mid-splice at (at + num - at) ps ys (replicate many no_piece) r n (rw (length-replicate many no_piece) (omega arith))

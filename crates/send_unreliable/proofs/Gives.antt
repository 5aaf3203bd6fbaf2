-- What each call gives, by the way it took. Assumes nothing.
use Prim.Native.Nat.{ℕ, ◌+◌, ◌*◌, ◌≤◌, ◌<◌, zero-le}
use mathlib.Core.Path.{◌≡◌, refl, sym, ap, ◌∙◌}
use mathlib.Core.Bool.{Bool, true, false, not}
use mathlib.Core.List.{List}
use native.Mathlib.Omega.{arith}
use borrow.Author.Tests.{lt-ltb, le-ltb, le-leb, lt-leb, eqb-true}
use lib.Dec.{eqb}
use lib.ListN.{length}
use Rattle.words.specs.Sizes.{SLICE_SIZE, LIMIT}
use Rattle.words.specs.Choice.{pick}
use Rattle.words.specs.Lists.{splice}
use Rattle.words.specs.Refusal.{number_of}
use Rattle.words.specs.declared.Refusal.{Refusal}
use Rattle.words.specs.declared.Refusal.TheVariants.{BadStore, BadNumber}
use Rattle.words.proofs.Tables.{by-test, clash}
use Rattle.channel.specs.Settings.{setup_number, SettledGives, lane_len_of, stores_hold_of}
use Rattle.channel.specs.declared.Settings.{Settings}
use Rattle.channel.specs.declared.Settled.{Settled}
use Rattle.std.specs.Prelude.{Result, Ok, Err}
use Rattle.words.proofs.Unique.{numbered-above}
use Rattle.pack.specs.Pack.{Item, pack}
use Rattle.pack.specs.Encode.{round_refusal}
use Rattle.pack.specs.Round.{Sums, sent, went_of, Gives}
use Rattle.pack.specs.Round as rounds
use Rattle.pack.specs.declared.Written.{Written}
use Rattle.send_unreliable.specs.Sender.{ROWS, empty_of, Valid, MadeGives, cell, lane, dropped, refused, spot_of, queued, QueueGives}
use Rattle.send_unreliable.specs.Round.{Given, Chosen, select, packs, lent, refusal_of, RoundGives}
use Rattle.send_unreliable.specs.declared.SendChannelUnreliable.{SendChannelUnreliable}
use Rattle.send_unreliable.specs.declared.Queue.TheVariants as queue
use Rattle.send_unreliable.proofs.Spots.{spot-cell, spot-lane}
use Rattle.send_unreliable.proofs.Valid.{empty-valid, rows-free, queued-valid}

-- ---- a new sender

module _ (channel : ℕ) (s : Settings) (d : Settled) (g : SettledGives s d) (t : SendChannelUnreliable) where
  pub made-ready : d.answer ≡ Ok tt → t ≡ empty_of channel d.settings 0 → MadeGives channel s (record { answer = Ok tt; state = t })
  made-ready e et =
      let z = sym g.number ∙ ap setup_number e in
      let k = rw z at g.settings in
      record { number = sym z; state = rw z (et ∙ ap (λ (x : Settings). empty_of channel x 0) k); valid = rw et (empty-valid channel d.settings 0 g.good zero-le) }

  pub made-refused : (e : Refusal) → d.answer ≡ Err e → t ≡ empty_of 0 d.settings 0 → MadeGives channel s (record { answer = Err e; state = t })
  made-refused e h et =
      let z = sym g.number ∙ ap setup_number h in
      let k = rw (z, numbered-above e) at g.settings in
      record { number = sym z; state = rw (z, numbered-above e) (et ∙ ap (λ (x : Settings). empty_of 0 x 0) k); valid = rw et (empty-valid 0 d.settings 0 g.good zero-le) }

-- ---- queueing

module _ (s : SendChannelUnreliable) (v : Valid s) (msg small lanes : List ℕ) where
  pub queue-cell : spot_of s (length msg) (length small) (length lanes) ≡ cell → (small' : List ℕ) (t : SendChannelUnreliable)
      → small' ≡ splice (s.small * SLICE_SIZE) msg small → t ≡ queued s (length msg) (s.small + 1) s.sliced
      → QueueGives s msg small lanes small' lanes (record { answer = Ok queue.Taken; state = t })
  queue-cell e small' t es et =
      let p = spot-cell s (length msg) (length small) (length lanes) e in
      record {
        answer = rw e;
        state = rw e et;
        small-store = rw e es;
        lane-store = rw e;
        valid =
            rw et
            (queued-valid s v (length msg) (s.small + 1) s.sliced (rows-free s v (omega (arith, p.free, v.sliced-most))) p.fits.long p.fits.memory
            (rw p.is-small) (rw p.is-small (omega arith)) (omega (arith, p.free)) v.sliced-most);
      }

  pub queue-lane : spot_of s (length msg) (length small) (length lanes) ≡ lane → (lanes' : List ℕ) (t : SendChannelUnreliable)
      → lanes' ≡ splice (s.sliced * lane_len_of s.settings) msg lanes → t ≡ queued s (length msg) s.small (s.sliced + 1)
      → QueueGives s msg small lanes small lanes' (record { answer = Ok queue.Taken; state = t })
  queue-lane e lanes' t el et =
      let p = spot-lane s (length msg) (length small) (length lanes) e in
      record {
        answer = rw e;
        state = rw e et;
        small-store = rw e;
        lane-store = rw e el;
        valid =
            rw et
            (queued-valid s v (length msg) s.small (s.sliced + 1) (rows-free s v (omega (arith, p.free, v.small-most))) p.fits.long p.fits.memory
            (rw p.is-small (omega arith)) (rw p.is-small) v.small-most (omega (arith, p.free)));
      }

  pub queue-dropped : spot_of s (length msg) (length small) (length lanes) ≡ dropped → QueueGives s msg small lanes small lanes (record { answer = Ok queue.Dropped; state = s })
  queue-dropped e = record { answer = rw e; state = rw e; small-store = rw e; lane-store = rw e; valid = v }

  pub queue-refused : (x : Refusal) → spot_of s (length msg) (length small) (length lanes) ≡ refused (number_of x)
      → QueueGives s msg small lanes small lanes (record { answer = Err x; state = s })
  queue-refused x e = record { answer = rw e; state = rw e; small-store = rw e; lane-store = rw e; valid = v }

-- ---- once a message is in the stores and counted, and not in the queue yet

-- s with so many small and sliced messages
abbrev pub with_counts : SendChannelUnreliable → ℕ → ℕ → SendChannelUnreliable
with_counts s small sliced =
    record {
      channel_id = s.channel_id;
      settings = s.settings;
      sliced_message_id = s.sliced_message_id;
      memory_usage_bytes = s.memory_usage_bytes;
      count = s.count;
      small = small;
      sliced = sliced;
      lens = s.lens;
    }

-- in t and in the stores everything but the queue is as queueing gives it
pub record PutFor (s : SendChannelUnreliable) (msg small lanes : List ℕ) (t : SendChannelUnreliable) (small' lanes' : List ℕ) : Type 0 where
  pub low : t.count < ROWS
  pub gives : QueueGives s msg small lanes small' lanes' (record { answer = Ok queue.Taken; state = queued t (length msg) t.small t.sliced })

module _ (s : SendChannelUnreliable) (v : Valid s) (msg small lanes store : List ℕ) where
  pub put-cell : spot_of s (length msg) (length small) (length lanes) ≡ cell → store ≡ splice (s.small * SLICE_SIZE) msg small
      → PutFor s msg small lanes (with_counts s (s.small + 1) s.sliced) store lanes
  put-cell e es =
      let p = spot-cell s (length msg) (length small) (length lanes) e in
      record {
        low = rows-free s v (omega (arith, p.free, v.sliced-most));
        gives = queue-cell s v msg small lanes e store _ es refl;
      }

  pub put-lane : spot_of s (length msg) (length small) (length lanes) ≡ lane → store ≡ splice (s.sliced * lane_len_of s.settings) msg lanes
      → PutFor s msg small lanes (with_counts s s.small (s.sliced + 1)) small store
  put-lane e es =
      let p = spot-lane s (length msg) (length small) (length lanes) e in
      record {
        low = rows-free s v (omega (arith, p.free, v.small-most));
        gives = queue-lane s v msg small lanes e store _ es refl;
      }

-- ---- a round

not_none : (n : ℕ) → pick (not (eqb n 0)) n 0 ≡ n
not_none n = by-test (eqb n 0) (λ e. rw (e, eqb-true n 0 e)) (λ e. rw e)

-- an answer tells whether the round was refused
sent-told : (b : Bool) (x y : Sums) (e : ℕ) → sent x ≡ pick b (sent y) (rounds.refused e) → b ≡ true
sent-told true x y e h = refl
sent-told false x y e h = clash (cc)

refused-told : (b : Bool) (y : Sums) (d e : ℕ) → rounds.refused d ≡ pick b (sent y) (rounds.refused e) → b ≡ false
refused-told true y d e h = clash (cc)
refused-told false y d e h = refl

module _ (s : SendChannelUnreliable) (v : Valid s) (g : Given) (out table : List ℕ) where
  -- refused, and nothing is changed
  round-stays : (e : Refusal) → refusal_of s g (length out) (length table) ≡ number_of e → RoundGives s g out table out table (record { answer = Err e; state = s })
  round-stays e h =
      record {
        went = record { answer = rw (h, numbered-above e); bytes = rw (h, numbered-above e); entries = rw (h, numbered-above e) };
        state = rw (h, numbered-above e);
        valid = v;
      }

  pub round-store : stores_hold_of s.settings (length g.small) (length g.lanes) ≡ false → RoundGives s g out table out table (record { answer = Err BadStore; state = s })
  unfolding refusal_of
  round-store h = round-stays BadStore (simp h)

  module _ (h : stores_hold_of s.settings (length g.small) (length g.lanes) ≡ true) where
    pub round-sequence : LIMIT ≤ g.seq → RoundGives s g out table out table (record { answer = Err BadNumber; state = s })
    unfolding refusal_of
    round-sequence q = round-stays BadNumber (simp (h, le-leb _ _ q))

    module _ (q : g.seq < LIMIT) (c : Chosen) (ec : c ≡ select s g.allowance) where
      pub round-ids : LIMIT < c.id → RoundGives s g out table out table (record { answer = Err BadNumber; state = s })
      unfolding refusal_of
      round-ids i = round-stays BadNumber (rw (h, lt-leb _ _ q, ← ec, lt-ltb _ _ i))

      module _ (i : c.id ≤ LIMIT) (is : List Item) (ei : is ≡ (select s g.allowance).items) (out' table' : List ℕ) (a : Result Written Refusal)
          (w : Gives (lent s g) g.seq g.allowance (pack false is) (round_refusal (lent s g) g.seq (pack false is) (length out) (length table)) out table out' table' a) where
        abbrev number : ℕ
        number = round_refusal (lent s g) g.seq (packs s g) (length out) (length table)

        same_number : refusal_of s g (length out) (length table) ≡ number
        unfolding refusal_of
        same_number = rw (h, lt-leb _ _ q, ← ec, le-ltb _ _ i) (not_none _)

        same-went : Gives (lent s g) g.seq g.allowance (packs s g) number out table out' table' a
        same-went = rw ei at w

        pub round-refused : (e : Refusal) → a ≡ Err e → RoundGives s g out table out' table' (record { answer = a; state = s })
        round-refused e ea =
            let f : eqb number 0 ≡ false = refused-told (eqb number 0) _ (number_of e) number (sym (ap went_of ea) ∙ same-went.answer) in
            record { went = rw same_number same-went; state = rw (same_number, f); valid = v }

        pub round-sent : (x : Written) → a ≡ Ok x → (t : SendChannelUnreliable) → t ≡ empty_of s.channel_id s.settings c.id
            → RoundGives s g out table out' table' (record { answer = a; state = t })
        round-sent x ea t et =
            let f : eqb number 0 ≡ true = sent-told (eqb number 0) _ _ number (sym (ap went_of ea) ∙ same-went.answer) in
            record {
              went = rw same_number same-went;
              state = rw (same_number, f, ← ec) et;
              valid = rw et (empty-valid s.channel_id s.settings c.id v.settings i);
            }

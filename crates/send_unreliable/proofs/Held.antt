-- What is queued is what goes: a message that is taken lies in the stores after those before it, and a round sends the bytes of those that
-- the allowance covers, in order. Assumes nothing.
use Prim.Native.Nat.{ℕ, zero, suc, ◌+◌, ◌*◌, ◌-◌, ◌≤◌, ◌<◌}
use mathlib.Core.Path.{◌≡◌, refl, sym, ap, ◌∙◌}
use mathlib.Core.Bool.{true, false}
use mathlib.Core.List.{List, [], ◌∷◌, ◌++◌, map, map-append, append-nil, append_assoc}
use native.Mathlib.Nat.{add-zero, sub-zero, mul-le-mul_right, suc-mul}
use native.Mathlib.Omega.{arith}
use borrow.Author.Tests.{lt-ltb, ltb-true, ltb-false, leb-true, leb-false, ne_eqb, eqb-true, eqb-false}
use lib.Dec.{ltb, eqb}
use lib.ListN.{length, take, drop}
use lib.Seq.{take-add, drop-drop}
use Rattle.words.specs.Sizes.{SLICE_SIZE}
use Rattle.words.specs.Pieces.{pieces_of, piece_len_of}
use Rattle.words.specs.Lists.{splice, total, All, reached}
use Rattle.words.proofs.Tables.{part-before, part-here, by-test, clash}
use Rattle.channel.specs.Settings.{lane_len_of}
use Rattle.channel.specs.declared.Settings.{Settings}
use Rattle.channel.proofs.Good.{lane-within}
use Rattle.pack.specs.Pack.{Item}
use Rattle.pack.specs.Encode.{end_to_end}
use Rattle.pack.proofs.Pieces.{pieces-two}
use Rattle.send_unreliable.specs.Sender.{Queued, ROWS, empty_of, waiting, is_small, Valid, Spot, cell, lane, dropped, refused, spot_of, state_at, answer_at, taken, queue_of, small_at_of, lanes_at, queued, QueueGives}
use Rattle.send_unreliable.specs.Round.{Chosen, pieces_from, go, starting, select}
use Rattle.send_unreliable.specs.Steps.{small_one, sliced_one}
use Rattle.send_unreliable.specs.Laws.{Lie, none_lie, small_lies, sliced-lies, Holds, covered, item_bytes}
use Rattle.send_unreliable.specs.declared.SendChannelUnreliable.{SendChannelUnreliable}
use Rattle.send_unreliable.proofs.Spots.{spot-cell, spot-lane}
use Rattle.send_unreliable.proofs.Valid.{rows-free, grown}
use Rattle.send_unreliable.proofs.Chosen.{small-passed, small-goes, sliced-passed, sliced-goes, sliced-is}

-- ---- a message more

module _ (s : Settings) (small lanes msg : List ℕ) (c : ℕ) where
  -- in cell c, which is the one after those before it
  lie-cell : is_small (length msg) ≡ true → c * SLICE_SIZE + length msg ≤ length small → (ms : List (List ℕ)) (k l : ℕ) → Lie s small lanes k l ms
      → k + total small_one (map length ms) ≡ c → Lie s (splice (c * SLICE_SIZE) msg small) lanes k l (ms ++ (msg ∷ []))
  unfolding total
  lie-cell e r [] k l none_lie h = let z : k ≡ c = omega arith in small_lies {k = k} {m = msg} e (rw z (part-here (c * SLICE_SIZE) msg small r)) none_lie
  lie-cell e r (m ∷ ms) k l (small_lies f p q) h =
      let n = leb-true (length m) SLICE_SIZE f in
      let g = rw f at h in
      small_lies f (part-before (k * SLICE_SIZE) (length m) (c * SLICE_SIZE) msg small (omega arith) ∙ p) (lie-cell e r ms (k + 1) l q (omega arith))
  lie-cell e r (m ∷ ms) k l (sliced-lies f p q) h = let g = rw f at h in sliced-lies f p (lie-cell e r ms k (l + 1) q (omega arith))

  -- in lane c, likewise
  lie-lane : is_small (length msg) ≡ false → c * lane_len_of s + length msg ≤ length lanes → (ms : List (List ℕ)) (k l : ℕ) → Lie s small lanes k l ms
      → All (λ n. n ≤ lane_len_of s) (map length ms) → l + total sliced_one (map length ms) ≡ c → Lie s small (splice (c * lane_len_of s) msg lanes) k l (ms ++ (msg ∷ []))
  unfolding total All
  lie-lane e r [] k l none_lie a h = let z : l ≡ c = omega arith in sliced-lies {l = l} {m = msg} e (rw z (part-here (c * lane_len_of s) msg lanes r)) none_lie
  lie-lane e r (m ∷ ms) k l (small_lies f p q) a h = let g = rw f at h in small_lies f p (lie-lane e r ms (k + 1) l q a.1 (omega arith))
  lie-lane e r (m ∷ ms) k l (sliced-lies f p q) a h =
      let g = rw f at h in
      let u : l < c = omega arith in
      let w : l * lane_len_of s + lane_len_of s ≤ c * lane_len_of s = rw suc-mul at (mul-le-mul_right (lane_len_of s) u) in
      sliced-lies f (part-before (l * lane_len_of s) (length m) (c * lane_len_of s) msg lanes (omega (arith, a.0)) ∙ p) (lie-lane e r ms k (l + 1) q a.1 (omega arith))

pub empty_holds : (channel : ℕ) (s : Settings) (id : ℕ) (small lanes : List ℕ) → Holds (empty_of channel s id) small lanes []
unfolding empty_of
empty_holds channel s id small lanes = record { lens = refl; lie = none_lie }

module _ (s : SendChannelUnreliable) (v : Valid s) (msg small lanes : List ℕ) (ms : List (List ℕ)) (o : Holds s small lanes ms) where
  more-lens : (k l : ℕ) → s.count < ROWS → map length (ms ++ (msg ∷ [])) ≡ waiting (queued s (length msg) k l)
  more-lens k l h = map-append length ms (msg ∷ []) ∙ rw o.lens (sym (grown s v (length msg) k l h))

  spot-holds : (spot : Spot) → spot_of s (length msg) (length small) (length lanes) ≡ spot → answer_at spot ≡ taken
      → Holds (state_at s (length msg) spot) (small_at_of s spot msg small) (lanes_at s spot msg lanes) (ms ++ (msg ∷ []))
  spot-holds cell e t =
      let p = spot-cell s (length msg) (length small) (length lanes) e in
      record {
        lens = more-lens (s.small + 1) s.sliced (rows-free s v (omega (arith, p.free, v.sliced-most)));
        lie =
            lie-cell s.settings small lanes msg s.small p.is-small (omega (arith, p.free, p.short, p.fits.small-room)) ms 0 0 o.lie
            (rw o.lens (omega (arith, v.small_is)));
      }
  spot-holds lane e t =
      let p = spot-lane s (length msg) (length small) (length lanes) e in
      record {
        lens = more-lens s.small (s.sliced + 1) (rows-free s v (omega (arith, p.free, v.small-most)));
        lie =
            lie-lane s.settings small lanes msg s.sliced p.is-small (omega (arith, lane-within s.settings s.sliced p.free, p.fits.long, p.fits.lanes-room))
            ms 0 0 o.lie (rw o.lens v.long) (rw o.lens (omega (arith, sliced-is s v)));
      }
  spot-holds dropped e t = clash (cc)
  spot-holds (refused x) e t = clash (cc)

  -- a message that is taken waits after the others, and all lie where they are looked for
  pub taken-holds : (small' lanes' : List ℕ) (r : Queued) → QueueGives s msg small lanes small' lanes' r → queue_of r.answer ≡ taken → Holds r.state small' lanes' (ms ++ (msg ∷ []))
  taken-holds small' lanes' r g t =
      rw (g.state, g.small-store, g.lane-store)
      (spot-holds (spot_of s (length msg) (length small) (length lanes)) refl (sym g.answer ∙ t))

-- ---- what goes

end-append : (xs ys : List (List ℕ)) → end_to_end (xs ++ ys) ≡ end_to_end xs ++ end_to_end ys
unfolding end_to_end
end-append [] ys = refl
end-append (x ∷ xs) ys = rw (end-append xs ys) (sym (append_assoc x (end_to_end xs) (end_to_end ys)))

module _ (small lanes : List ℕ) where
  abbrev payloads : List Item → List ℕ
  payloads is = end_to_end (map (item_bytes small lanes) is)

  payloads-append : (xs ys : List Item) → payloads (xs ++ ys) ≡ payloads xs ++ payloads ys
  payloads-append xs ys = rw map-append (end-append (map (item_bytes small lanes) xs) (map (item_bytes small lanes) ys))

  module _ (id n place : ℕ) (t : SLICE_SIZE < n) where
    abbrev from-piece : ℕ → List ℕ
    from-piece i = take (n - i * SLICE_SIZE) (drop (place + i * SLICE_SIZE) lanes)

    one_piece : (i : ℕ) → item_bytes small lanes (record { num = pieces_of n; id = id; index = i; place = place + i * SLICE_SIZE; len = piece_len_of n i })
        ≡ take (piece_len_of n i) (drop (place + i * SLICE_SIZE) lanes)
    one_piece i = let two = pieces-two n t in rw (ne_eqb (pieces_of n) 0 (λ z. omega arith))

    -- a piece and those after it
    join-piece : (i : ℕ) → i < pieces_of n → take (piece_len_of n i) (drop (place + i * SLICE_SIZE) lanes) ++ from-piece (i + 1) ≡ from-piece i
    join-piece i h =
        by-test (eqb (i + 1) (pieces_of n))
        (λ e. let l = eqb-true (i + 1) (pieces_of n) e in let z : n - (i + 1) * SLICE_SIZE ≡ 0 = omega arith in rw (e, z, append-nil))
        (λ e.
        let l = eqb-false (i + 1) (pieces_of n) e in
        let a : n - i * SLICE_SIZE ≡ SLICE_SIZE + (n - (i + 1) * SLICE_SIZE) = omega arith in
        let b : place + (i + 1) * SLICE_SIZE ≡ place + i * SLICE_SIZE + SLICE_SIZE = omega arith in
        rw (e, a, b, ← drop-drop SLICE_SIZE (place + i * SLICE_SIZE) lanes) (sym (take-add SLICE_SIZE (n - (i + 1) * SLICE_SIZE) (drop (place + i * SLICE_SIZE) lanes))))

    -- the pieces of a message from the i-th on are its bytes from there on
    payloads-pieces : (i k : ℕ) → i + k ≡ pieces_of n → payloads (pieces_from id n place i k) ≡ from-piece i
    unfolding end_to_end pieces_from
    payloads-pieces i zero e = let z : n - i * SLICE_SIZE ≡ 0 = omega arith in rw z
    payloads-pieces i (suc k) e =
        ap (λ (b : List ℕ). b ++ payloads (pieces_from id n place (i + 1) k)) (one_piece i)
        ∙ ap (λ (r : List ℕ). take (piece_len_of n i) (drop (place + i * SLICE_SIZE) lanes) ++ r) (payloads-pieces (i + 1) k (omega arith))
        ∙ join-piece i (omega arith)

-- the first message is covered, or it is not
covered-not : (left : ℕ) (m : List ℕ) (ms : List (List ℕ)) → left < length m → covered left (m ∷ ms) ≡ covered left ms
unfolding covered
covered-not left m ms h = simp (lt-ltb _ _ h)

module _ (s : Settings) (small lanes : List ℕ) where
  abbrev sent_from : Chosen → List (List ℕ) → List ℕ
  sent_from c ms = payloads small lanes (reached (go s) c (map length ms)).items

  turn : (c d : Chosen) (m : List ℕ) (ms : List (List ℕ)) → go s c (length m) ≡ d → sent_from c (m ∷ ms) ≡ sent_from d ms
  unfolding reached
  turn c d m ms e = ap (λ (x : Chosen). sent_from x ms) e

  -- one message more, whose payload is its bytes
  more : (xs ys : List Item) (m rest : List ℕ) → payloads small lanes ys ≡ m → payloads small lanes (xs ++ ys) ++ rest ≡ payloads small lanes xs ++ (m ++ rest)
  more xs ys m rest e = rw (payloads-append small lanes xs ys, e) (append_assoc (payloads small lanes xs) m rest)

  -- all pieces of a sliced message
  whole : (c : Chosen) (m : List ℕ) → is_small (length m) ≡ false → take (length m) (drop (c.sliced * lane_len_of s) lanes) ≡ m
      → payloads small lanes (pieces_from c.id (length m) (c.sliced * lane_len_of s) 0 (pieces_of (length m))) ≡ m
  whole c m f p =
      payloads-pieces small lanes c.id (length m) (c.sliced * lane_len_of s) (leb-false _ _ f) 0 (pieces_of (length m)) (omega arith)
      ∙ rw (sub-zero, add-zero) p

  covers : (ms : List (List ℕ)) (c : Chosen) → Lie s small lanes c.small c.sliced ms → sent_from c ms ≡ payloads small lanes c.items ++ end_to_end (covered c.left ms)
  unfolding reached end_to_end covered
  covers [] c none_lie = sym (append-nil _)
  covers (m ∷ ms) c (small_lies f p q) =
      by-test (ltb c.left (length m))
      (λ t. let h = ltb-true _ _ t in turn c _ m ms (small-passed s c (length m) f h) ∙ covers ms _ q ∙ rw (covered-not c.left m ms h))
      (λ t. let h = ltb-false _ _ t in turn c _ m ms (small-goes s c (length m) f h) ∙ covers ms _ q ∙ rw t (more c.items _ m _ (rw append-nil p)))
  covers (m ∷ ms) c (sliced-lies f p q) =
      by-test (ltb c.left (length m))
      (λ t. let h = ltb-true _ _ t in turn c _ m ms (sliced-passed s c (length m) f h) ∙ covers ms _ q ∙ rw (covered-not c.left m ms h))
      (λ t. let h = ltb-false _ _ t in turn c _ m ms (sliced-goes s c (length m) f h) ∙ covers ms _ q ∙ rw t (more c.items _ m _ (whole c m f p)))

-- a round sends the bytes of the messages that the allowance covers, in the queue's order
pub round-covers : (s : SendChannelUnreliable) (small lanes : List ℕ) (ms : List (List ℕ)) → Holds s small lanes ms → (allowance : ℕ)
    → end_to_end (map (item_bytes small lanes) (select s allowance).items) ≡ end_to_end (covered allowance ms)
unfolding select end_to_end
round-covers s small lanes ms o allowance =
    ap (λ (ns : List ℕ). payloads small lanes (reached (go s.settings) (starting allowance s.sliced_message_id) ns).items) (sym o.lens)
    ∙ covers s.settings small lanes ms (starting allowance s.sliced_message_id) o.lie

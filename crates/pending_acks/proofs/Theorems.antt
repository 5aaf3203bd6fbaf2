-- Document 02, [12], sentence by sentence, of the definitions that the promises cite. `after xs` is the gatherer after calls with the sequences xs, in
-- their order, from a new one on; every gatherer that calls make is one. Assumes nothing.
use Prim.Native.Nat.{ℕ, ◌+◌, ◌-◌, ◌≤◌, ◌<◌}
use mathlib.Core.Path.{◌≡◌, refl, sym, ap, ◌∙◌}
use mathlib.Core.Bool.{true, false, not}
use mathlib.Core.Logic.{inl, ⊎_elim}
use mathlib.Core.List.{List, [], ◌∷◌, ◌++◌}
use native.Mathlib.Nat.{le_refl}
use native.Mathlib.Omega.{arith}
use borrow.Author.Tests.{ltb-false, leb-true, leb-false, eqb-false, le-ltb, le-leb, ne_eqb}
use lib.Dec.{ltb, leb, eqb}
use lib.ListN.{length, take, drop}
use Rattle.words.specs.Sizes.{LIMIT}
use Rattle.words.specs.Choice.{refusal}
use Rattle.words.specs.Lists.{All}
use Rattle.words.proofs.Lists.{none-refused}
use Rattle.words.proofs.Tables.{by-test, part-here}
use Rattle.octets.specs.Reader.{ok}
use Rattle.std.specs.Prelude.{Ok}
use Rattle.packet_ack.specs.Ack.{RANGES}
use Rattle.packet_ack.specs.declared.Range.{Range}
use Rattle.packet_ack.specs.Write.{rising, listed, ack_bytes, ack_refusal, put_ack}
use Rattle.packet.specs.Packet as p
use Rattle.pending_acks.specs.declared.PendingAcks.{PendingAcks}
use Rattle.pending_acks.specs.Gather.{named, Rising, inserted, gatherer, ranges_of, Valid, gathered, added, PacketGives}
use Rattle.pending_acks.specs.Runs.{after, SameSet, WasAdded, mark}
use Rattle.pending_acks.proofs.Ranges.{Named, is-named, named-is, named-above, unchanged}
use Rattle.pending_acks.proofs.Valid.{gatherer-valid, kept-all, added-below, ranges-of, count-is}
use Rattle.pending_acks.proofs.Canonical.{canonical}
use Rattle.pending_acks.proofs.Running.{refused-same, rising-all, lowest-goes, length_inserted, run-valid, run_only, run-still, run-whole}
use Rattle.pending_acks.proofs.Packets.{listed-all, was-done}
use Rattle.pending_acks.proofs.Reading.{rises-true, all_said, packet-back, bytes-tell}

-- ---- a new gatherer, and any run of calls

new-valid : Valid (gatherer [] false)
unfolding Rising
new-valid = gatherer-valid [] false (omega arith) tt

new-empty : ranges_of (gatherer [] false) ≡ []
new-empty = ranges-of [] false (omega arith)

-- up to 64 ranges are kept
pub valid-after : (xs : List ℕ) → Valid (after xs)
valid-after xs = run-valid xs (gatherer [] false) new-valid

nothing-new : {P : Type 0} (y : ℕ) → Named (ranges_of (gatherer [] false)) y → P
unfolding Named
nothing-new y n = absurd (rw new-empty at n)

-- ---- What is named was always added.

pub named-was-added : (xs : List ℕ) (y : ℕ) → named (ranges_of (after xs)) y ≡ true → WasAdded y xs
named-was-added xs y e = ⊎_elim (λ w. w) (nothing-new y) (run_only xs (gatherer [] false) new-valid y (named-is (ranges_of (after xs)) y e))

-- ---- Adding a named sequence changes nothing: no field of the gatherer.

pub adding-named : (g : PendingAcks) → Valid g → (x : ℕ) → named (ranges_of g) x ≡ true → added g x ≡ g
adding-named g v x e =
    let h = v.few in
    let c = count-is g v in
    by-test (leb LIMIT x)
    (λ t. refused-same g v x (leb-true LIMIT x t))
    (λ t.
    added-below g x (leb-false LIMIT x t)
    ∙ ap (λ (l : List Range). gathered l g.dropped) (unchanged 0 x (ranges_of g) v.rises (named-is (ranges_of g) x e))
    ∙ kept-all (ranges_of g) g.dropped (omega arith)
    ∙ sym v.whole)

-- ---- While nothing has been dropped, the ranges name exactly the sequences added (with `named-was-added`).

pub added-is-named : (xs : List ℕ) → (after xs).dropped ≡ false → (y : ℕ) → WasAdded y xs → named (ranges_of (after xs)) y ≡ true
added-is-named xs d y w =
    let m : mark xs ≡ 0 = run-whole xs (gatherer [] false) 0 new-valid d in
    is-named (ranges_of (after xs)) y (run-still xs (gatherer [] false) 0 new-valid y (inl w) (omega arith))

-- once something was dropped: from the mark on, which is one past the highest sequence ever dropped, the ranges name exactly the sequences added
pub added-above-mark : (xs : List ℕ) (y : ℕ) → WasAdded y xs → mark xs ≤ y → named (ranges_of (after xs)) y ≡ true
added-above-mark xs y w l = is-named (ranges_of (after xs)) y (run-still xs (gatherer [] false) 0 new-valid y (inl w) l)

first-named : (rs : List Range) → Rising 0 rs → 0 < length rs → (y : ℕ) × (named rs y ≡ true)
unfolding Rising Named
first-named [] w l = absurd (omega arith)
first-named (r ∷ rs) w l = (r.start, is-named (r ∷ rs) r.start (inl (le_refl r.start, w.1)))

-- ---- A 65th drops the lowest whole range: 64 are left, and all that they name lies above it.

higher : (r : Range) (rs : List Range) → Rising 0 (r ∷ rs) → (y : ℕ) → Named rs y → r.end < y
unfolding Rising
higher r rs w y n = let a = named-above (r.end + 1) rs y w.3 n in omega arith

pub record DropsLowest (g : PendingAcks) (x : ℕ) : Type 0 where
  pub lowest : Range
  pub others : inserted x (ranges_of g) ≡ lowest ∷ ranges_of (added g x)
  pub sixty-four : length (ranges_of (added g x)) ≡ RANGES
  pub above : (y : ℕ) → named (ranges_of (added g x)) y ≡ true → lowest.end < y

pub drops-lowest : (g : PendingAcks) → Valid g → (x : ℕ) → x < LIMIT → RANGES < length (inserted x (ranges_of g)) → DropsLowest g x
drops-lowest g v x h l = by-ranges (inserted x (ranges_of g)) refl
  where
    by-ranges : (rs : List Range) → inserted x (ranges_of g) ≡ rs → DropsLowest g x
    by-ranges [] e = absurd (let z = ap length e in omega arith)
    by-ranges (r ∷ rs) e =
        let left : ranges_of (added g x) ≡ rs = lowest-goes g v x h l ∙ ap (drop 1) e in
        let n = length_inserted x 0 (ranges_of g) v.rises in
        let c = count-is g v in
        let f = v.few in
        let k = ap length e in
        record {
          lowest = r;
          others = e ∙ ap (λ (l : List Range). r ∷ l) (sym left);
          sixty-four = ap length left ∙ (omega arith);
          above = λ y m. higher r rs (rw e at (rising-all g v x h)) y (named-is rs y (rw left at m));
        }

-- ---- Gatherers that name the same have the same ranges; and are the same, where both or neither dropped one.

module _ (g h : PendingAcks) (v : Valid g) (w : Valid h) where
  pub same-ranges : SameSet g h → ranges_of g ≡ ranges_of h
  same-ranges e = canonical (ranges_of g) (ranges_of h) v.rises w.rises e

  pub same-state : SameSet g h → g.dropped ≡ h.dropped → g ≡ h
  same-state e d = v.whole ∙ ap (λ (l : List Range). gatherer l g.dropped) (same-ranges e) ∙ ap (gatherer (ranges_of h)) d ∙ sym w.whole

-- ---- A sequence at or above 2^62 gets 13, and an empty gatherer asked for a packet gets 5; then too little room gets 1.

empty-test : (rs : List Range) → Rising 0 rs → not (rising rs) ≡ eqb (length rs) 0
unfolding rising
empty-test [] w = refl
empty-test (r ∷ rs) w = ap not (rises-true 0 (r ∷ rs) (omega arith) w) ∙ sym (ne_eqb (length (r ∷ rs)) 0 (λ e. omega arith))

pub refuses : (g : PendingAcks) → Valid g → (seq at m : ℕ)
    → ack_refusal seq (ranges_of g) g.count at m ≡ refusal ((leb LIMIT seq, 13) ∷ (eqb g.count 0, 5) ∷ (ltb m (at + length (ack_bytes seq (ranges_of g))), 1) ∷ [])
unfolding ack_refusal
refuses g v seq at m = of-ranges (ranges_of g) g.count (count-is g v) v.rises
  where
    of-ranges : (rs : List Range) (n : ℕ) → length rs ≡ n → Rising 0 rs
        → ack_refusal seq rs n at m ≡ refusal ((leb LIMIT seq, 13) ∷ (eqb n 0, 5) ∷ (ltb m (at + length (ack_bytes seq rs)), 1) ∷ [])
    of-ranges rs n e w = rw (← e, listed-all rs, all_said 0 rs w, empty-test rs w, le-ltb (length rs) (length rs) (le_refl (length rs)))

-- ---- The packet is always accepted by the reader, which reads the ranges back: with anything after it, into a table that holds so many.

pub reads-back : (g : PendingAcks) → Valid g → (seq : ℕ) → seq < LIMIT → 0 < g.count → (q : List ℕ) (m n : ℕ) → g.count ≤ n
    → p.judged (p.packet (ack_bytes seq (ranges_of g) ++ q) 0) m n ≡ ok (p.ack (record { sequence = seq; ranges = ranges_of g })) (length (ack_bytes seq (ranges_of g)))
unfolding p.judged
reads-back g v seq s some q m n fits =
    let c = count-is g v in
    let f : length (ranges_of g) ≤ n = omega arith in
    rw (packet-back seq (ranges_of g) s (omega arith) v.rises q, le-leb (length (ranges_of g)) n f)

-- ---- Two gatherers name the same non-empty set exactly when their ack packets with equal sequence are equal bytes.

-- what a call writes: the packet's bytes stand at the place
pub record Wrote (g : PendingAcks) (seq at n : ℕ) (out' : List ℕ) : Type 0 where
  pub below : seq < LIMIT
  pub some : 0 < g.count
  pub stands : take (n - at) (drop at out') ≡ ack_bytes seq (ranges_of g)

pub writes : (g : PendingAcks) → Valid g → (seq at n : ℕ) (out out' : List ℕ) → PacketGives g seq at out out' (Ok n) → Wrote g seq at n out'
unfolding put_ack All
writes g v seq at n out out' r =
    let d = was-done (ack_refusal seq (ranges_of g) g.count at (length out)) (at + length (ack_bytes seq (listed (ranges_of g) 0 g.count))) n r.answer in
    let a = none-refused ((leb LIMIT seq, 13) ∷ (eqb g.count 0, 5) ∷ (ltb (length out) (at + length (ack_bytes seq (ranges_of g))), 1) ∷ []) refl (sym (refuses g v seq at (length out)) ∙ d.0) in
    let l : listed (ranges_of g) 0 g.count ≡ ranges_of g = ap (listed (ranges_of g) 0) (sym (count-is g v)) ∙ listed-all (ranges_of g) in
    let f = ltb-false (length out) (at + length (ack_bytes seq (ranges_of g))) a.1.1.0 in
    let k : n ≡ at + length (ack_bytes seq (ranges_of g)) = d.1 ∙ ap (λ (rs : List Range). at + length (ack_bytes seq rs)) l in
    let e : n - at ≡ length (ack_bytes seq (ranges_of g)) = omega arith in
    record {
      below = leb-false LIMIT seq a.0;
      some = (let z = eqb-false g.count 0 a.1.0 in omega (arith, z));
      stands = rw (e, r.bytes) (part-here at (ack_bytes seq (ranges_of g)) out f);
    }

module _ (g h : PendingAcks) (v : Valid g) (w : Valid h) where
  pub bytes-of-set : SameSet g h → (seq : ℕ) → ack_bytes seq (ranges_of g) ≡ ack_bytes seq (ranges_of h)
  bytes-of-set e seq = ap (ack_bytes seq) (same-ranges g h v w e)

  pub set-of-bytes : (seq : ℕ) → seq < LIMIT → 0 < g.count → 0 < h.count → ack_bytes seq (ranges_of g) ≡ ack_bytes seq (ranges_of h) → SameSet g h
  set-of-bytes seq s a b e y =
      let c = count-is g v in
      let d = count-is h w in
      ap (λ (l : List Range). named l y) (bytes-tell seq (ranges_of g) (ranges_of h) s (omega arith) (omega arith) v.rises w.rises e)

  -- the same of two calls that were not refused, whatever was lent to them
  module _ (seq at at' n n' : ℕ) (out out' o o' : List ℕ) (r : PacketGives g seq at out out' (Ok n)) (q : PacketGives h seq at' o o' (Ok n')) where
    pub same-set-same-packet : SameSet g h → take (n - at) (drop at out') ≡ take (n' - at') (drop at' o')
    same-set-same-packet e = (writes g v seq at n out out' r).stands ∙ bytes-of-set e seq ∙ sym (writes h w seq at' n' o o' q).stands

    pub same-packet-same-set : take (n - at) (drop at out') ≡ take (n' - at') (drop at' o') → SameSet g h
    same-packet-same-set e =
        let a = writes g v seq at n out out' r in
        let b = writes h w seq at' n' o o' q in
        set-of-bytes seq a.below a.some b.some (sym a.stands ∙ e ∙ b.stands)

-- a gatherer names something exactly when it has a range
pub some-named : (g : PendingAcks) → Valid g → 0 < g.count → (y : ℕ) × (named (ranges_of g) y ≡ true)
some-named g v h = first-named (ranges_of g) v.rises (let c = count-is g v in omega arith)

pub none_named : (g : PendingAcks) → g.count ≡ 0 → (y : ℕ) → named (ranges_of g) y ≡ false
unfolding named
none_named g e y = rw e

-- What the writing functions make of the buffer. Assumes nothing.
use Prim.Native.Nat.{ℕ, suc, ◌+◌, ◌-◌, ◌≤◌, ◌<◌}
use mathlib.Core.Path.{◌≡◌, refl, sym, ap, ◌∙◌}
use mathlib.Core.Bool.{true}
use mathlib.Core.List.{List, ◌∷◌, ◌++◌, append_assoc}
use native.Mathlib.Omega.{arith}
use native.Mathlib.Numerals.{add-one}
use lib.ListN.{length, set, length-append}
use Rattle.words.specs.Sizes.{LIMIT}
use Rattle.words.specs.Lists.{splice}
use Rattle.words.proofs.Splice.{splice-splice}
use Rattle.octets.specs.Varint.{var_len, var_bytes}
use Rattle.octets.proofs.Back.{length-var}
use Rattle.packet_ack.specs.Ack.{Range}
use Rattle.packet_ack.specs.Write.{size_less_one, type_byte_of, record_at, lowers_bytes}
use Rattle.packet_ack.specs.Steps.{below, falling_below, start_bytes, range_len_of, range_bytes, front_len, front_bytes, gap_below, pen_below, Writable}
use Rattle.packet_ack.specs.declared.Pen.{Pen}
use Rattle.packet_ack.proofs.Falling.{falls-first}

-- what is written after a run that is written, and after a number
pub wrote-next : (at : ℕ) (xs bs s0 : List ℕ) {a : ℕ} {s1 s2 : List ℕ} → s2 ≡ splice a bs s1 → a ≡ at + length xs → s1 ≡ splice at xs s0 → s2 ≡ splice at (xs ++ bs) s0
wrote-next at xs bs s0 w2 e w1 = w2 ∙ rw (w1, e) (splice-splice at xs bs s0)

wrote-var : (at v : ℕ) (bs s0 : List ℕ) {a : ℕ} {s1 s2 : List ℕ} → s2 ≡ splice a bs s1 → a ≡ at + var_len v → s1 ≡ splice at (var_bytes v) s0
    → s2 ≡ splice at (var_bytes v ++ bs) s0
wrote-var at v bs s0 w2 e w1 = wrote-next at (var_bytes v) bs s0 w2 (e ∙ ap (λ (n : ℕ). at + n) (sym (length-var v))) w1

-- ---- the type byte and the sequence, and a range

pub length-start : (seq : ℕ) → length (start_bytes seq) ≡ 1 + var_len seq
unfolding start_bytes
length-start seq = let l = length-var seq in omega arith

pub start-wrote : (at seq : ℕ) (s0 : List ℕ) {s1 : List ℕ} → s1 ≡ splice (at + 1) (var_bytes seq) (set s0 at type_byte_of) → s1 ≡ splice at (start_bytes seq) s0
unfolding start_bytes splice
start-wrote at seq s0 w = simp (add-one at) at w

pub length-range : (before : ℕ) (r : Range) → length (range_bytes before r) ≡ range_len_of before r
unfolding range_bytes
length-range before r = simp (length-append, length-var)

pub range-wrote : (at before : ℕ) (r : Range) {a : ℕ} {s1 s2 : List ℕ} (s0 : List ℕ)
    → s2 ≡ splice a (var_bytes (size_less_one r)) s1 → a ≡ at + var_len before → s1 ≡ splice at (var_bytes before) s0 → s2 ≡ splice at (range_bytes before r) s0
unfolding range_bytes
range-wrote at before r s0 w2 e w1 = wrote-var at before (var_bytes (size_less_one r)) s0 w2 e w1

-- ---- all but the lower ranges

pub length_front : (seq : ℕ) (r : Range) (n : ℕ) → length (front_bytes seq r n) ≡ front_len seq r n
unfolding front_bytes
length_front seq r n = simp (length-append, length-start, length-range, length-var) (omega arith)

pub front-wrote : (at seq : ℕ) (r : Range) (n : ℕ) (s0 : List ℕ) {a b : ℕ} {s1 s2 s3 : List ℕ}
    → s3 ≡ splice b (var_bytes n) s2 → b ≡ a + range_len_of (r.end - 1) r → s2 ≡ splice a (range_bytes (r.end - 1) r) s1 → a ≡ at + (1 + var_len seq) → s1 ≡ splice at (start_bytes seq) s0
    → s3 ≡ splice at (front_bytes seq r n) s0
unfolding front_bytes
front-wrote at seq r n s0 {a} {s1 = s1} w3 eb w2 ea w1 =
    let lb = length-range (r.end - 1) r in
    let la = length-start seq in
    wrote-next at (start_bytes seq) _ s0 (wrote-next a (range_bytes (r.end - 1) r) (var_bytes n) s1 w3 (omega arith) w2) (omega arith) w1

-- ---- a turn of the loop that writes the lower ranges, of which the first is r

module _ (p : Pen) (r : Range) (rs : List Range) where
  turn-bytes : lowers_bytes p.above (r ∷ rs) ≡ range_bytes (gap_below p r) r ++ lowers_bytes r.start rs
  unfolding lowers_bytes range_bytes
  turn-bytes = sym (append_assoc (var_bytes (gap_below p r)) (var_bytes (size_less_one r)) (lowers_bytes r.start rs))

  -- what is known of it
  pub record Turn : Type 0 where
    pub sized : r.start < r.end
    pub apart : r.end < p.above
    pub falls : falling_below r.start rs ≡ true
    pub long : length (lowers_bytes p.above (r ∷ rs)) ≡ range_len_of (gap_below p r) r + length (lowers_bytes r.start rs)

  pub turn : falling_below p.above (r ∷ rs) ≡ true → Turn
  turn f =
      let g = falls-first p.above r rs f in
      record { sized = g.1; apart = g.0; falls = g.2; long = rw (turn-bytes, length-append, length-range) }

  pub turn-wrote : (out : List ℕ) {out' : List ℕ} → out' ≡ splice p.at (range_bytes (gap_below p r) r) out
      → splice (pen_below p r).at (lowers_bytes r.start rs) out' ≡ splice p.at (lowers_bytes p.above (r ∷ rs)) out
  turn-wrote out w =
      wrote-next p.at (range_bytes (gap_below p r) r) _ out refl (ap (λ (n : ℕ). p.at + n) (sym (length-range (gap_below p r) r))) w
      ∙ ap (λ (bs : List ℕ). splice p.at bs out) (sym turn-bytes)

pub pen-is : (p : Pen) (r : Range) {a : ℕ} → a ≡ p.at + range_len_of (gap_below p r) r → record { at = a; above = r.start } ≡ pen_below p r
pen-is p r e = simp e

-- what can be written once one more is written
pub next-writable : (t : List Range) (k : ℕ) (p : Pen) (m : ℕ) → Writable t (suc k) p m → Writable t k (pen_below p (record_at t k)) m
unfolding below
next-writable t k p m w =
    let y = turn p (record_at t k) (below t k) w.falls in
    record { named = omega (arith, w.named); falls = y.falls; limit = omega (arith, y.sized, y.apart, w.limit); room = omega (arith, y.long, w.room) }

-- what writing that one asks
pub write-asks : (t : List Range) (k : ℕ) (p : Pen) (m : ℕ) → Writable t (suc k) p m
    → ((record_at t k).start < (record_at t k).end) × ((record_at t k).end < p.above) × (p.above ≤ LIMIT) × (p.at + range_len_of (gap_below p (record_at t k)) (record_at t k) ≤ m)
unfolding below
write-asks t k p m w =
    let y = turn p (record_at t k) (below t k) w.falls in
    (y.sized, y.apart, w.limit, omega (arith, y.long, w.room))

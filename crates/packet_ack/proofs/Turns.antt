-- A turn of each loop that walks the table, from the highest record down. Assumes nothing.
use Prim.Native.Nat.{ℕ, suc, ◌+◌, ◌-◌, ◌<◌, ◌≤◌}
use mathlib.Core.Path.{◌≡◌, refl, sym, ap}
use mathlib.Core.List.{List, ◌∷◌}
use native.Mathlib.Omega.{arith}
use lib.ListN.{set}
use Rattle.words.specs.Sizes.{LIMIT}
use Rattle.words.specs.Lists.{splice, reached}
use Rattle.packet_ack.specs.Ack.{Range}
use Rattle.packet_ack.specs.Write.{record_at, lowers_bytes}
use Rattle.packet_ack.specs.Steps.{judged_next, below, lower_spot_of, filled_from, range_len_of, range_bytes, gap_below, pen_below, Writable}
use Rattle.packet_ack.specs.declared.Judgement.{Judgement}
use Rattle.packet_ack.specs.declared.Spot.{Spot}
use Rattle.packet_ack.specs.declared.Pen.{Pen}
use Rattle.packet_ack.proofs.Wrote.{turn-wrote, next-writable, write-asks}

less : (n : ℕ) → 0 < n → suc (n - 1) ≡ n
less n h = omega arith

pub below_less : (t : List Range) (n : ℕ) → 0 < n → below t n ≡ record_at t (n - 1) ∷ below t (n - 1)
unfolding below
below_less t n h = ap (below t) (sym (less n h))

-- ---- judging

pub judge_turn : (t : List Range) (n : ℕ) (j : Judgement) {j' : Judgement} → 0 < n → j' ≡ judged_next j (record_at t (n - 1))
    → reached judged_next j' (below t (n - 1)) ≡ reached judged_next j (below t n)
unfolding reached
judge_turn t n j h e = rw (below_less t n h, e) refl

pub judge_end : (t : List Range) (n : ℕ) (j : Judgement) → n ≡ 0 → j ≡ reached judged_next j (below t n)
unfolding reached below
judge_end t n j e = rw e refl

-- ---- filling

pub fill_turn : (n : ℕ) (s : List ℕ) (c : Spot) (t : List Range) {c' : Spot} → 0 < n → c' ≡ lower_spot_of s c
    → filled_from (n - 1) s c' (set t (n - 1) c.range) ≡ filled_from n s c t
unfolding filled_from
fill_turn n s c t h e = rw e (ap (λ (m : ℕ). filled_from m s c t) (less n h))

pub fill_end : (n : ℕ) (s : List ℕ) (c : Spot) (t : List Range) → n ≡ 0 → t ≡ filled_from n s c t
unfolding filled_from
fill_end n s c t e = rw e refl

-- ---- writing

writable_less : (t : List Range) (n : ℕ) (p : Pen) (m : ℕ) → 0 < n → Writable t n p m → Writable t (suc (n - 1)) p m
writable_less t n p m h w = rw (less n h) w

pub asks_less : (t : List Range) (n : ℕ) (p : Pen) (m : ℕ) → 0 < n → Writable t n p m
    → ((record_at t (n - 1)).start < (record_at t (n - 1)).end) × ((record_at t (n - 1)).end < p.above) × (p.above ≤ LIMIT)
    × (p.at + range_len_of (gap_below p (record_at t (n - 1))) (record_at t (n - 1)) ≤ m)
asks_less t n p m h w = write-asks t (n - 1) p m (writable_less t n p m h w)

pub writable_next : (t : List Range) (n : ℕ) (p : Pen) (m : ℕ) {p' : Pen} {m' : ℕ} → 0 < n → p' ≡ pen_below p (record_at t (n - 1)) → m' ≡ m
    → Writable t n p m → Writable t (n - 1) p' m'
writable_next t n p m h e l w = rw (e, l) (next-writable t (n - 1) p m (writable_less t n p m h w))

pub write_turn : (t : List Range) (n : ℕ) (p : Pen) (out : List ℕ) {p' : Pen} {out' : List ℕ} → 0 < n → p' ≡ pen_below p (record_at t (n - 1))
    → out' ≡ splice p.at (range_bytes (gap_below p (record_at t (n - 1))) (record_at t (n - 1))) out
    → splice p'.at (lowers_bytes p'.above (below t (n - 1))) out' ≡ splice p.at (lowers_bytes p.above (below t n)) out
write_turn t n p out h e w = rw (below_less t n h, e) (turn-wrote p (record_at t (n - 1)) (below t (n - 1)) out w)

pub write_end : (t : List Range) (n : ℕ) (p : Pen) (out : List ℕ) → n ≡ 0 → out ≡ splice p.at (lowers_bytes p.above (below t n)) out
unfolding below lowers_bytes splice
write_end t n p out e = rw e refl

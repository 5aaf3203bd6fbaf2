-- The whole packet of a table's first ranges, from the highest down: its parts, and what is known of them once they are judged.
-- Assumes nothing.
use Prim.Native.Nat.{ℕ, suc, ◌+◌, ◌-◌, ◌*◌, ◌≤◌, ◌<◌}
use mathlib.Core.Path.{◌≡◌, sym, ap, ◌∙◌}
use mathlib.Core.Bool.{true}
use mathlib.Core.List.{List, ◌∷◌, ◌++◌, reverse, append_assoc}
use borrow.Author.Tests.{leb-true}
use lib.Dec.{leb, ltb}
use lib.ListN.{length, length-append}
use Rattle.words.specs.Sizes.{LIMIT}
use Rattle.words.specs.Lists.{all}
use Rattle.octets.specs.Varint.{var_bytes}
use Rattle.packet_ack.specs.Ack.{Range}
use Rattle.packet_ack.specs.Write.{sayable, record_at, listed, rising, lowers_bytes, falling_bytes, ack_bytes}
use Rattle.packet_ack.specs.Steps.{below, falling_below, falling, start_bytes, range_bytes, front_bytes, front_len}
use Rattle.packet_ack.proofs.Falling.{picked, reverse-listed, length-below, all-reverse, rising-falling, falls-top, falls-count}
use Rattle.packet_ack.proofs.Wrote.{length_front}

module _ (t : List Range) (n : ℕ) where
  pub top : reverse (listed t 0 (suc n)) ≡ record_at t n ∷ below t n
  unfolding below
  top = reverse-listed t (suc n)

  pub top-sayable : all sayable (record_at t n ∷ below t n) ≡ all sayable (listed t 0 (suc n))
  top-sayable = ap (all sayable) (sym top) ∙ all-reverse sayable (listed t 0 (suc n))

  pub top-falling : falling (record_at t n ∷ below t n) ≡ rising (listed t 0 (suc n))
  top-falling = ap falling (sym top) ∙ sym (rising-falling (listed t 0 (suc n)))

  module _ (seq : ℕ) where
    four-parts : ack_bytes seq (listed t 0 (suc n)) ≡ start_bytes seq ++ (range_bytes ((record_at t n).end - 1) (record_at t n) ++ (var_bytes n ++ lowers_bytes (record_at t n).start (below t n)))
    unfolding ack_bytes falling_bytes start_bytes range_bytes
    four-parts = simp (top, length-below, append_assoc)

    pub ack-parts : ack_bytes seq (listed t 0 (suc n)) ≡ front_bytes seq (record_at t n) n ++ lowers_bytes (record_at t n).start (below t n)
    unfolding front_bytes
    ack-parts =
        let top : List ℕ = range_bytes ((record_at t n).end - 1) (record_at t n) in
        let low : List ℕ = lowers_bytes (record_at t n).start (below t n) in
        four-parts ∙ ap (λ (l : List ℕ). start_bytes seq ++ l) (sym (append_assoc top (var_bytes n) low)) ∙ sym (append_assoc (start_bytes seq) (top ++ var_bytes n) low)

    pub length-ack : length (ack_bytes seq (listed t 0 (suc n))) ≡ front_len seq (record_at t n) n + length (lowers_bytes (record_at t n).start (below t n))
    length-ack = simp (ack-parts, length-append, length_front)

  -- what is known of ranges that were judged
  pub record Known : Type 0 where
    pub sized : (record_at t n).start < (record_at t n).end
    pub within : (record_at t n).end ≤ LIMIT
    pub falls : falling_below (record_at t n).start (below t n) ≡ true
    pub few : 2 * n ≤ (record_at t n).start

  pub known_of : all sayable (listed t 0 (suc n)) ≡ true → rising (listed t 0 (suc n)) ≡ true → Known
  unfolding all
  known_of s r =
      let f = falls-top (record_at t n) (below t n) (top-falling ∙ r) in
      let p = picked (sayable (record_at t n)) (all sayable (below t n)) (top-sayable ∙ s) in
      let q = picked (ltb (record_at t n).start LIMIT) (leb (record_at t n).end LIMIT) p.0 in
      record { sized = f.0; within = leb-true _ _ q.1; falls = f.1; few = rw length-below at (falls-count (record_at t n).start (below t n) f.1) }

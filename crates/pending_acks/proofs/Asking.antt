-- What is answered where a sequence is asked for: the last range that starts at or below it tells. Assumes nothing.
use Prim.Native.Nat.{ℕ, suc, ◌-◌, ◌≤◌, ◌<◌}
use mathlib.Core.Path.{◌≡◌}
use native.Mathlib.Omega.{arith}
use borrow.Author.Tests.{eqb-true, eqb-false, le-leb, lt-leb}
use lib.Dec.{ltb, eqb}
use lib.ListN.{length}
use mathlib.Core.List.{List}
use Rattle.std.specs.Prelude.{Ok}
use Rattle.words.specs.Sizes.{LIMIT}
use Rattle.words.proofs.Tables.{by-test}
use Rattle.packet_ack.specs.declared.Range.{Range}
use Rattle.packet_ack.specs.Write.{record_at}
use Rattle.pending_acks.specs.Gather.{range, holds, named, Rising, no, refused, reply, reply_of}
use Rattle.pending_acks.specs.Steps.{Placed}
use Rattle.pending_acks.proofs.Ranges.{one-is-all, none-beyond, beyond-first}

pub too_large : (rs : List Range) (x : ℕ) → LIMIT ≤ x → refused 13 ≡ reply rs x
unfolding reply
too_large rs x h = rw (le-leb _ _ h)

module _ (rs : List Range) (w : Rising 0 rs) (x k : ℕ) (h : x < LIMIT) (p : Placed rs x k) where
  pub says_none : k ≡ 0 → no ≡ reply rs x
  unfolding reply
  says_none e = rw (lt-leb _ _ h, none-beyond 0 rs x w (beyond-first x rs (range 0 0) (λ s. rw e at (p.high (omega arith)))))

  module _ (some : 0 < k) where
    last-tells : named rs x ≡ holds (record_at rs (k - 1)) x
    last-tells =
        let l = p.within in
        let e : suc (k - 1) ≡ k = omega arith in
        one-is-all x (range 0 0) 0 rs (k - 1) w (omega arith) (λ s. p.low some) (λ s. rw e (p.high (omega arith)))

    pub says : reply_of (Ok (ltb x (record_at rs (k - 1)).end)) ≡ reply rs x
    unfolding reply
    says =
        by-test (ltb x (record_at rs (k - 1)).end)
        (λ t. rw (lt-leb _ _ h, last-tells, le-leb _ _ (p.low some), t))
        (λ t. rw (lt-leb _ _ h, last-tells, le-leb _ _ (p.low some), t))

  -- the law: looking at the one range that is left, the last that starts at or below the sequence or else the first, is looking at every range
  pub one-tells : 0 < length rs → named rs x ≡ holds (record_at rs (k - 1)) x
  one-tells some =
      by-test (eqb k 0)
      (λ t.
      let e : k ≡ 0 = eqb-true k 0 t in
      let f : k - 1 ≡ 0 = omega arith in
      let b : x < (record_at rs 0).start = rw e at (p.high (omega arith)) in
      rw (none-beyond 0 rs x w (beyond-first x rs (range 0 0) (λ s. b)), f, lt-leb _ _ b))
      (λ t. let n = eqb-false k 0 t in last-tells (omega arith))

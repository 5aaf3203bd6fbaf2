-- The packet of a gatherer. Assumes nothing.
use Prim.Native.Nat.{ℕ, ◌+◌, ◌<◌}
use mathlib.Core.Path.{◌≡◌, refl, sym, ap, ◌∙◌}
use mathlib.Core.List.{List, [], ◌∷◌, ◌++◌, append_assoc}
use native.Mathlib.Omega.{arith}
use borrow.Author.Tests.{eqb-true}
use lib.Dec.{eqb}
use lib.ListN.{length, length-append}
use lib.Seq.{get_or-append_seam}
use Rattle.std.specs.Prelude.{Result}
use Rattle.words.specs.declared.Refusal.{Refusal}
use Rattle.words.proofs.Tables.{by-test, clash}
use Rattle.octets.specs.Writer.{done, refused, outcome, put_of, left}
use Rattle.packet_ack.specs.declared.Range.{Range}
use Rattle.packet_ack.specs.Write.{ack_bytes, listed, put_ack}
use Rattle.pending_acks.specs.declared.PendingAcks.{PendingAcks}
use Rattle.pending_acks.specs.Gather.{range, ranges_of, Valid, PacketGives}
use Rattle.pending_acks.proofs.Valid.{count-is}

-- all ranges of a table are its ranges
listed-from : (bs rs : List Range) → listed (bs ++ rs) (length bs) (length rs) ≡ rs
unfolding listed
listed-from bs [] = refl
listed-from bs (r ∷ rs) =
    let e : (bs ++ r ∷ []) ++ rs ≡ bs ++ r ∷ rs = append_assoc bs (r ∷ []) rs in
    let n : length (bs ++ r ∷ []) ≡ length bs + 1 = length-append bs (r ∷ []) in
    let more : listed (bs ++ r ∷ rs) (length bs + 1) (length rs) ≡ rs = rw (← e, ← n) (listed-from (bs ++ r ∷ []) rs) in
    rw (get_or-append_seam bs r rs (range 0 0), more)

pub listed-all : (rs : List Range) → listed rs 0 (length rs) ≡ rs
listed-all rs = listed-from [] rs

pub some_bytes : (seq : ℕ) (rs : List Range) → 0 < length (ack_bytes seq rs)
unfolding ack_bytes
some_bytes seq rs = omega arith

-- an outcome is one or the other
pub was-done : (e k n : ℕ) → done n ≡ outcome e k → (e ≡ 0) × (n ≡ k)
was-done e k n h = by-test (eqb e 0) (λ t. (eqb-true e 0 t, (let z : done n ≡ done k = rw t at h in cc))) (λ t. clash (let z : done n ≡ refused e = rw t at h in cc))

-- what the writer of acknowledgements leaves of a table of all ranges
pub packet-wrote : (g : PendingAcks) → Valid g → (seq at : ℕ) (out : List ℕ) {out' : List ℕ} {r : Result ℕ Refusal}
    → (put_of r ≡ put_ack seq (ranges_of g) g.count at (length out)) × (out' ≡ left (put_of r) at (ack_bytes seq (listed (ranges_of g) 0 g.count)) out) → PacketGives g seq at out out' r
packet-wrote g v seq at out {r = r} h =
    let l : listed (ranges_of g) 0 g.count ≡ ranges_of g = ap (listed (ranges_of g) 0) (sym (count-is g v)) ∙ listed-all (ranges_of g) in
    record { answer = h.0; bytes = h.1 ∙ ap (λ (rs : List Range). left (put_of r) at (ack_bytes seq rs) out) l }

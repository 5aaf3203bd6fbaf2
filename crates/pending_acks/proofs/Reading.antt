-- The ranges of a gatherer as the writer and the reader of packets have them. Assumes nothing.
use Prim.Native.Nat.{ℕ, ◌+◌, ◌≤◌, ◌<◌}
use mathlib.Core.Path.{◌≡◌, refl, sym, ap, ◌∙◌}
use mathlib.Core.Bool.{true}
use mathlib.Core.List.{List, [], ◌∷◌, ◌++◌}
use native.Mathlib.Omega.{arith}
use borrow.Author.Tests.{lt-ltb, le-leb}
use lib.ListN.{length, get_or, length-append}
use Rattle.words.specs.Sizes.{LIMIT}
use Rattle.words.specs.Lists.{all}
use Rattle.octets.specs.Reader.{Res, ok, fault}
use Rattle.packet_ack.specs.declared.Range.{Range}
use Rattle.packet_ack.specs.Ack.{Ack, ack}
use Rattle.packet_ack.specs.Write.{sayable, rising_after, rising, type_byte_of, ack_bytes}
use Rattle.packet_ack.proofs.Theorems.{read_back}
use Rattle.packet.specs.Packet as p
use Rattle.packet.proofs.Read.{ack-is}
use Rattle.pending_acks.specs.Gather.{Rising}
use Rattle.pending_acks.proofs.Packets.{some_bytes}

-- ---- they rise and can be said

rises-after : (end : ℕ) (rs : List Range) → Rising (end + 1) rs → rising_after end rs ≡ true
unfolding Rising rising_after
rises-after end [] w = refl
rises-after end (r ∷ rs) w = let h : end < r.start = omega arith in simp (lt-ltb _ _ h, lt-ltb _ _ w.1) (rises-after r.end rs w.3)

pub rises-true : (m : ℕ) (rs : List Range) → 0 < length rs → Rising m rs → rising rs ≡ true
unfolding Rising rising
rises-true m [] s w = absurd (omega arith)
rises-true m (r ∷ rs) s w = simp (lt-ltb _ _ w.1) (rises-after r.end rs w.3)

pub all_said : (m : ℕ) (rs : List Range) → Rising m rs → all sayable rs ≡ true
unfolding Rising all
all_said m [] w = refl
all_said m (r ∷ rs) w = let h : r.start < LIMIT = (let a = w.1 in let b = w.2 in omega arith) in simp (lt-ltb _ _ h, le-leb _ _ w.2) (all_said (r.end + 1) rs w.3)

-- ---- read back

pub ack-back : (seq : ℕ) (rs : List Range) → seq < LIMIT → 0 < length rs → Rising 0 rs → (q : List ℕ)
    → ack (ack_bytes seq rs ++ q) 1 ≡ ok (record { sequence = seq; ranges = rs }) (length (ack_bytes seq rs))
ack-back seq rs h s w q = read_back seq rs h (all_said 0 rs w) (rises-true 0 rs s w) q

type-first : (seq : ℕ) (rs : List Range) (q : List ℕ) → get_or (ack_bytes seq rs ++ q) 0 0 ≡ type_byte_of
unfolding ack_bytes
type-first seq rs q = refl

pub packet-back : (seq : ℕ) (rs : List Range) → seq < LIMIT → 0 < length rs → Rising 0 rs → (q : List ℕ)
    → p.packet (ack_bytes seq rs ++ q) 0 ≡ ok (p.ack (record { sequence = seq; ranges = rs })) (length (ack_bytes seq rs))
packet-back seq rs h s w q =
    let b = some_bytes seq rs in
    let l : 1 ≤ length (ack_bytes seq rs ++ q) = rw length-append (omega arith) in
    ack-is (ack_bytes seq rs ++ q) l (type-first seq rs q) ∙ ap (p.mapped p.ack) (ack-back seq rs h s w q)

-- equal bytes are read as equal ranges
abbrev read_ranges : Res Ack → List Range
read_ranges (ok a n) = a.ranges
read_ranges (fault e) = []

pub bytes-tell : (seq : ℕ) (rs qs : List Range) → seq < LIMIT → 0 < length rs → 0 < length qs → Rising 0 rs → Rising 0 qs → ack_bytes seq rs ≡ ack_bytes seq qs → rs ≡ qs
bytes-tell seq rs qs h s t w u e =
    ap read_ranges (sym (ack-back seq rs h s w []) ∙ ap (λ (bs : List ℕ). ack (bs ++ []) 1) e ∙ ack-back seq qs h t u [])
